-- How a string is spelled, as a relation between its text and the bytes that it means.
use Rattle.std.specs.Prelude.{ℕ, ◌≡◌, ◌≢◌, true, List, [], ◌∷◌}
use Rattle.std.specs.Str.{byte}
use Rattle.rt_token.specs.Tokens.{is_printable}

-- what a byte behind '\' stands for: 'n' for a line feed, 't' for a tab, '\' and '"' for themselves
pub data IsEscape : ℕ → ℕ → Type 0 where
  line_feed : IsEscape (byte "n") (byte "\n")
  tab : IsEscape (byte "t") (byte "\t")
  backslash : IsEscape (byte "\\") (byte "\\")
  quote : IsEscape (byte "\"") (byte "\"")

-- a string without its first '"': bytes from ' ' to '~' but '"' and '\', which stand for themselves, and escapes, up to its last '"'
pub data SpellsRest : List ℕ → List ℕ → Type 0 where
  last : SpellsRest (byte "\"" ∷ []) []
  plain : (b : ℕ) (text bytes : List ℕ) → b ≢ byte "\"" → b ≢ byte "\\" → is_printable b ≡ true → SpellsRest text bytes → SpellsRest (b ∷ text) (b ∷ bytes)
  escape : (b value : ℕ) (text bytes : List ℕ) → IsEscape b value → SpellsRest text bytes → SpellsRest (byte "\\" ∷ b ∷ text) (value ∷ bytes)

-- a string with its quotes
abbrev pub Spells : List ℕ → List ℕ → Type 0
Spells text bytes = (rest : List ℕ) × (text ≡ byte "\"" ∷ rest) × SpellsRest rest bytes
