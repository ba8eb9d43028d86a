-- The grammar of tokens, as a relation between the bytes of a line and its tokens.
use Rattle.std.specs.Prelude.{ℕ, true, false, ◌≡◌, ◌≢◌, ◌+◌, ◌⊎◌, length, codes, List, [], ◌∷◌, ◌++◌}
use Rattle.std.specs.Char.{is_ascii_digit}
use Rattle.std.specs.List.{list_all}
use Rattle.std.specs.Str.{byte}
use Rattle.rt_token.specs.Word.{is_word, is_word_part}
use Rattle.rt_token.specs.Tokens.{is_blank, is_printable, is_escape}
use Rattle.rt_token.specs.declared.tokens.Kind.{Kind}
use Rattle.rt_token.specs.declared.tokens.Kind.TheVariants.{Word, Number, Text, Comma, Open, Close, Colon}
use Rattle.rt_token.specs.declared.tokens.Token.{Token}

-- a digit, and then letters, digits, '_', '.', '$'
abbrev pub IsDigitRun : List ℕ → Type 0
IsDigitRun [] = ⊥
IsDigitRun (b ∷ bs) = (is_ascii_digit b ≡ true) × (list_all is_word_part bs ≡ true)

-- the same, with '-' before it or not
abbrev pub IsNumberText : List ℕ → Type 0
IsNumberText text = IsDigitRun text ⊎ ((bs : List ℕ) × (text ≡ byte "-" ∷ bs) × IsDigitRun bs)

-- a string without its first '"': bytes from ' ' to '~' but '"' and '\', and escapes, up to its last '"'
pub data IsStringRest : List ℕ → Type 0 where
  last : IsStringRest (byte "\"" ∷ [])
  plain : (b : ℕ) (bs : List ℕ) → b ≢ byte "\"" → b ≢ byte "\\" → is_printable b ≡ true → IsStringRest bs → IsStringRest (b ∷ bs)
  escape : (b : ℕ) (bs : List ℕ) → is_escape b ≡ true → IsStringRest bs → IsStringRest (byte "\\" ∷ b ∷ bs)

-- the bytes of a token of each kind
abbrev pub IsText : Kind → List ℕ → Type 0
IsText Word text = is_word text ≡ true
IsText Number text = IsNumberText text
IsText Text text = (bs : List ℕ) × (text ≡ byte "\"" ∷ bs) × IsStringRest bs
IsText Comma text = text ≡ codes ","
IsText Open text = text ≡ codes "("
IsText Close text = text ≡ codes ")"
IsText Colon text = text ≡ codes ":"

-- the byte that follows doesn't belong to the word or the number
abbrev pub EndsRun : List ℕ → Type 0
EndsRun [] = Unit {0}
EndsRun (b ∷ bs) = is_word_part b ≡ false

-- a word and a number have as many bytes as there are
abbrev pub IsLongest : Kind → List ℕ → Type 0
IsLongest Word rest = EndsRun rest
IsLongest Number rest = EndsRun rest
IsLongest _ rest = Unit {0}

-- the bytes, of which the first lies at place, are these tokens: each token is the slice that begins where it says
pub data AreTokens : ℕ → List ℕ → List Token → Type 0 where
  end : (place : ℕ) → AreTokens place [] []
  comment : (place : ℕ) (bs : List ℕ) → AreTokens place (byte "#" ∷ bs) []
  blank : (place b : ℕ) (bs : List ℕ) (ts : List Token) → is_blank b ≡ true → AreTokens (place + 1) bs ts → AreTokens place (b ∷ bs) ts
  token : (place : ℕ) (kind : Kind) (text rest : List ℕ) (ts : List Token) → IsText kind text → IsLongest kind rest → AreTokens (place + length text) rest ts → AreTokens place (text ++ rest) (record { kind = kind; slice = record { start = place; text = text } } ∷ ts)
