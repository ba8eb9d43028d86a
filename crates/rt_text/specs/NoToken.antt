-- The byte of a line that begins no token, or the piece of a string for which it is none.
use Rattle.std.specs.Prelude.{ℕ, Bool, true, false, is_some, zero, suc, ◌==◌, ◌+◌, ◌-◌, if◌then◌else◌, List, [], ◌∷◌, take, drop}
use Rattle.std.specs.Str.{byte}
use Rattle.rt_token.specs.Tokens.{tokens, is_escape, is_printable}
use Rattle.rt_text.specs.FlawedWord.{flawed, flawed_byte}
use Rattle.rt_text.specs.declared.refused_words.Flaw.TheVariants.{Byte, InString, Escape, Endless}
use Rattle.rt_text.specs.declared.refused_words.RefusedWord.{RefusedWord}

-- how many bytes stand before the first that begins no token: the longest front of at most n bytes that is tokens
abbrev pub tokens_len : ℕ → ℕ → List ℕ → ℕ
tokens_len place zero line = 0
tokens_len place (suc n) line = if is_some (tokens place 0 (take (suc n) line)) then suc n else tokens_len place n line

-- the piece for which the bytes behind a '"' are no string; the first of them lies at place, and a '\' stands before it or not
abbrev pub string_piece : ℕ → Bool → ℕ → List ℕ → RefusedWord
string_piece quote escaped place [] = flawed Endless quote place
string_piece quote true place (b ∷ bs) = if is_escape b then string_piece quote false (place + 1) bs else flawed Escape (place - 1) (place + 1)
string_piece quote false place (b ∷ bs) =
    if b == byte "\\" then string_piece quote true (place + 1) bs
    else (if is_printable b then string_piece quote false (place + 1) bs else flawed_byte InString place)

-- a byte that begins no token, or a piece of a string; it lies at place
abbrev pub no_token : ℕ → List ℕ → RefusedWord
no_token place [] = flawed_byte Byte place
no_token place (b ∷ bs) = if b == byte "\"" then string_piece place false (place + 1) bs else flawed_byte Byte place

abbrev pub no_token_behind : ℕ → List ℕ → ℕ → RefusedWord
no_token_behind place line n = no_token (place + n) (drop n line)
