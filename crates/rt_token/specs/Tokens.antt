-- The tokens of a line of assembly text.
use Rattle.std.specs.Prelude.{ℕ, Bool, true, false, ◌==◌, ◌||◌, ◌+◌, ◌-◌, if◌then◌else◌, List, [], ◌∷◌, take, Option, Some, None, zero, suc}
use Rattle.std.specs.Char.{is_ascii_digit}
use Rattle.std.specs.Int.{is_in_range}
use Rattle.std.specs.List.{prefix_len}
use Rattle.std.specs.Option.{option_map, option_and_then}
use Rattle.std.specs.Str.{byte}
use Rattle.rt_token.specs.Word.{is_word_start, is_word_part}
use Rattle.rt_token.specs.declared.tokens.Kind.{Kind}
use Rattle.rt_token.specs.declared.tokens.Kind.TheVariants.{Word, Number, Text, Comma, Open, Close, Colon}
use Rattle.rt_token.specs.declared.tokens.Token.{Token}

-- space and tab separate tokens
abbrev pub is_blank : ℕ → Bool
is_blank b = b == byte " " || b == byte "\t"

-- the tokens of one byte: ',' '(' ')' ':'
abbrev pub mark_kind : ℕ → Option Kind
mark_kind b =
    if b == byte "," then Some Comma
    else (if b == byte "(" then Some Open
    else (if b == byte ")" then Some Close
    else (if b == byte ":" then Some Colon
    else None)))

-- a byte that stands for itself in a string: ' ' to '~' (and neither '"' nor '\')
abbrev pub is_printable : ℕ → Bool
is_printable b = is_in_range (byte " ") (byte "~") b

-- what may stand after '\' in a string: 'n' 't' '\' '"'
abbrev pub is_escape : ℕ → Bool
is_escape b = b == byte "n" || b == byte "t" || b == byte "\\" || b == byte "\""

-- how many bytes of a string are left, its last '"' included; escaped: a '\' stands before them
abbrev pub string_rest : Bool → List ℕ → Option ℕ
string_rest escaped [] = None
string_rest true (b ∷ bs) = if is_escape b then option_map suc (string_rest false bs) else None
string_rest false (b ∷ bs) =
    if b == byte "\"" then Some 1
    else (if b == byte "\\" then option_map suc (string_rest true bs)
    else (if is_printable b then option_map suc (string_rest false bs)
    else None))

abbrev pub begins_with_digit : List ℕ → Bool
begins_with_digit [] = false
begins_with_digit (b ∷ bs) = is_ascii_digit b

-- the kind of the token that begins with a byte, and how many bytes it takes; none where no token begins so
abbrev pub token_at : ℕ → List ℕ → Option (Kind × ℕ)
token_at b bs =
    if is_word_start b then Some (Word, 1 + prefix_len is_word_part bs)
    else (if is_ascii_digit b then Some (Number, 1 + prefix_len is_word_part bs)
    else (if b == byte "-" then (if begins_with_digit bs then Some (Number, 1 + prefix_len is_word_part bs) else None)
    else (if b == byte "\"" then option_map (λ n. (Text, 1 + n)) (string_rest false bs)
    else option_map (λ kind. (kind, 1)) (mark_kind b))))

-- the token of this kind and length at the front of the bytes
abbrev pub token : ℕ → Kind × ℕ → List ℕ → Token
token place found bs = record { kind = found.0; slice = record { start = place; text = take found.1 bs } }

abbrev pub with_front : {A : Type 0} → A → Option (List A) → Option (List A)
with_front x rest = option_map (λ xs. x ∷ xs) rest

-- the tokens of a line whose first byte lies at place, up to a comment, which begins with '#'; none where a byte begins no token.
-- left: how many bytes at the front still belong to the token before
abbrev pub tokens : ℕ → ℕ → List ℕ → Option (List Token)
tokens place left [] = Some []
tokens place (suc left) (b ∷ bs) = tokens (place + 1) left bs
tokens place zero (b ∷ bs) =
    if is_blank b then tokens (place + 1) zero bs
    else (if b == byte "#" then Some []
    else option_and_then (λ found. with_front (token place found (b ∷ bs)) (tokens (place + 1) (found.1 - 1) bs)) (token_at b bs))
