-- A text as the standard error shows it: none of its control characters reaches a terminal, nor one that turns the direction of what follows.
use Rattle.std.specs.Prelude.{ℕ, ◌/◌, ◌%◌, Bool, ◌==◌, ◌&&◌, ◌||◌, not, false, if◌then◌else◌, List, [], ◌∷◌, ◌++◌, codes}
use Rattle.std.specs.Int.{is_in_range}
use Rattle.std.specs.List.{flat_map}
use Rattle.std.specs.Char.{is_control, encode_utf8}
use Rattle.std.specs.Str.{chars}
use Rattle.std.specs.Fmt.{digit_glyph, digits}

-- no control character, but one that turns the direction of a text (a mark, an embedding, an override, an isolate or the end of one), or ends a line or a paragraph of it
abbrev pub turns : ℕ → Bool
turns c = c == 0x61C || is_in_range 0x200E 0x200F c || is_in_range 0x2028 0x202E c || is_in_range 0x2066 0x2069 c

-- a control character is shown as \x and its number in two hexadecimal digits, and one that turns as \u and its number in braces; line feeds may stay
abbrev pub shown : Bool → ℕ → List ℕ
shown keeps_lines c =
    if is_control c && not (keeps_lines && c == 10) then codes "\\x" ++ digit_glyph false (c / 16) ∷ digit_glyph false (c % 16) ∷ [] else if turns c then codes "\\u{" ++ digits 16 false c ++ codes "}" else encode_utf8 c

abbrev pub escaped : Bool → List ℕ → List ℕ
escaped keeps_lines text = flat_map (shown keeps_lines) (chars text)
