-- What a list of names says: the symbols of an image of n bytes, and how many of the names are left out.
use Rattle.std.specs.Prelude.{ℕ, ◌+◌, ◌-◌, ◌^◌, ◌==◌, ◌&&◌, ◌||◌, not, nat_lt, length, map, List, [], ◌∷◌, Bool, false, Option, Some, None, Result, Ok, Err, if◌then◌else◌}
use Rattle.std.specs.Str.{bytes_eq}
use Rattle.rt_words.specs.Found.{◌>>=◌, when}
use Rattle.rt_words.specs.Limits.{symbol_limit}
use Rattle.rt_words.specs.Run.{run}
use Rattle.rt_token.specs.Number.{value_up_to}
use Rattle.rt_token.specs.SourceLines.{source_lines}
use Rattle.rt_token.specs.SpacedWords.{word_at}
use Rattle.rt_token.specs.Word.{is_word}
use Rattle.rt_image.specs.ObjectFile.{Label, is_name_size, is_placed, is_before}
use Rattle.rt_elf.specs.flat.Shown.{is_shown}

-- an address: eight hexadecimal digits
abbrev pub address_of : List ℕ → Option ℕ
address_of digits = if length digits == 8 then value_up_to (2 ^ 32 - 1) 16 digits else None

-- a line `ADDRESS LETTER NAME`: single spaces, a letter of one byte, and a name that isn't empty
unfoldable pub symbol_of : List ℕ → Option Label
symbol_of line = do
  digits ← word_at line
  address ← address_of digits.0
  letter ← word_at digits.1
  when (length letter.0 == 1 && nat_lt 0 (length letter.1)) (record { name = letter.1; address = address })

-- the symbols that are kept, in the order of their names' bytes, and how many names are left out
pub record Named : Type 0 where
  pub symbols : List Label
  pub left_out : ℕ

-- a symbol that an object of n bytes may have
abbrev pub may_stand : ℕ → Label → Bool
may_stand n l = is_name_size (length l.name) && is_word l.name && is_placed n l.address

abbrev pub has_name : List ℕ → List Label → Bool
has_name name [] = false
has_name name (l ∷ ls) = bytes_eq name l.name || has_name name ls

-- the symbol behind those whose names stand before its own
abbrev pub put : Label → List Label → List Label
put l [] = l ∷ []
put l (m ∷ ms) = if is_before m.name l.name then m ∷ put l ms else l ∷ m ∷ ms

-- it is kept where the object may have it, and its name is new
abbrev pub is_kept : ℕ → List Label → Label → Bool
is_kept n symbols l = may_stand n l && not (has_name l.name symbols)

-- one more symbol; none where there is no room for it
unfoldable pub after_symbol : ℕ → Named → Label → Option Named
after_symbol n named l =
    if is_kept n named.symbols l
    then when (nat_lt (length named.symbols) symbol_limit) (record { symbols = put l named.symbols; left_out = named.left_out })
    else Some (record { symbols = named.symbols; left_out = named.left_out + 1 })

-- a name that nm doesn't show is neither kept nor counted
abbrev pub after_shown : ℕ → Named → Label → Option Named
after_shown n named l = if is_shown l.name then after_symbol n named l else Some named

-- one more line; none where it is faulty. An empty line says nothing.
abbrev pub after_line : ℕ → Named → List ℕ → Option Named
after_line n named line = if length line == 0 then Some named else (symbol_of line >>= after_shown n named)

abbrev pub or_faulty : Option Named → Result Named (Unit {0})
or_faulty None = Err tt
or_faulty (Some named) = Ok named

-- reads lines behind those that were read, the first of them being this line of its text
abbrev pub names_from : ℕ → ℕ → Named → List (List ℕ) → Result Named ℕ
names_from n number named lines = run (λ line _. line) (λ before line. or_faulty (after_line n before line)) number named lines

-- the lines of a text, those of assembly text without their places
abbrev pub name_lines : List ℕ → List (List ℕ)
name_lines text = map (λ line. line.1) (source_lines 0 text)

-- what a whole text says, or the number of its first faulty line; lines count from 1
abbrev pub names_of : ℕ → List ℕ → Result Named ℕ
names_of n text = names_from n 1 (record { symbols = []; left_out = 0 }) (name_lines text)
