-- The word for which a line of a list of names is refused: the first that isn't an address, a letter or a name in its place.
use Rattle.std.specs.Prelude.{ℕ, ◌-◌, ◌==◌, nat_le, length, List, [], Bool, true, false, Option, Some, None, if◌then◌else◌}
use Rattle.std.specs.Option.{option_map}
use Rattle.rt_token.specs.SpacedWords.{word_at}
use Rattle.rt_elf.specs.flat.FlatNames.{address_of}

abbrev pub is_found : {A : Type 0} → Option A → Bool
is_found None = false
is_found (Some x) = true

-- what is left of a line from the refused word on, which is behind its address: nothing where the line ends too early
abbrev pub after_address : List ℕ → Option (List ℕ × List ℕ) → Option (List ℕ)
after_address rest None = if nat_le (length rest) 1 then Some [] else Some rest
after_address rest (Some x) = if length x.0 == 1 then (if length x.1 == 0 then Some [] else None) else Some rest

-- the same of a whole line
abbrev pub from_address : List ℕ → Option (List ℕ × List ℕ) → Option (List ℕ)
from_address line None = if is_found (address_of line) then Some [] else Some line
from_address line (Some x) = if is_found (address_of x.0) then after_address x.1 (word_at x.1) else Some line

abbrev pub refused_from : List ℕ → Option (List ℕ)
refused_from line = from_address line (word_at line)

-- what stands before the first space, or all where there is none
abbrev pub word_or_all : List ℕ → Option (List ℕ × List ℕ) → List ℕ
word_or_all rest None = rest
word_or_all rest (Some x) = x.0

-- where the word begins, counted from the line's first byte, and its bytes
abbrev pub refused_word : List ℕ → Option (ℕ × List ℕ)
refused_word line = option_map (λ rest. (length line - length rest, word_or_all rest (word_at rest))) (refused_from line)
