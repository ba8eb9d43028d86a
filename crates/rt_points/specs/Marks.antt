-- Marks at places: for each word of a RAM the tasks that have one there, as bits.
use Rattle.std.specs.Prelude.{ℕ, ◌==◌, ◌&&◌, ◌/◌, ◌%◌, Bool, List, get_or}
use Rattle.std.specs.Int.{bit_at}

-- the word of the largest RAM, modulo its size
abbrev pub word_of : ℕ → ℕ
word_of pc = pc / 4 % 262144

-- whether a place is marked
abbrev pub is_marked : List ℕ → ℕ → ℕ → Bool
is_marked words task pc = bit_at (get_or words (word_of pc) 0) (task % 64) == 1

-- whether two places have one mark
abbrev pub share_mark : ℕ → ℕ → ℕ → ℕ → Bool
share_mark task pc other_task other_pc = (word_of pc == word_of other_pc) && (task % 64 == other_task % 64)
