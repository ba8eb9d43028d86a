-- A task's registers and numbers, each with its low byte first.
use Rattle.std.specs.Prelude.{ℕ, ◌==◌, if◌then◌else◌, nat_lt, List, ◌++◌, slice_index, Option, Some, None}
use Rattle.std.specs.Int.{w32, w64, to_le_bytes}
use Rattle.std.specs.List.{flat_map}
use Rattle.rt_words.specs.Hex.{hex}
use Rattle.rt_packet.specs.declared.answer.registers.TaskNumbers.{TaskNumbers}

-- two digits for each byte
abbrev pub pairs : List ℕ → List ℕ
pairs bytes = flat_map (hex 2) bytes

-- a number of 32 bits, and one of 64 bits
abbrev pub word_text : ℕ → List ℕ
word_text word = pairs (to_le_bytes w32 word)

abbrev pub long_text : ℕ → List ℕ
long_text number = pairs (to_le_bytes w64 number)

-- x0 to x31 and pc
abbrev pub registers_text : List ℕ → ℕ → List ℕ
registers_text x pc = flat_map word_text x ++ word_text pc

-- the register or the number of an index, if it has one
abbrev pub register_text : TaskNumbers → ℕ → Option (List ℕ)
register_text numbers n =
    if nat_lt n 32 then Some (word_text (slice_index numbers.x.now n))
    else (if n == 0x20 then Some (word_text numbers.pc)
    else (if n == 0x21 then Some (long_text numbers.tick)
    else (if n == 0x22 then Some (word_text numbers.budget)
    else (if n == 0x23 then Some (long_text numbers.deadline)
    else None))))
