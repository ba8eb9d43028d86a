-- Bytes, two digits for each.
use Rattle.std.specs.Prelude.{ℕ, ◌+◌, ◌-◌, ◌&&◌, nat_lt, nat_le, if◌then◌else◌, min, Bool, List, ◌++◌, length, take, drop, Option, Some, None, codes}
use Rattle.rt_words.specs.Base.{base}
use Rattle.rt_packet.specs.answer.Registers.{pairs}

-- whether the byte at an address is in RAM
abbrev pub is_in_ram : List ℕ → ℕ → Bool
is_in_ram ram address = nat_le base address && nat_lt address (base + length ram)

-- at most count and 2000 bytes of RAM from an address on, of which the first is there
abbrev pub memory_text : List ℕ → ℕ → ℕ → Option (List ℕ)
memory_text ram address count = if is_in_ram ram address then Some (pairs (take (min count 2000) (drop (address - base) ram))) else None

-- the first 2048 bytes
abbrev pub bytes_text : List ℕ → List ℕ
bytes_text bytes = pairs (take 2048 bytes)

-- what a console prints, as far as its first 1024 bytes
abbrev pub console_text : List ℕ → List ℕ
console_text text = codes "O" ++ pairs (take 1024 text)
