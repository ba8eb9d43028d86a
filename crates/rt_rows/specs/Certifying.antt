-- Programs that are certified.
use Rattle.std.specs.Prelude.{ℕ, ◌-◌, List, true, false, [], ◌∷◌}
use Rattle.std.specs.List.{flat_map}
use Rattle.rt_words.specs.Base.{base}
use Rattle.rt_history.specs.Program.{Origin}
use Rattle.rt_history.specs.Job.{Job}
use Rattle.rt_rows.specs.Sets.{word_bytes}

-- The words of `beat`, which sleeps until 10, 20, 30, ..: each of its jobs has three attempts.
abbrev pub beat : Origin
beat = record {
  entry = 0x80000000;
  bytes = 0x93 ∷ 0x08 ∷ 0x20 ∷ 0x00 ∷ 0x13 ∷ 0x05 ∷ 0xA5 ∷ 0x00 ∷ 0x73 ∷ 0x00 ∷ 0x00 ∷ 0x00 ∷ 0x6F ∷ 0xF0 ∷ 0x9F ∷ 0xFF ∷ [];
  ram = 64;
  split = false;
}

-- the image of these words, in 64 bytes of RAM
abbrev pub origin_of : List ℕ → Origin
origin_of words = record { entry = base; bytes = flat_map word_bytes words; ram = 64; split = false }

-- li a7,0; ecall
abbrev pub ending : Origin
ending = origin_of (0x00000893 ∷ 0x00000073 ∷ [])

-- li a7,1; li a1,0; ecall; li a7,0; ecall: a write of no bytes, and the end
abbrev pub writing_then_ending : Origin
writing_then_ending = origin_of (0x00100893 ∷ 0x00000593 ∷ 0x00000073 ∷ 0x00000893 ∷ 0x00000073 ∷ [])

-- li a7,1; li a1,1; ecall; li a7,0; ecall: a write of the byte at address 0, which is refused, and the end
abbrev pub refused_then_ending : Origin
refused_then_ending = origin_of (0x00100893 ∷ 0x00100593 ∷ 0x00000073 ∷ 0x00000893 ∷ 0x00000073 ∷ [])

-- li a7,3; ecall
abbrev pub yielding : Origin
yielding = origin_of (0x00300893 ∷ 0x00000073 ∷ [])

-- a job of four ticks that is released at 0 and takes so many
abbrev pub job_of_four : ℕ → Job
job_of_four taken = record { release = 0; finish = taken - 1; ticks = 4; fresh = true; budget = 2; calm = true }
