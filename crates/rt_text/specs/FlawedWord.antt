-- A word with what is wrong with it.
use Rattle.std.specs.Prelude.{ℕ, ◌+◌}
use Rattle.rt_token.specs.Slice.{Slice}
use Rattle.rt_text.specs.Operands.{span_at}
use Rattle.rt_text.specs.declared.refused_words.Flaw.{Flaw}
use Rattle.rt_text.specs.declared.refused_words.RefusedWord.{RefusedWord}

-- the bytes of a text from start to end
abbrev pub flawed : Flaw → ℕ → ℕ → RefusedWord
flawed flaw start end = record { flaw = flaw; span = record { start = start; end = end } }

abbrev pub flawed_slice : Flaw → Slice → RefusedWord
flawed_slice flaw s = record { flaw = flaw; span = span_at s }

-- one byte of a line
abbrev pub flawed_byte : Flaw → ℕ → RefusedWord
flawed_byte flaw place = flawed flaw place (place + 1)
