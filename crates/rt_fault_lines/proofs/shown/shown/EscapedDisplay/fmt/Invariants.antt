use Rattle.std.proofs.Common.{◌≡◌, ℕ, List, ◌++◌, IsUtf8}
use Rattle.std.specs.Fmt.{HasWritten, IsPlainFormatter}
use Rattle.std.specs.Str.Iter.{chars_rest}
use Rattle.rt_fault_lines.specs.shown.Escaped.{escaped}
use Rattle.rt_fault_lines.proofs.shown.shown.EscapedDisplay.fmt.Given as goal

abbrev pub invariant-loop-letter : goal.invariant-loop-letter
invariant-loop-letter g l =
    (goal.iterator-loop-letter g).can_next l.letter-iterator
    × (goal.iterator-loop-letter g).is_finite l.letter-iterator
    × IsUtf8 (chars_rest l.letter-iterator)
    × (IsPlainFormatter l.initial.f → (done : List ℕ) × HasWritten g.W.Write.write_str_gives l.initial.f done l.f
    × (done ++ escaped l.fn.self.keeps_lines (chars_rest l.letter-iterator) ≡ escaped l.fn.self.keeps_lines l.fn.self.text.now))
