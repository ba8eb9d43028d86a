use Rattle.std.specs.Prelude.{◌≡◌, drop}
use Rattle.rt_desk.proofs.Common.{first_said}
use Rattle.rt_desk.proofs.reading.texts.first_said.Given as goal

abbrev pub invariant-loop-byte : goal.invariant-loop-byte
invariant-loop-byte l = first_said l.text ≡ first_said (drop l.byte-index l.text)
