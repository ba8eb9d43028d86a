-- A read that was interrupted leaves the input as it was.
use Rattle.rt_dialogue.proofs.Common.{◌≡◌, ℕ, List, Some}
use Rattle.rt_dialogue.proofs.reading.next_byte.Given as goal

abbrev pub invariant-loop : goal.invariant-loop
invariant-loop g l = (bytes : List ℕ) → g.I.Read.remaining l.initial.input ≡ Some bytes → g.I.Read.remaining l.input ≡ Some bytes
