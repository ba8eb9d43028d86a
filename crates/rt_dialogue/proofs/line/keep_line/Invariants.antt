-- What was read of the line so far.
use Rattle.rt_dialogue.proofs.Common.{◌≡◌, ℕ, List, Some}
use Rattle.rt_dialogue.proofs.KeptLemmas.{InLine}
use Rattle.rt_dialogue.proofs.line.keep_line.Given as goal

abbrev pub invariant-loop : goal.invariant-loop
invariant-loop g l = (bytes : List ℕ) → g.I.Read.remaining l.initial.input ≡ Some bytes → (left : List ℕ) × (g.I.Read.remaining l.input ≡ Some left) × InLine bytes left l.line.items
