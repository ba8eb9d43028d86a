-- What was read and said so far.
use Rattle.rt_dialogue.proofs.Common.{◌≡◌, ℕ, List, Some, HasSaid}
use Rattle.rt_dialogue.proofs.remote.AskLemmas.{InBeat}
use Rattle.rt_dialogue.proofs.remote.beats.beat.Given as goal

abbrev pub invariant-loop : goal.invariant-loop
invariant-loop g l = (bytes text : List ℕ) → g.I.Read.remaining l.initial.input ≡ Some bytes → HasSaid g.S.Sink.seen text l.initial.out
    → InBeat g.S.Sink.seen bytes text (g.I.Read.remaining l.input) l.out
