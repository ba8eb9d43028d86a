-- What was read and said so far.
use Rattle.rt_dialogue.proofs.Common.{◌≡◌, false, ℕ, List, [], Some, told}
use Rattle.rt_dialogue.specs.Responds.{GoesOn}
use Rattle.rt_dialogue.proofs.conversation.converse.Given as goal

abbrev pub invariant-loop : goal.invariant-loop
invariant-loop g l = record {
  is_open : (g.S.Sink.seen l.out.inner).failed ≡ false;
  went : (bytes : List ℕ) → g.I.Read.remaining l.initial.input ≡ Some bytes → told g.S.Sink.seen l.initial.out ≡ Some []
      → GoesOn g.S.Sink.seen (g.R.Responder.replies l.initial.responder bytes) [] (g.I.Read.remaining l.input) l.out (g.R.Responder.replies l.responder);
}
