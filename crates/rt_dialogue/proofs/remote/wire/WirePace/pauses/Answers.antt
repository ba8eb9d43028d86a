use Rattle.rt_dialogue.proofs.remote.WaitLemmas.{joins}
use Rattle.rt_dialogue.proofs.remote.wire.WirePace.pauses.Goals as goal

pub returns-in-1-clause-goes : goal.returns-in-1-clause-goes
returns-in-1-clause-goes g c = (c.beat.ensures.input, c.beat.ensures.out, λ first led. joins g.S.Sink.seen first _ _ led c.beat.ensures.waits)
