use Rattle.rt_dialogue.proofs.remote.WaitLemmas.{beats_once}
use Rattle.rt_dialogue.proofs.remote.wire.Wire.beat.Goals as goal

pub returns-clause-waits : goal.returns-clause-waits
returns-clause-waits g c = beats_once g.S.Sink.seen _ _ c.requires c.left_behind-self.ensures c.beat-self.ensures.fails c.beat-self.ensures.runs
