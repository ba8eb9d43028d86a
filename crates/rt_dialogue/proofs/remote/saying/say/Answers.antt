use Rattle.rt_dialogue.proofs.SayLemmas.{spoken}
use Rattle.rt_dialogue.proofs.remote.saying.say.Goals as goal

pub returns-clause-says : goal.returns-clause-says
returns-clause-says g c = λ text said. spoken g.S.Sink.seen _ _ _ text _ _ _ said (c.put.ensures said.is_open) c.flush.ensures.steps
