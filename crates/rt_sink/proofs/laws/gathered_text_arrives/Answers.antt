use Rattle.rt_sink.proofs.Flushed.{text_arrives}
use Rattle.rt_sink.proofs.laws.gathered_text_arrives.Goals as goal

pub returns : goal.returns
returns g c = text_arrives g.S.Sink.seen
