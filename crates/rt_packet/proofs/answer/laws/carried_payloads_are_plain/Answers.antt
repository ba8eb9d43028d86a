use Rattle.rt_packet.proofs.answer.PlainLemmas.{plain}
use Rattle.rt_packet.proofs.answer.laws.carried_payloads_are_plain.Goals as goal

pub returns : goal.returns
returns c = plain
