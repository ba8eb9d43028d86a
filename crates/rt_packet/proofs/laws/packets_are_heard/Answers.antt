use Rattle.rt_packet.proofs.PacketLemmas.{packet_right, packet_too_long}
use Rattle.rt_packet.proofs.laws.packets_are_heard.Goals as goal

pub returns-clause-right : goal.returns-clause-right
returns-clause-right c = packet_right

pub returns-clause-too_long : goal.returns-clause-too_long
returns-clause-too_long c = packet_too_long
