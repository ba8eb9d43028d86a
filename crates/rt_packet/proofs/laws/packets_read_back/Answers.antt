use Rattle.rt_packet.specs.Packet.{packet_of}
use Rattle.rt_packet.proofs.PacketLemmas.{packet_right, packet_too_long, out_is_packet}
use Rattle.rt_packet.proofs.laws.packets_read_back.Goals as goal

pub returns-clause-right : goal.returns-clause-right
returns-clause-right c payload plain short = packet_right (packet_of payload) payload (out_is_packet payload plain) short

pub returns-clause-too_long : goal.returns-clause-too_long
returns-clause-too_long c payload plain long = packet_too_long (packet_of payload) payload (out_is_packet payload plain) long
