use Rattle.rt_packet.proofs.TrackLemmas.{right_is_packet}
use Rattle.rt_packet.proofs.laws.only_packets_are_right.Goals as goal

pub returns : goal.returns
returns c = right_is_packet
