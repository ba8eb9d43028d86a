use Rattle.rt_packet.proofs.PacketLemmas.{in_pieces}
use Rattle.rt_packet.proofs.laws.pieces_are_heard_alike.Goals as goal

pub returns : goal.returns
returns c = in_pieces
