use Rattle.rt_packet.proofs.PacketLemmas.{noise_passes}
use Rattle.rt_packet.proofs.laws.noise_is_dropped.Goals as goal

pub returns : goal.returns
returns c = noise_passes
