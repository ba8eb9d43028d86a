use Rattle.rt_elf.proofs.OrderLemmas.{flat_image}
use Rattle.rt_elf.proofs.laws.one_segment_is_a_flat_image.Goals as goal

pub returns : goal.returns
returns c = flat_image
