use Rattle.rt_elf.proofs.OrderLemmas.{any_order}
use Rattle.rt_elf.proofs.laws.order_of_headers_does_not_matter.Goals as goal

pub returns : goal.returns
returns c = any_order
