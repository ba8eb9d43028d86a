use Rattle.rt_isa.proofs.OneRow.{one_row}
use Rattle.rt_isa.proofs.laws.one_row.Goals as goal

pub returns : goal.returns
returns c = one_row
