use Rattle.rt_laws.proofs.Isolation.{alike}
use Rattle.rt_laws.proofs.laws.others_do_not_enter.Goals as goal

pub returns : goal.returns
returns c = alike
