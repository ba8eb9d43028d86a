use Rattle.rt_laws.proofs.BusyFits.{all_fit_busy}
use Rattle.rt_laws.proofs.laws.admitted_sets_fit_when_busy.Goals as goal

pub returns : goal.returns
returns c = all_fit_busy
