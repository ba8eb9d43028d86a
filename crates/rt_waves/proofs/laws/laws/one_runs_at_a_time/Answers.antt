use Rattle.rt_waves.proofs.laws.RunningLaw.{one-runs}
use Rattle.rt_waves.proofs.laws.laws.one_runs_at_a_time.Goals as goal

pub returns : goal.returns
returns c = one-runs
