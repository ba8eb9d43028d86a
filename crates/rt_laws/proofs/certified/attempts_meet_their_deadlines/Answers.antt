use Rattle.rt_laws.proofs.LongJobs.{long_on_time}
use Rattle.rt_laws.proofs.certified.attempts_meet_their_deadlines.Goals as goal

pub returns : goal.returns
returns c = long_on_time
