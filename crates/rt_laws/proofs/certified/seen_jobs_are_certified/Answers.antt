use Rattle.rt_laws.proofs.Seen.{certified-seen}
use Rattle.rt_laws.proofs.certified.seen_jobs_are_certified.Goals as goal

pub returns : goal.returns
returns c = certified-seen
