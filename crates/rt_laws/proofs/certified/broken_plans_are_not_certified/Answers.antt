use Rattle.rt_laws.proofs.Seen.{broken-seen}
use Rattle.rt_laws.proofs.certified.broken_plans_are_not_certified.Goals as goal

pub returns : goal.returns
returns c = broken-seen
