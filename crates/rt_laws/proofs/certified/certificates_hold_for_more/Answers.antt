use Rattle.rt_laws.proofs.Seen.{certified-weaker}
use Rattle.rt_laws.proofs.certified.certificates_hold_for_more.Goals as goal

pub returns : goal.returns
returns c = certified-weaker
