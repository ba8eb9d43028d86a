use Rattle.rt_certify.proofs.InTime.{in_time}
use Rattle.rt_certify.proofs.certified_sets.certified_set_is_in_time.Goals as goal

pub returns : goal.returns
returns c = in_time
