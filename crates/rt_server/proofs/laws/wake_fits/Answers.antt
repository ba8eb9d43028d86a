use Rattle.std.proofs.Common.{arith}
use Rattle.std.proofs.lemmas.Bool.Decides.{nat_tests}
use Rattle.rt_server.proofs.ArrivalLemmas.{kept_wake_fits}
use Rattle.rt_server.proofs.laws.wake_fits.Goals as goal

pub returns : goal.returns
returns c = λ t s within. grind (arith, nat_tests, kept_wake_fits)
