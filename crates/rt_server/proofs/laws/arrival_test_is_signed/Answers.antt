use Rattle.std.proofs.Common.{arith}
use Rattle.std.proofs.lemmas.Bool.Decides.{nat_tests}
use Rattle.rt_server.proofs.ArrivalLemmas.{signed-test}
use Rattle.rt_server.proofs.laws.arrival_test_is_signed.Goals as goal

pub returns : goal.returns
returns c = λ t s.
    let both = signed-test s.q s.p s.c s.d t in
    (λ h. both.0 (grind (arith, nat_tests, h)), λ h. let low = both.1 h in grind (arith, nat_tests, low))
