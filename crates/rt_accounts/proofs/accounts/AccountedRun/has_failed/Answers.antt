use Rattle.rt_accounts.proofs.Common.{◌≡◌, ◌<◌, ◌≤◌, length, true, false, refl, arith}
use Rattle.std.proofs.Common.{nat_lt}
use Rattle.std.proofs.lemmas.Bool.Decides.{nat_tests}
use Rattle.rt_accounts.proofs.AccountLemmas.{many}
use Rattle.rt_accounts.proofs.accounts.AccountedRun.has_failed.Goals as goal

pub returns-then-failure-count : goal.returns-then-failure-count
returns-then-failure-count c = λ set t has.
    let count = many set t c.args.self.now.machine has.machine c.count.result c.count.ensures in
    let less : c.args.failure.task < length set.tasks = omega (arith, count, c.if-failure-count.true) in
    let below : nat_lt c.args.failure.task (length set.tasks) ≡ true = grind (arith, nat_tests, less) in
    rw below (c.has_happened.ensures set t has)

pub returns-else-failure-count : goal.returns-else-failure-count
returns-else-failure-count c = λ set t has.
    let count = many set t c.args.self.now.machine has.machine c.count.result c.count.ensures in
    let least : length set.tasks ≤ c.args.failure.task = omega (arith, count, c.if-failure-count.false) in
    let most : c.count.result ≤ c.args.failure.task = omega (arith, c.if-failure-count.false) in
    let beyond : nat_lt c.args.failure.task c.count.result ≡ false = grind (arith, nat_tests, most) in
    let outside : nat_lt c.args.failure.task (length set.tasks) ≡ false = grind (arith, nat_tests, least) in
    rw (beyond, outside) refl
