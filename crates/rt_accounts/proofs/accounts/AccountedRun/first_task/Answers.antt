use Rattle.rt_accounts.proofs.Common.{length, sym, ◌∙◌, ◌<◌, ◌≤◌, arith}
use Rattle.rt_accounts.specs.Failures.{counts}
use Rattle.rt_accounts.proofs.AccountLemmas.{many, passes, ends, ends-behind}
use Rattle.rt_accounts.proofs.accounts.AccountedRun.first_task.Goals as goal

pub returns-then-counts : goal.returns-then-counts
returns-then-counts c = λ set t has.
    let count = many set t c.args.self.now.machine has.machine c.count-task-end.result c.count-task-end.ensures in
    let less : c.loop-task.task < length set.tasks = omega (arith, count, c.loop-task-test.true) in
    sym (c.loop-task.invariant set t has ∙ ends (counts c.args.failing c.args.except.now set t) c.loop-task.task (length set.tasks) less (sym (c.counts.ensures set t has) ∙ c.if-counts.true))

pub loop-task-preserved : goal.loop-task-preserved
loop-task-preserved c = λ set t has.
    let count = many set t c.args.self.now.machine has.machine c.count-task-end.result c.count-task-end.ensures in
    let less : c.loop-task.task < length set.tasks = omega (arith, count, c.loop-task-test.true) in
    c.loop-task.invariant set t has ∙ passes (counts c.args.failing c.args.except.now set t) c.loop-task.task (length set.tasks) less (sym (c.counts.ensures set t has) ∙ c.if-counts.false)

pub returns : goal.returns
returns c = λ set t has.
    let count = many set t c.args.self.now.machine has.machine c.count-task-end.result c.count-task-end.ensures in
    let behind : length set.tasks ≤ c.loop-task.task = omega (arith, count, c.loop-task-test.false) in
    sym (c.loop-task.invariant set t has ∙ ends-behind (counts c.args.failing c.args.except.now set t) c.loop-task.task (length set.tasks) behind)
