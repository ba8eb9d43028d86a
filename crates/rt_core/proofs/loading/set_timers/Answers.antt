use Rattle.rt_core.proofs.Common.{◌≡◌, ◌++◌, ◌-◌, List, ℕ, Option, Some, None, length, map, take, replicate, slice_set, ap, ◌∙◌, set_tasks, start_key}
use Rattle.rt_core.proofs.LoadingLemmas.{timers_more}
use Rattle.rt_core.proofs.loading.set_timers.Goals as goal

pub loop-number-preserved : goal.loop-number-preserved
loop-number-preserved g c =
    let n = c.loop-number.number in
    let start : Some c.from.result ≡ Some c.index-tasks-number.result.start = ap Some c.from.ensures in
    c.insert.ensures
    ∙ ap (λ (keys : List (Option ℕ)). slice_set keys n (Some c.from.result)) c.loop-number.invariant
    ∙ ap (slice_set (take n (map start_key (set_tasks c.args.tasks.now)) ++ replicate (length c.args.tasks.now - n) None) n) start
    ∙ timers_more c.args.tasks.now n c.index-tasks-number.result c.loop-number-test.true c.index-tasks-number.is
