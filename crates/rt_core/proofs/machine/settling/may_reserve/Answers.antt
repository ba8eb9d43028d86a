use Rattle.rt_core.proofs.Common.{◌≡◌, ◌≤◌, map, All, sym, ap, subst, ◌∙◌, arith, All-map, reserved_of}
use Rattle.std.proofs.lemmas.List.{take_all}
use Rattle.rt_admit.specs.declared.reservation.Reserved.{Reserved}
use Rattle.rt_core.proofs.machine.settling.may_reserve.Goals as goal

pub trial-requires-clause-periods : goal.trial-requires-clause-periods
trial-requires-clause-periods g c =
    let all : c.deref.result.now ≡ map reserved_of c.args.tasks.now =
    c.deref.ensures.0 ∙ c.loop-task.invariant.items ∙ ap (map reserved_of) (take_all c.loop-task.task-index c.args.tasks.now (omega arith)) in
    subst (All (λ (r : Reserved). 1 ≤ r.period)) (sym all) (All-map (λ (r : Reserved). 1 ≤ r.period) reserved_of c.args.tasks.now c.requires.periods)
