use Rattle.std.proofs.Common.{◌≡◌, ◌+◌, ℕ, Some, sym, subst, arith}
use Rattle.rt_history.specs.Legal.{state_at}
use Rattle.rt_history.specs.MachineState.{MachineState}
use Rattle.rt_walk.specs.Position.{PositionState}
use Rattle.rt_walk.specs.Met.{ahead_of}
use Rattle.rt_remote.specs.stops.OneBack.{own_tick, tells_tick}
use Rattle.rt_remote.proofs.stops.one_back.step_back.Goals as goal

pub returns-then-branch-clause-back : goal.returns-then-branch-clause-back
returns-then-branch-clause-back g c = λ set is.
    let old = c.args.walk.now in
    let new = c.back_if_named.new.self in
    let back = (c.in_ok-back_if_named.ensures.back c.if-branch.true).0 in
    let tells = c.taken_back.ensures.tells in
    let begun = subst (λ (first : PositionState). first.machine ≡ state_at set first.machine.tick) (sym back.walk.first) is in
    let stands = back.walk.reached.stands set begun in
    let end : new.shown.machine.tick + 1 ≡ old.shown.machine.tick = omega (arith, back.enough, back.tick) in (
      Some (new.shown.machine.tick, tells.0),
      (
        record {
          from = omega (arith, back.enough, back.tick);
          before = omega (arith, end);
          here = subst (λ (m : MachineState). ahead_of (own_tick c.args.way) m ≡ Some tells.0) stands tells.1;
          none_after = λ u after before. absurd (omega (arith, after, before, end));
        },
        subst (λ (now : ℕ). tells_tick c.args.way now new.shown.machine.tick tells.0 c.taken_back.result c.taken_back.new.walk.shown.machine.tick) end tells.2,
      ),
    )
