use Rattle.std.proofs.Common.{None, arith, sym, ap, ◌∙◌}
use Rattle.rt_core.specs.Next.{next_of}
use Rattle.rt_walk.specs.Position.{PositionState, stand_of}
use Rattle.rt_walk.proofs.JobLemmas.{machine-at, at-begin}
use Rattle.rt_walk.specs.Met.{met_at}
use Rattle.rt_debug.specs.FirstStop.{stop_at}
use Rattle.rt_debug.specs.StopSlots.{meets_of}
use Rattle.rt_debug.specs.Working.Watch.{seen_at}
use Rattle.rt_debug.proofs.WatchLemmas.{none_met, none_before_seen, none_to_end, came, met_there, seeks_hit, none_there}
use Rattle.rt_debug.proofs.session.seek_by.Goals as goal

pub returns-then-is_unmet : goal.returns-then-is_unmet
returns-then-is_unmet g c =
    let i = c.loop-left.invariant in
    let begin = stand_of c.args.walk.now.shown in
    let slots = c.args.stops.now.slots.items in
    let words = c.args.stops.now.marks.words.items in
    let watch = g.L.Look.watch c.args.look in
    let meets = meets_of (λ b. (goal.Stop-dyn g (b.vtable, b.value)).meets b.value) in
    record {
      walk = record { first = c.seek.ensures.walk.first ∙ i.walk.first; reached = c.seek.ensures.walk.reached };
      seeks = λ set is.
          let at = at-begin set begin is in
          none_to_end (stop_at meets slots set) (met_at (λ _ _ _. None) (λ task pc _. seen_at words watch task pc) begin set) (none_met meets slots words watch c.requires begin set)
          c.args.walk.now.shown.machine.tick c.args.n c.loop-left.left c.loop-left.walk.shown.machine.tick c.seek.new.self.shown.machine.tick i.few i.clock (i.none begin set at) c.seek.result (sym c.is_unmet.ensures ∙ c.if-is_unmet.true)
          (c.seek.ensures.seeks begin set (i.stands begin set at)) i.limit;
    }

pub returns-then-is_some : goal.returns-then-is_some
returns-then-is_some g c =
    let i = c.loop-left.invariant in
    let begin = stand_of c.args.walk.now.shown in
    let slots = c.args.stops.now.slots.items in
    let words = c.args.stops.now.marks.words.items in
    let watch = g.L.Look.watch c.args.look in
    let meets = meets_of (λ b. (goal.Stop-dyn g (b.vtable, b.value)).meets b.value) in
    let seen = sym c.is_unmet.ensures ∙ c.if-is_unmet.false in
    let next-is = c.next.ensures ∙ ap (λ (p : PositionState). next_of p.machine) c.shown-in-loop-left.ensures.shown in
    let moved = came c.loop-left.walk.shown.machine.tick c.loop-left.left c.seek.new.self.shown.machine.tick c.seek.result seen c.seek.ensures.moves in
    record {
      walk = record { first = c.seek.ensures.walk.first ∙ i.walk.first; reached = c.seek.ensures.walk.reached };
      seeks = λ set is.
          let at = at-begin set begin is in
          seeks_hit (stop_at meets slots set) c.args.walk.now.shown.machine.tick c.args.n c.seek.new.self.shown.machine.tick c.met_by-hit.result (sym c.is_some.ensures ∙ c.if-is_some.true)
          (omega (arith, moved, i.clock)) (omega (arith, moved, i.clock, i.few))
          (met_there meets slots set c.seek.new.self.shown.machine c.next.result c.met_by-hit.result (machine-at begin set (stand_of c.seek.new.self.shown) (c.seek.ensures.stands begin set (i.stands begin set at))) next-is c.met_by-hit.ensures)
          (none_before_seen (stop_at meets slots set) (met_at (λ _ _ _. None) (λ task pc _. seen_at words watch task pc) begin set) (none_met meets slots words watch c.requires begin set)
          c.args.walk.now.shown.machine.tick c.args.n c.loop-left.left c.loop-left.walk.shown.machine.tick c.seek.new.self.shown.machine.tick i.few i.clock (i.none begin set at) c.seek.result seen (c.seek.ensures.seeks begin set (i.stands begin set at)));
    }

pub loop-left-preserved : goal.loop-left-preserved
loop-left-preserved g c =
    let i = c.loop-left.invariant in
    let slots = c.args.stops.now.slots.items in
    let words = c.args.stops.now.marks.words.items in
    let watch = g.L.Look.watch c.args.look in
    let meets = meets_of (λ b. (goal.Stop-dyn g (b.vtable, b.value)).meets b.value) in
    let seen = sym c.is_unmet.ensures ∙ c.if-is_unmet.false in
    let next-is = c.next.ensures ∙ ap (λ (p : PositionState). next_of p.machine) c.shown-in-loop-left.ensures.shown in
    let now-is = c.now-now.ensures.value ∙ ap (λ (p : PositionState). p.machine.tick) c.shown-in-loop-left-2.ensures.shown in
    let moved = came c.loop-left.walk.shown.machine.tick c.loop-left.left c.seek.new.self.shown.machine.tick c.seek.result seen c.seek.ensures.moves in
    record {
      few = omega (arith, i.few);
      start = now-is;
      clock = omega (arith, moved, i.clock, i.few, i.start, now-is);
      limit = omega (arith, now-is, c.now-now.ensures.limit);
      walk = record { first = c.seek.ensures.walk.first ∙ i.walk.first; reached = c.seek.ensures.walk.reached };
      stands = λ begin set is. c.seek.ensures.stands begin set (i.stands begin set is);
      none = λ begin set is. none_there (stop_at meets slots set) c.args.walk.now.shown.machine.tick c.seek.new.self.shown.machine.tick c.met_by-hit.result (sym c.is_some.ensures ∙ c.if-is_some.false)
          (met_there meets slots set c.seek.new.self.shown.machine c.next.result c.met_by-hit.result (machine-at begin set (stand_of c.seek.new.self.shown) (c.seek.ensures.stands begin set (i.stands begin set is))) next-is c.met_by-hit.ensures)
          (none_before_seen (stop_at meets slots set) (met_at (λ _ _ _. None) (λ task pc _. seen_at words watch task pc) begin set) (none_met meets slots words watch c.requires begin set)
          c.args.walk.now.shown.machine.tick c.args.n c.loop-left.left c.loop-left.walk.shown.machine.tick c.seek.new.self.shown.machine.tick i.few i.clock (i.none begin set is) c.seek.result seen (c.seek.ensures.seeks begin set (i.stands begin set is)));
    }

pub returns : goal.returns
returns g c =
    let i = c.loop-left.invariant in
    let begin = stand_of c.args.walk.now.shown in
    record { walk = i.walk; seeks = λ set is. record { end = omega (arith, i.clock, i.limit, c.loop-left-test.false); none = i.none begin set (at-begin set begin is) } }
