use Rattle.std.proofs.Common.{arith, sym, ap, ◌∙◌}
use Rattle.rt_core.specs.Next.{next_of}
use Rattle.rt_walk.specs.Position.{PositionState, stand_of}
use Rattle.rt_walk.proofs.JobLemmas.{machine-at, at-begin}
use Rattle.rt_walk.specs.Met.{met_at}
use Rattle.rt_debug.specs.FirstStop.{stands_at}
use Rattle.rt_debug.specs.Stopping.{stopping}
use Rattle.rt_debug.specs.StopSlots.{meets_of}
use Rattle.rt_debug.specs.Working.Watch.{asked_behind, asked_ahead, standing}
use Rattle.rt_debug.proofs.WatchLemmas.{unasked_none, stands_seen, none_before_seen, none_to_end, came, met_there, seeks_hit, none_there}
use Rattle.rt_debug.proofs.session.seek_event.Goals as goal

pub returns-then-is_unmet : goal.returns-then-is_unmet
returns-then-is_unmet g c =
    let i = c.loop-left.invariant in
    let begin = stand_of c.args.walk.now.shown in
    let slots = c.args.stops.now.slots.items in
    let words = c.args.stops.now.marks.words.items in
    let events = c.args.events.now in
    let watch = c.watch-watch.result in
    let meets = meets_of (λ b. (goal.Stop-dyn g (b.vtable, b.value)).meets b.value) in
    record {
      walk = record { first = c.seek-sought.ensures.walk.first ∙ i.walk.first; reached = c.seek-sought.ensures.walk.reached };
      seeks = λ set is.
          let at = at-begin set begin is in
          none_to_end (stands_at meets (stopping slots events) begin set) (met_at (asked_behind events) (asked_ahead words watch) begin set) (unasked_none meets slots words watch i.covers events begin set)
          c.args.walk.now.shown.machine.tick c.args.n c.loop-left.left c.loop-left.walk.shown.machine.tick c.seek-sought.new.self.shown.machine.tick i.few i.clock (i.none begin set at) c.seek-sought.result (sym c.is_unmet.ensures ∙ c.if-is_unmet.true)
          (c.seek-sought.ensures.seeks begin set (i.stands begin set at)) i.limit;
    }

pub returns-then-is_some : goal.returns-then-is_some
returns-then-is_some g c =
    let i = c.loop-left.invariant in
    let begin = stand_of c.args.walk.now.shown in
    let slots = c.args.stops.now.slots.items in
    let words = c.args.stops.now.marks.words.items in
    let events = c.args.events.now in
    let watch = c.watch-watch.result in
    let meets = meets_of (λ b. (goal.Stop-dyn g (b.vtable, b.value)).meets b.value) in
    let seen = sym c.is_unmet.ensures ∙ c.if-is_unmet.false in
    let next-is = c.next.ensures ∙ ap (λ (p : PositionState). next_of p.machine) c.shown-in-loop-left.ensures.shown in
    let moved = came c.loop-left.walk.shown.machine.tick c.loop-left.left c.seek-sought.new.self.shown.machine.tick c.seek-sought.result seen c.seek-sought.ensures.moves in
    record {
      walk = record { first = c.seek-sought.ensures.walk.first ∙ i.walk.first; reached = c.seek-sought.ensures.walk.reached };
      seeks = λ set is.
          let at = at-begin set begin is in
          seeks_hit (stands_at meets (stopping slots events) begin set) c.args.walk.now.shown.machine.tick c.args.n c.seek-sought.new.self.shown.machine.tick c.standing-met.result (sym c.is_some.ensures ∙ c.if-is_some.true)
          (omega (arith, moved, i.clock)) (omega (arith, moved, i.clock, i.few))
          (stands_seen meets slots words watch i.covers events begin set c.loop-left.walk.shown.machine.tick c.loop-left.left c.seek-sought.new.self.shown.machine.tick c.seek-sought.result seen (c.seek-sought.ensures.seeks begin set (i.stands begin set at))
          ∙ ap (standing c.seek-sought.result) (met_there meets slots set c.seek-sought.new.self.shown.machine c.next.result c.met_by-hit.result (machine-at begin set (stand_of c.seek-sought.new.self.shown) (c.seek-sought.ensures.stands begin set (i.stands begin set at))) next-is c.met_by-hit.ensures) ∙ sym c.standing-met.ensures)
          (none_before_seen (stands_at meets (stopping slots events) begin set) (met_at (asked_behind events) (asked_ahead words watch) begin set) (unasked_none meets slots words watch i.covers events begin set)
          c.args.walk.now.shown.machine.tick c.args.n c.loop-left.left c.loop-left.walk.shown.machine.tick c.seek-sought.new.self.shown.machine.tick i.few i.clock (i.none begin set at) c.seek-sought.result seen (c.seek-sought.ensures.seeks begin set (i.stands begin set at)));
    }

pub loop-left-preserved : goal.loop-left-preserved
loop-left-preserved g c =
    let i = c.loop-left.invariant in
    let slots = c.args.stops.now.slots.items in
    let words = c.args.stops.now.marks.words.items in
    let events = c.args.events.now in
    let watch = c.watch-watch.result in
    let meets = meets_of (λ b. (goal.Stop-dyn g (b.vtable, b.value)).meets b.value) in
    let seen = sym c.is_unmet.ensures ∙ c.if-is_unmet.false in
    let next-is = c.next.ensures ∙ ap (λ (p : PositionState). next_of p.machine) c.shown-in-loop-left.ensures.shown in
    let now-is = c.now-now.ensures.value ∙ ap (λ (p : PositionState). p.machine.tick) c.shown-in-loop-left-2.ensures.shown in
    let moved = came c.loop-left.walk.shown.machine.tick c.loop-left.left c.seek-sought.new.self.shown.machine.tick c.seek-sought.result seen c.seek-sought.ensures.moves in
    record {
      few = omega (arith, i.few);
      start = now-is;
      clock = omega (arith, moved, i.clock, i.few, i.start, now-is);
      limit = omega (arith, now-is, c.now-now.ensures.limit);
      walk = record { first = c.seek-sought.ensures.walk.first ∙ i.walk.first; reached = c.seek-sought.ensures.walk.reached };
      stands = λ begin set is. c.seek-sought.ensures.stands begin set (i.stands begin set is);
      covers = i.covers;
      none = λ begin set is. none_there (stands_at meets (stopping slots events) begin set) c.args.walk.now.shown.machine.tick c.seek-sought.new.self.shown.machine.tick c.standing-met.result (sym c.is_some.ensures ∙ c.if-is_some.false)
          (stands_seen meets slots words watch i.covers events begin set c.loop-left.walk.shown.machine.tick c.loop-left.left c.seek-sought.new.self.shown.machine.tick c.seek-sought.result seen (c.seek-sought.ensures.seeks begin set (i.stands begin set is))
          ∙ ap (standing c.seek-sought.result) (met_there meets slots set c.seek-sought.new.self.shown.machine c.next.result c.met_by-hit.result (machine-at begin set (stand_of c.seek-sought.new.self.shown) (c.seek-sought.ensures.stands begin set (i.stands begin set is))) next-is c.met_by-hit.ensures) ∙ sym c.standing-met.ensures)
          (none_before_seen (stands_at meets (stopping slots events) begin set) (met_at (asked_behind events) (asked_ahead words watch) begin set) (unasked_none meets slots words watch i.covers events begin set)
          c.args.walk.now.shown.machine.tick c.args.n c.loop-left.left c.loop-left.walk.shown.machine.tick c.seek-sought.new.self.shown.machine.tick i.few i.clock (i.none begin set is) c.seek-sought.result seen (c.seek-sought.ensures.seeks begin set (i.stands begin set is)));
    }

pub returns : goal.returns
returns g c =
    let i = c.loop-left.invariant in
    let begin = stand_of c.args.walk.now.shown in
    record { walk = i.walk; seeks = λ set is. record { end = omega (arith, i.clock, i.limit, c.loop-left-test.false); none = i.none begin set (at-begin set begin is) } }
