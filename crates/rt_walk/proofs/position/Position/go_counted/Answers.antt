use Rattle.rt_walk.proofs.Common.{Option, None, arith, sym, subst, Sought, Comes}
use Rattle.rt_walk.specs.Position.{stand_of}
use Rattle.rt_walk.proofs.GoingLemmas.{searches-on, stands-after, goes-at, comes-by}
use Rattle.rt_walk.proofs.position.Position.go_counted.Goals as goal

pub returns-then-may_meet-clause-seeks : goal.returns-then-may_meet-clause-seeks
returns-then-may_meet-clause-seeks g c = λ begin set has_paused t n end-is search. c.loop-stop.invariant.searches begin set t search

pub loop-stop-preserved-in-ByTick : goal.loop-stop-preserved-in-ByTick
loop-stop-preserved-in-ByTick g c =
    let behind = g.H.Halt.behind c.args.halt in
    let ahead = g.H.Halt.ahead c.args.halt in
    let i = c.loop-stop.invariant in
    let old = c.loop-stop.self in
    let new = c.go_on-gone.new.self in
    let by = c.in-ByTick.ensures.goes in
    let one = c.in-ByTick.ensures.passes.1 in
    let unmet = c.may_meet.ensures c.if-may_meet.false in
    record {
      from = omega (arith, i.from, one);
      early = omega (arith, one, i.stops, c.loop-stop-test.true, c.now-in-loop-stop.ensures.value);
      unused = omega (arith, one, i.stops, c.loop-stop-test.true, c.now-in-loop-stop.ensures.value);
      few = omega (arith, one, i.few);
      same = i.same;
      stops = i.stops;
      unmet = c.in-ByTick.ensures.passes.0;
      reached = λ first r. c.in-ByTick.ensures.reached first (i.reached first r);
      stands = λ begin set is. stands-after behind _ begin set old new None by (i.stands begin set is);
      searches = λ begin set t search. searches-on behind ahead begin set _ old new by t unmet (i.searches begin set t search);
    }

pub loop-stop-preserved : goal.loop-stop-preserved
loop-stop-preserved g c =
    let behind = g.H.Halt.behind c.args.halt in
    let ahead = g.H.Halt.ahead c.args.halt in
    let i = c.loop-stop.invariant in
    let old = c.loop-stop.self in
    let new = c.go_on-gone.new.self in
    let by = c.in-ByIdle.ensures.goes in
    let some = c.in-ByIdle.ensures.passes.1 in
    let many = c.in-ByIdle.ensures.passes.2 in
    let unmet = c.may_meet.ensures c.if-may_meet.false in
    record {
      from = omega (arith, i.from, many);
      early = omega (arith, by.goes.end, by.goes.within, i.stops, c.loop-stop-test.true, c.now-in-loop-stop.ensures.value);
      unused = omega (arith, some, many, i.stops, c.loop-stop-test.true, c.now-in-loop-stop.ensures.value);
      few = omega (arith, some, many, i.few);
      same = i.same;
      stops = c.min-stop-in-ByIdle.ensures;
      unmet = c.in-ByIdle.ensures.passes.0;
      reached = λ first r. c.in-ByIdle.ensures.reached first (i.reached first r);
      stands = λ begin set is. stands-after behind _ begin set old new None by (i.stands begin set is);
      searches = λ begin set t search. searches-on behind ahead begin set _ old new by t unmet (i.searches begin set t search);
    }

pub returns-in-ByMeeting-clause-seeks : goal.returns-in-ByMeeting-clause-seeks
returns-in-ByMeeting-clause-seeks g c = λ begin set has_paused t n end-is search.
    let behind = g.H.Halt.behind c.args.halt in
    let ahead = g.H.Halt.ahead c.args.halt in
    let i = c.loop-stop.invariant in
    let old = c.loop-stop.self in
    let new = c.go_on-gone.new.self in
    subst (λ (sought : Option (Sought _)). Comes behind ahead begin set has_paused t n (stand_of new) sought) (sym c.sought_by.ensures)
    (comes-by behind ahead begin set has_paused _ t n c.args.end old new _ end-is
    (omega (arith, i.stops, c.min-limit.ensures, c.loop-stop-test.true, c.now-in-loop-stop.ensures.value))
    (λ none. absurd (omega (arith, none, i.stops, c.min-limit.ensures, c.loop-stop-test.true, c.now-in-loop-stop.ensures.value)))
    c.go_on-gone.ensures.goes (c.may_meet.ensures c.if-may_meet.false) (i.searches begin set t search))

pub returns-in-ByMeeting-clause-reached : goal.returns-in-ByMeeting-clause-reached
returns-in-ByMeeting-clause-reached g c = λ first r. c.go_on-gone.ensures.reached first (c.loop-stop.invariant.reached first r)

pub returns-clause-seeks : goal.returns-clause-seeks
returns-clause-seeks g c = λ begin set has_paused t n end-is search. c.loop-stop.invariant.searches begin set t search

pub returns-in-ByMeeting-clause-stands : goal.returns-in-ByMeeting-clause-stands
returns-in-ByMeeting-clause-stands g c = λ begin set is.
    goes-at (g.H.Halt.behind c.args.halt) _ begin set c.loop-stop.self c.go_on-gone.new.self _ c.go_on-gone.ensures.goes (c.loop-stop.invariant.stands begin set is)
