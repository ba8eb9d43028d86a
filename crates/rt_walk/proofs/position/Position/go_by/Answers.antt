use Rattle.rt_walk.proofs.Common.{◌≡◌, ◌+◌, ◌-◌, false, Option, None, arith, sym, subst, ◌∙◌, min, tick_limit, Sought, ahead_of, met_at, GoesOn, Comes, sought_by}
use Rattle.rt_walk.specs.Position.{stand_of}
use Rattle.rt_walk.proofs.GoingLemmas.{none-is, none-on, searches-on, stands-after, goes-at, comes-by}
use Rattle.rt_walk.proofs.position.Position.go_by.Goals as goal

pub returns-then-pauses-clause-seeks : goal.returns-then-pauses-clause-seeks
returns-then-pauses-clause-seeks g c = λ begin set t n end-is search.
    let behind = g.H.Halt.behind c.args.halt in
    let ahead = g.H.Halt.ahead c.args.halt in
    let i = c.loop-halt.invariant in
    let here = i.searches begin set t search in
    let unmet : ahead_of ahead c.loop-halt.self.machine ≡ None = sym c.met_ahead.ensures ∙ none-is _ (sym c.is_some.ensures ∙ c.if-is_some.false) in (
      sym c.pauses.ensures.asks ∙ c.if-pauses.true,
      record {
        later = here.later;
        before = (let later = here.later in omega (arith, later, c.loop-halt-test.true, c.min-limit.ensures, end-is));
        none = none-on (met_at behind ahead begin set) t c.loop-halt.self.machine.tick here.none (here.here ∙ unmet);
      },
    )

pub returns-in-Some-clause-seeks : goal.returns-in-Some-clause-seeks
returns-in-Some-clause-seeks g c = λ begin set t n end-is search.
    let behind = g.H.Halt.behind c.args.halt in
    let ahead = g.H.Halt.ahead c.args.halt in
    let i = c.loop-halt.invariant in
    let old = c.loop-halt.self in
    let most = min (c.min-limit.result - old.machine.tick) (tick_limit - old.machine.tick) in
    let new = c.go_on-gone.new.self in
    let unmet : ahead_of ahead old.machine ≡ None = sym c.met_ahead.ensures ∙ none-is _ (sym c.is_some.ensures ∙ c.if-is_some.false) in
    subst (λ (sought : Option (Sought _)). Comes behind ahead begin set (g.P.Pace.has_paused c.pauses.new.self) t n (stand_of new) sought) (sym c.sought_by.ensures ∙ c.in-Some.is)
    (comes-by behind ahead begin set (g.P.Pace.has_paused c.pauses.new.self) most t n c.args.end old new (sought_by c.go_on-gone.result c.go_on-gone.new.found) end-is
    (omega (arith, i.early, c.min-limit.ensures))
    (λ none. absurd (omega (arith, none, c.min-limit.ensures, c.loop-halt-test.true, c.now.ensures.value)))
    c.go_on-gone.ensures.goes unmet (i.searches begin set t search))

pub returns-in-Some-clause-reached : goal.returns-in-Some-clause-reached
returns-in-Some-clause-reached g c = λ first r. c.go_on-gone.ensures.reached first (c.loop-halt.invariant.reached first r)

pub returns-in-Some-clause-goes : goal.returns-in-Some-clause-goes
returns-in-Some-clause-goes g c = g.P.Pace.joins _ _ _ c.loop-halt.invariant.goes c.pauses.ensures.goes

pub returns-in-Some-go_unasked-clause-seeks : goal.returns-in-Some-go_unasked-clause-seeks
returns-in-Some-go_unasked-clause-seeks g c = λ begin set t n end-is search.
    let behind = g.H.Halt.behind c.args.halt in
    let ahead = g.H.Halt.ahead c.args.halt in
    let i = c.loop-halt.invariant in
    let old = c.loop-halt.self in
    let most = min (c.min-limit.result - old.machine.tick) (tick_limit - old.machine.tick) in
    let by = subst (λ (sought : Option (Sought _)). GoesOn behind most old c.go_on-gone.new.self sought) (sym c.sought_by.ensures ∙ c.in_default.is) c.go_on-gone.ensures.goes in
    let unmet : ahead_of ahead old.machine ≡ None = sym c.met_ahead.ensures ∙ none-is _ (sym c.is_some.ensures ∙ c.if-is_some.false) in
    let limit-is : c.min-limit.result ≡ min (t + n) tick_limit = omega (arith, end-is, c.min-limit.ensures) in
    c.in-Some-go_unasked.ensures.seeks begin set _ t n limit-is (searches-on behind ahead begin set most old c.go_on-gone.new.self by t unmet (i.searches begin set t search))

pub returns-in-Some-go_unasked-clause-reached : goal.returns-in-Some-go_unasked-clause-reached
returns-in-Some-go_unasked-clause-reached g c = λ first r.
    c.in-Some-go_unasked.ensures.reached first (c.go_on-gone.ensures.reached first (c.loop-halt.invariant.reached first r))

pub returns-in-Some-go_unasked-clause-goes : goal.returns-in-Some-go_unasked-clause-goes
returns-in-Some-go_unasked-clause-goes g c =
    g.P.Pace.joins _ _ _ c.loop-halt.invariant.goes (g.P.Pace.joins _ _ _ c.pauses.ensures.goes c.in-Some-go_unasked.ensures.goes)

pub loop-halt-preserved-in_default-go_unasked : goal.loop-halt-preserved-in_default-go_unasked
loop-halt-preserved-in_default-go_unasked g c =
    let behind = g.H.Halt.behind c.args.halt in
    let ahead = g.H.Halt.ahead c.args.halt in
    let i = c.loop-halt.invariant in
    let old = c.loop-halt.self in
    let most = min (c.min-limit.result - old.machine.tick) (tick_limit - old.machine.tick) in
    let mid = c.go_on-gone.new.self in
    let on = c.in_default-go_unasked.ensures in
    let by = subst (λ (sought : Option (Sought _)). GoesOn behind most old mid sought) (sym c.sought_by.ensures ∙ c.in_default.is) c.go_on-gone.ensures.goes in
    let unmet : ahead_of ahead old.machine ≡ None = sym c.met_ahead.ensures ∙ none-is _ (sym c.is_some.ensures ∙ c.if-is_some.false) in
    record {
      from = omega (arith, i.from, by.goes.end, on.later);
      early = on.within;
      reached = λ first r. on.reached first (c.go_on-gone.ensures.reached first (i.reached first r));
      stands = λ begin set is. on.stands begin set (stands-after behind most begin set old mid None by (i.stands begin set is));
      searches = λ begin set t search.
          let here = i.searches begin set t search in
          let later = here.later in
          let limit-is : c.min-limit.result ≡ min (t + (c.min-limit.result - t)) tick_limit = omega (arith, later, i.early, c.min-limit.ensures) in
          on.seeks begin set false t (c.min-limit.result - t) limit-is (searches-on behind ahead begin set most old mid by t unmet here);
      unpaused = λ was. on.same ∙ sym c.pauses.ensures.asks ∙ c.if-pauses.false;
      goes = g.P.Pace.joins _ _ _ i.goes (g.P.Pace.joins _ _ _ c.pauses.ensures.goes on.goes);
    }

pub loop-halt-preserved : goal.loop-halt-preserved
loop-halt-preserved g c =
    let behind = g.H.Halt.behind c.args.halt in
    let ahead = g.H.Halt.ahead c.args.halt in
    let i = c.loop-halt.invariant in
    let old = c.loop-halt.self in
    let most = min (c.min-limit.result - old.machine.tick) (tick_limit - old.machine.tick) in
    let new = c.go_on-gone.new.self in
    let by = subst (λ (sought : Option (Sought _)). GoesOn behind most old new sought) (sym c.sought_by.ensures ∙ c.in_default.is) c.go_on-gone.ensures.goes in
    let unmet : ahead_of ahead old.machine ≡ None = sym c.met_ahead.ensures ∙ none-is _ (sym c.is_some.ensures ∙ c.if-is_some.false) in
    record {
      from = omega (arith, i.from, by.goes.end);
      early = omega (arith, by.goes.end, by.goes.within, i.early);
      reached = λ first r. c.go_on-gone.ensures.reached first (i.reached first r);
      stands = λ begin set is. stands-after behind most begin set old new None by (i.stands begin set is);
      searches = λ begin set t search. searches-on behind ahead begin set most old new by t unmet (i.searches begin set t search);
      unpaused = λ was. sym c.pauses.ensures.asks ∙ c.if-pauses.false;
      goes = g.P.Pace.joins _ _ _ i.goes c.pauses.ensures.goes;
    }

pub returns-clause-seeks : goal.returns-clause-seeks
returns-clause-seeks g c = λ begin set t n end-is search. c.loop-halt.invariant.searches begin set t search

pub returns-in-Some-clause-stands : goal.returns-in-Some-clause-stands
returns-in-Some-clause-stands g c = λ begin set is.
    goes-at (g.H.Halt.behind c.args.halt) _ begin set c.loop-halt.self c.go_on-gone.new.self _ c.go_on-gone.ensures.goes (c.loop-halt.invariant.stands begin set is)

pub returns-in-Some-go_unasked-clause-stands : goal.returns-in-Some-go_unasked-clause-stands
returns-in-Some-go_unasked-clause-stands g c = λ begin set is.
    c.in-Some-go_unasked.ensures.stands begin set
    (goes-at (g.H.Halt.behind c.args.halt) _ begin set c.loop-halt.self c.go_on-gone.new.self _ c.go_on-gone.ensures.goes (c.loop-halt.invariant.stands begin set is))
