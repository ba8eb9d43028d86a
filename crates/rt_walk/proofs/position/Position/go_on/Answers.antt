use Rattle.rt_walk.proofs.Common.{◌≡◌, ◌-◌, ℕ, refl, sym, ap, subst, arith, min, Entry, PositionState, IsReached, GoesOn, sought_by}
use Rattle.rt_words.specs.declared.limits.TheConstants.{MAX_TICKS}
use Rattle.rt_walk.specs.Working.Led.{Passes, Looks, Keeps}
use Rattle.rt_walk.specs.Position.{stand_of}
use Rattle.rt_walk.proofs.GoingLemmas.{goes-on, passes-on, reached-by, plain-entry}
use Rattle.rt_walk.proofs.position.Position.go_on.Goals as goal

pub returns-in-Next-clause-reached : goal.returns-in-Next-clause-reached
returns-in-Next-clause-reached g c = λ first.
    let old : PositionState = record { machine = c.self.inside.machine; ring = c.self.inside.ring; jobs = c.self.inside.jobs } in
    let mid : PositionState = record { machine = c.advance.new.self; ring = c.self.inside.ring; jobs = c.self.inside.jobs } in
    let new = c.keep_next.new.self in
    let keeps = subst (λ (e : Entry). Keeps e mid new) (plain-entry c.in-Some.entry c.in-Busy.t c.in-Busy.rec c.in-Busy.is c.in-Next.is) c.keep_next.ensures.keeps in
    subst (λ (p : PositionState). IsReached first p → IsReached first new) c.self.view_is
    (reached-by _ c.in-Some.entry first old mid new refl refl c.in-Some.ensures.goes c.in-Some.ensures.legal keeps)

pub returns-in_default-outcome : goal.returns-in_default-outcome
returns-in_default-outcome g c =
    let behind = g.H.Halt.behind c.args.halt.now in
    let old : PositionState = record { machine = c.self.inside.machine; ring = c.self.inside.ring; jobs = c.self.inside.jobs } in
    let mid : PositionState = record { machine = c.advance.new.self; ring = c.self.inside.ring; jobs = c.self.inside.jobs } in
    let new = c.keep_other.new.self in
    let gone = c.keep_other.result in
    let found = c.keep_other.new.found in
    let is = c.in-Some.ensures in
    let keeps = subst (λ (e : Entry). Keeps e mid new) (sym c.in-Busy.is) c.keep_other.ensures.keeps in
    let looks = subst (λ (e : Entry). Looks behind old.machine e (stand_of new) gone found) (sym c.in-Busy.is) (c.keep_other.ensures.looks old.machine c.note-before.ensures) in
    let at : old.machine.tick ≡ c.args.self.now.machine.tick = ap (λ (p : PositionState). p.machine.tick) c.self.view_is in
    let most : c.saturating_sub-most.result ≡ c.args.end - old.machine.tick = omega (arith, at, c.saturating_sub-most.ensures, c.now.ensures.value) in
    record {
      goes = subst (λ (p : PositionState). GoesOn behind (min (c.args.end - p.machine.tick) (MAX_TICKS - p.machine.tick)) p new (sought_by gone found)) c.self.view_is
          (subst (λ (k : ℕ). GoesOn behind (min k (MAX_TICKS - old.machine.tick)) old new (sought_by gone found)) most
          (goes-on behind _ old new c.advance.new.self c.in-Some.entry gone found is.goes is.legal keeps.machine keeps.jobs looks));
      passes = subst (λ (p : PositionState). Passes p.machine.tick new.machine.tick gone found) c.self.view_is
          (passes-on behind _ old new c.advance.new.self c.in-Some.entry gone found is.goes keeps.machine looks);
      reached = λ first. subst (λ (p : PositionState). IsReached first p → IsReached first new) c.self.view_is
          (reached-by _ c.in-Some.entry first old mid new refl refl is.goes is.legal keeps);
    }

pub returns-in-Idle-clause-reached : goal.returns-in-Idle-clause-reached
returns-in-Idle-clause-reached g c = λ first.
    let old : PositionState = record { machine = c.self.inside.machine; ring = c.self.inside.ring; jobs = c.self.inside.jobs } in
    let mid : PositionState = record { machine = c.advance.new.self; ring = c.self.inside.ring; jobs = c.self.inside.jobs } in
    let new = c.keep_other-in-Idle.new.self in
    subst (λ (p : PositionState). IsReached first p → IsReached first new) c.self.view_is
    (reached-by _ c.in-Some.entry first old mid new refl refl c.in-Some.ensures.goes c.in-Some.ensures.legal c.keep_other-in-Idle.ensures.keeps)
