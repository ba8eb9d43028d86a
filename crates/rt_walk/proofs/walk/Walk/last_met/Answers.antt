use Rattle.rt_walk.proofs.Common.{◌≡◌, ◌+◌, ◌<◌, ◌≤◌, ℕ, true, Option, arith, subst, ap, ◌∙◌, max, state_at, WalkState, back_at, LastBefore}
use Rattle.rt_walk.specs.LastMet.{IsLastMet, AreNone}
use Rattle.rt_walk.specs.Position.{stand_of}
use Rattle.rt_walk.specs.Walking.{lowest}
use Rattle.rt_walk.proofs.BackLemmas.{found_in_piece, none_in_piece, none_at_floor, none_at_all, three}
use Rattle.rt_walk.proofs.walk.Walk.last_met.Goals as goal

pub returns-in-Some-clause-looks : goal.returns-in-Some-clause-looks
returns-in-Some-clause-looks g c = λ set is.
    let here = g.H.HaltBack.here c.args.halt in
    let left = g.H.HaltBack.left c.args.halt in
    let behind = g.H.HaltBack.behind c.args.halt in
    let passes = c.args.back.passes in
    let begin = stand_of c.args.self.now.first in
    let i = c.loop-top.invariant in
    let e = c.in_ok-piece.ensures in
    let first = c.now-first.result in
    let now = c.now-now.result in
    let low = c.min-low.result in
    let floor = c.in_ok-piece.piece.floor in
    let last : ℕ × g.row.H-Found.Denot = (c.in-Some.tick, c.in-Some.found) in
    let met = subst (λ (walk : WalkState). walk.first.machine ≡ state_at set walk.first.machine.tick → LastBefore (back_at here left behind passes (stand_of walk.first) set floor now) (max low floor) (c.loop-top.top + 1) c.in_ok-piece.piece.last) i.walk (e.last set) is in
    let piece = subst (λ (last : Option (ℕ × _)). LastBefore (back_at here left behind passes begin set floor now) (max low floor) (c.loop-top.top + 1) last) c.in-Some.is met in
    let first-is = c.now-first.ensures ∙ ap (λ (walk : WalkState). walk.first.machine.tick) c.self.view_is in
    let now-is = c.now-now.ensures.value ∙ ap (λ (walk : WalkState). walk.shown.machine.tick) c.self.view_is in
    let low-is : low ≡ lowest c.args.back.low c.args.self.now = omega (arith, c.min-low.ensures, c.max.ensures, first-is, now-is) in
    three (λ first now low. IsLastMet (back_at here left behind passes begin set first now) low now last.1 last.0) first now low _ _ _ first-is now-is low-is
    (found_in_piece here left behind passes begin set now first floor low c.loop-top.top last (omega (arith, e.bottom, c.max-bottom.ensures)) i.within piece (i.none set is))

pub returns-then-has_pause-clause-looks : goal.returns-then-has_pause-clause-looks
returns-then-has_pause-clause-looks g c = λ set is.
    let here = g.H.HaltBack.here c.args.halt in
    let left = g.H.HaltBack.left c.args.halt in
    let behind = g.H.HaltBack.behind c.args.halt in
    let passes = c.args.back.passes in
    let begin = stand_of c.args.self.now.first in
    let i = c.loop-top.invariant in
    let e = c.in_ok-piece.ensures in
    let first = c.now-first.result in
    let now = c.now-now.result in
    let low = c.min-low.result in
    let floor = c.in_ok-piece.piece.floor in
    let met = subst (λ (walk : WalkState). walk.first.machine ≡ state_at set walk.first.machine.tick → LastBefore (back_at here left behind passes (stand_of walk.first) set floor now) (max low floor) (c.loop-top.top + 1) c.in_ok-piece.piece.last) i.walk (e.last set) is in
    let piece = subst (λ (last : Option (ℕ × _)). LastBefore (back_at here left behind passes begin set floor now) (max low floor) (c.loop-top.top + 1) last) c.in_default.is met in
    let first-is = c.now-first.ensures ∙ ap (λ (walk : WalkState). walk.first.machine.tick) c.self.view_is in
    let now-is = c.now-now.ensures.value ∙ ap (λ (walk : WalkState). walk.shown.machine.tick) c.self.view_is in
    let low-is : low ≡ lowest c.args.back.low c.args.self.now = omega (arith, c.min-low.ensures, c.max.ensures, first-is, now-is) in
    let above = c.has_pause.ensures.above c.if-has_pause.true in
    let before = c.has_pause.ensures.below c.if-has_pause.true in
    let from : low ≤ floor = omega (arith, above, c.max-bottom.ensures, c.saturating_sub.ensures) in
    three (λ first now low. (g.P.Pace.has_paused c.look_through.new.pace ≡ true) × (low < floor + 1) × (floor + 1 < now) × AreNone (back_at here left behind passes begin set first now) (floor + 1) now) first now low _ _ _ first-is now-is low-is (
      e.pauses i.pauses c.if-pauses.true,
      omega (arith, from),
      before,
      λ u later within. none_in_piece here left behind passes begin set now first floor low c.loop-top.top (omega (arith, e.bottom, c.max-bottom.ensures)) piece (i.none set is) u (omega (arith, from, later)) (omega (arith, later)) within,
    )

pub returns-then-has_pause-clause-paused : goal.returns-then-has_pause-clause-paused
returns-then-has_pause-clause-paused g c = λ _. c.in_ok-piece.ensures.pauses c.loop-top.invariant.pauses c.if-pauses.true

pub loop-top-preserved : goal.loop-top-preserved
loop-top-preserved g c =
    let here = g.H.HaltBack.here c.args.halt in
    let left = g.H.HaltBack.left c.args.halt in
    let behind = g.H.HaltBack.behind c.args.halt in
    let passes = c.args.back.passes in
    let begin = stand_of c.args.self.now.first in
    let i = c.loop-top.invariant in
    let e = c.in_ok-piece.ensures in
    let first = c.now-first.result in
    let now = c.now-now.result in
    let low = c.min-low.result in
    let floor = c.in_ok-piece.piece.floor in
    record {
      walk = e.walk ∙ i.walk;
      above = e.bottom;
      within = omega (arith, e.below, i.within);
      none = λ set is.
          let met = subst (λ (walk : WalkState). walk.first.machine ≡ state_at set walk.first.machine.tick → LastBefore (back_at here left behind passes (stand_of walk.first) set floor now) (max low floor) (c.loop-top.top + 1) c.in_ok-piece.piece.last) i.walk (e.last set) is in
          let piece = subst (λ (last : Option (ℕ × _)). LastBefore (back_at here left behind passes begin set floor now) (max low floor) (c.loop-top.top + 1) last) c.in_default.is met in
          none_in_piece here left behind passes begin set now first floor low c.loop-top.top (omega (arith, e.bottom, c.max-bottom.ensures)) piece (i.none set is);
      base = λ set is before from.
          let met = subst (λ (walk : WalkState). walk.first.machine ≡ state_at set walk.first.machine.tick → LastBefore (back_at here left behind passes (stand_of walk.first) set floor now) (max low floor) (c.loop-top.top + 1) c.in_ok-piece.piece.last) i.walk (e.last set) is in
          let piece = subst (λ (last : Option (ℕ × _)). LastBefore (back_at here left behind passes begin set floor now) (max low floor) (c.loop-top.top + 1) last) c.in_default.is met in
          none_at_floor here left behind passes begin set now floor low c.loop-top.top e.below piece from;
      goes = g.P.Pace.joins _ _ _ i.goes e.goes;
      pauses = e.pauses i.pauses;
    }

pub returns-clause-looks : goal.returns-clause-looks
returns-clause-looks g c = λ set is.
    let here = g.H.HaltBack.here c.args.halt in
    let left = g.H.HaltBack.left c.args.halt in
    let behind = g.H.HaltBack.behind c.args.halt in
    let passes = c.args.back.passes in
    let begin = stand_of c.args.self.now.first in
    let i = c.loop-top.invariant in
    let first = c.now-first.result in
    let now = c.now-now.result in
    let low = c.min-low.result in
    let first-is = c.now-first.ensures ∙ ap (λ (walk : WalkState). walk.first.machine.tick) c.self.view_is in
    let now-is = c.now-now.ensures.value ∙ ap (λ (walk : WalkState). walk.shown.machine.tick) c.self.view_is in
    let low-is : low ≡ lowest c.args.back.low c.args.self.now = omega (arith, c.min-low.ensures, c.max.ensures, first-is, now-is) in
    let ordered = c.self.invariant.1.later in
    let begun : first ≤ low = omega (arith, c.min-low.ensures, c.max.ensures, c.now-first.ensures, c.now-now.ensures.value, ordered) in
    let ends : low ≤ now = omega (arith, c.min-low.ensures) in
    three (λ first now low. AreNone (back_at here left behind passes begin set first now) low now) first now low _ _ _ first-is now-is low-is
    (none_at_all here left behind passes begin set now first low c.max-bottom.result c.loop-top.top begun ends (omega (arith, c.max-bottom.ensures, c.saturating_sub.ensures)) i.above c.loop-top-test.false i.within (i.none set is) (i.base set is))
