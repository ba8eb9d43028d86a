use Rattle.rt_walk.proofs.Common.{◌≡◌, ◌+◌, ◌≤◌, ℕ, arith, subst, ap, ◌∙◌, max, PositionState, ahead_of, back_at, LastBefore}
use Rattle.rt_walk.specs.Position.{stand_of}
use Rattle.rt_walk.proofs.JobLemmas.{machine-at, at-on}
use Rattle.rt_walk.proofs.GoingLemmas.{below-min}
use Rattle.rt_walk.proofs.BackLemmas.{extended, noted_one, met_here, none_within, left_next, behind_next}
use Rattle.rt_walk.proofs.position.Position.last_met.Goals as goal

pub returns-in_default-clause-last : goal.returns-in_default-clause-last
returns-in_default-clause-last g c = λ begin set is.
    let i = c.loop-entry.invariant in
    let here = g.H.HaltBack.here c.args.halt in
    let left = g.H.HaltBack.left c.args.halt in
    let behind = g.H.HaltBack.behind c.args.halt in
    let way = c.args.way in
    let first = c.args.self.now.machine.tick in
    let u = c.loop-entry.self.machine.tick in
    let met = back_at here left behind way.passes begin set first way.now in
    let at : met u ≡ c.met.result = met_here here left behind way.passes begin set way.now first u c.loop-entry.self.machine c.met_around-here.result.0 c.loop-entry.left c.loop-entry.behind c.met.result
    (machine-at begin set (stand_of c.loop-entry.self) (i.stands begin set is)) c.met_around-here.ensures.here (i.left begin set is) (i.behind begin set is) (rw (← c.now-tick.ensures.value) c.met.ensures) in
    let done = c.advance.ensures.last.0 c.in_default.is in
    let end : u + 1 ≡ c.args.top + 1 = omega (arith, i.early, c.requires.limit, c.now-tick.ensures.value, done) in
    subst (λ (k : ℕ). LastBefore met (max way.low first) k c.noted-last.result) end
    (rw (c.noted-last.ensures, c.now-tick.ensures.value) (noted_one met way.low first u c.loop-entry.last c.met.result i.later at (i.last begin set is)))

pub loop-entry-preserved : goal.loop-entry-preserved
loop-entry-preserved g c =
    let i = c.loop-entry.invariant in
    let e = c.in-Some.ensures in
    let here = g.H.HaltBack.here c.args.halt in
    let left = g.H.HaltBack.left c.args.halt in
    let behind = g.H.HaltBack.behind c.args.halt in
    let way = c.args.way in
    let first = c.args.self.now.machine.tick in
    let u = c.loop-entry.self.machine.tick in
    let entry = c.in-Some.entry in
    let after = c.advance.new.self.machine in
    let small = below-min _ _ _ e.goes.within in
    let later : u + 1 ≤ after.tick = omega (arith, e.goes.end, e.goes.some) in
    record {
      later = omega (arith, i.later, later);
      early = omega (arith, i.early, e.goes.end, small, c.now-tick.ensures.value);
      stands = λ begin set is. at-on begin set entry (stand_of c.loop-entry.self) (stand_of c.advance.new.self) e.goes.end e.jobs (e.legal set _ (machine-at begin set (stand_of c.loop-entry.self) (i.stands begin set is))) (i.stands begin set is);
      left = λ begin set is.
          let machine = machine-at begin set (stand_of c.loop-entry.self) (i.stands begin set is) in
          let follows = e.legal set _ machine in
          left_next here left behind way.passes begin set way.now first u after.tick entry after c.met_around-here.result.1 i.later e.goes.some e.goes.end follows
          (c.met_around-here.ensures.left ∙ ap (ahead_of left) machine);
      behind = λ begin set is.
          let machine = machine-at begin set (stand_of c.loop-entry.self) (i.stands begin set is) in
          let follows = e.legal set _ machine in
          behind_next here left behind way.passes begin set way.now first c.loop-entry.self.machine entry (stand_of c.advance.new.self) c.look_behind-behind.result i.later e.goes.some e.goes.end follows
          machine (at-on begin set entry (stand_of c.loop-entry.self) (stand_of c.advance.new.self) e.goes.end e.jobs follows (i.stands begin set is)).stand
          (c.look_behind-behind.ensures c.loop-entry.self.machine
          (c.note-before.ensures ∙ ap (λ (p : PositionState). g.H.HaltBack.notes c.args.halt p.machine) c.self.view_is));
      last = λ begin set is.
          let machine = machine-at begin set (stand_of c.loop-entry.self) (i.stands begin set is) in
          let follows = e.legal set _ machine in
          let met = back_at here left behind way.passes begin set first way.now in
          let at : met u ≡ c.met.result = met_here here left behind way.passes begin set way.now first u c.loop-entry.self.machine c.met_around-here.result.0 c.loop-entry.left c.loop-entry.behind c.met.result
          machine c.met_around-here.ensures.here (i.left begin set is) (i.behind begin set is) (rw (← c.now-tick.ensures.value) c.met.ensures) in
          extended met (max way.low first) (u + 1) after.tick c.noted-last.result later
          (λ k from within. none_within here left behind way.passes begin set way.now first u entry after follows k from (omega (arith, within, e.goes.end)))
          (rw (c.noted-last.ensures, c.now-tick.ensures.value) (noted_one met way.low first u c.loop-entry.last c.met.result i.later at (i.last begin set is)));
      goes = g.P.Pace.joins _ _ _ i.goes c.asked.ensures.goes;
      pauses = λ begun. c.asked.ensures.asks (i.pauses begun);
    }
