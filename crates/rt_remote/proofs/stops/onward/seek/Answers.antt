use Rattle.rt_remote.proofs.stops.OnwardLemmas.{seeks-of}
use Rattle.rt_remote.proofs.stops.onward.seek.Goals as goal

pub returns-then-is_any-clause-seeks : goal.returns-then-is_any-clause-seeks
returns-then-is_any-clause-seeks g c = λ begin set is.
    seeks-of c.new.result.way c.args.way begin set (g.P.Pace.has_paused c.seek.new.pace) c.args.walk.now.shown.machine.tick c.args.n c.seek.new.self.shown.machine.tick c.seek.result
    c.new.ensures (c.seek.ensures.seeks begin set is)

pub returns-then-any_step-clause-seeks : goal.returns-then-any_step-clause-seeks
returns-then-any_step-clause-seeks g c = λ begin set is.
    seeks-of c.new-then-any_step.result.way c.args.way begin set (g.P.Pace.has_paused c.seek-then-any_step.new.pace) c.args.walk.now.shown.machine.tick c.args.n c.seek-then-any_step.new.self.shown.machine.tick c.seek-then-any_step.result
    c.new-then-any_step.ensures (c.seek-then-any_step.ensures.seeks begin set is)

pub returns-in-Nowhere-clause-seeks : goal.returns-in-Nowhere-clause-seeks
returns-in-Nowhere-clause-seeks g c = λ begin set is.
    seeks-of c.new-in-Nowhere.result.way c.args.way begin set (g.P.Pace.has_paused c.seek-in-Nowhere.new.pace) c.args.walk.now.shown.machine.tick c.args.n c.seek-in-Nowhere.new.self.shown.machine.tick c.seek-in-Nowhere.result
    c.new-in-Nowhere.ensures (c.seek-in-Nowhere.ensures.seeks begin set is)

pub returns-in-At-clause-seeks : goal.returns-in-At-clause-seeks
returns-in-At-clause-seeks g c = λ begin set is.
    seeks-of c.new-in-At.result.way c.args.way begin set (g.P.Pace.has_paused c.seek-in-At.new.pace) c.args.walk.now.shown.machine.tick c.args.n c.seek-in-At.new.self.shown.machine.tick c.seek-in-At.result
    c.new-in-At.ensures (c.seek-in-At.ensures.seeks begin set is)

pub returns-in-Anywhere-clause-seeks : goal.returns-in-Anywhere-clause-seeks
returns-in-Anywhere-clause-seeks g c = λ begin set is.
    seeks-of c.new-in-Anywhere.result.way c.args.way begin set (g.P.Pace.has_paused c.seek-in-Anywhere.new.pace) c.args.walk.now.shown.machine.tick c.args.n c.seek-in-Anywhere.new.self.shown.machine.tick c.seek-in-Anywhere.result
    c.new-in-Anywhere.ensures (c.seek-in-Anywhere.ensures.seeks begin set is)
