use Rattle.rt_core.proofs.Common.{safe_at}
use Rattle.rt_core.proofs.GoingLemmas.{Moves-keeps, Moves-task, Moves-follows}
use Rattle.rt_core.proofs.machine.Machine.advance.Goals as goal

pub returns-clause-keeps : goal.returns-clause-keeps
returns-clause-keeps g c = Moves-keeps c.min-most.result c.args.self.now c.go_on.result c.go_on.new.self c.go_on.ensures

pub returns-clause-legal : goal.returns-clause-legal
returns-clause-legal g c = λ set t is. Moves-follows set t c.min-most.result c.args.self.now c.go_on.result c.go_on.new.self is c.go_on.ensures

pub returns-clause-task : goal.returns-clause-task
returns-clause-task g c = Moves-task c.min-most.result c.args.self.now c.go_on.result c.go_on.new.self c.go_on.ensures

pub returns-clause-safe : goal.returns-clause-safe
returns-clause-safe g c = λ set t ok stands. safe_at set _ c.go_on.new.self ok (Moves-follows set t c.min-most.result c.args.self.now c.go_on.result c.go_on.new.self stands c.go_on.ensures).stands

pub returns-then-limit-eq0-clause-safe : goal.returns-then-limit-eq0-clause-safe
returns-then-limit-eq0-clause-safe g c = λ set t ok stands. safe_at set t c.args.self.now ok stands
