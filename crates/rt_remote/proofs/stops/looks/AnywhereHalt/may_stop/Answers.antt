use Rattle.rt_remote.proofs.Common.{sym, ◌∙◌}
use Rattle.rt_remote.proofs.stops.EventLemmas.{passed-on}
use Rattle.rt_remote.proofs.stops.looks.AnywhereHalt.may_stop.Goals as goal

pub returns : goal.returns
returns c = λ none. passed-on c.args.self.now.way c.args.attempt.now c.args.self.now.steps c.args.self.now.unasked c.args.self.now.stepped (sym c.may_stop.ensures ∙ none)
