use Rattle.rt_remote.proofs.Common.{sym, ◌∙◌}
use Rattle.rt_remote.proofs.stops.EventLemmas.{passed-on-alone}
use Rattle.rt_remote.proofs.stops.looks.AtPlaceHalt.may_stop.Goals as goal

pub returns : goal.returns
returns c = λ none. passed-on-alone c.args.self.now.way c.args.attempt.now _ c.args.self.now.alone (sym c.may_stop.ensures ∙ none)
