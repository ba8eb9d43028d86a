use Rattle.rt_debug.proofs.TalkLemmas.{faithful}
use Rattle.rt_debug.proofs.laws.sessions_are_faithful.Goals as goal

pub returns : goal.returns
returns g c meets set machine acts new later is talk = faithful meets set machine acts new later is talk
