use Rattle.rt_remote.proofs.TalkLemmas.{faithful}
use Rattle.rt_remote.proofs.laws.remote_sessions_are_faithful.Goals as goal

pub returns : goal.returns
returns c set names machine requests new is talk = faithful set names machine requests new is talk
