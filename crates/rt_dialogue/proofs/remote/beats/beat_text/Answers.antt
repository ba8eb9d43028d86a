use Rattle.rt_dialogue.proofs.remote.AskLemmas.{beat_is}
use Rattle.rt_dialogue.proofs.remote.beats.beat_text.Goals as goal

pub returns : goal.returns
returns c = beat_is
