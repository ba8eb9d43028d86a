use Rattle.rt_debug.proofs.NamedLemmas.{same_word}
use Rattle.rt_debug.proofs.laws.names_mean_what_options_mean.Goals as goal

pub returns : goal.returns
returns c names name i = same_word names name i
