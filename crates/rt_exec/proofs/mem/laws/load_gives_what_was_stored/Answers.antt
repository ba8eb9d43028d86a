use Rattle.rt_exec.proofs.mem.AccessLemmas.{load-store}
use Rattle.rt_exec.proofs.mem.laws.load_gives_what_was_stored.Goals as goal

pub returns : goal.returns
returns c = load-store
