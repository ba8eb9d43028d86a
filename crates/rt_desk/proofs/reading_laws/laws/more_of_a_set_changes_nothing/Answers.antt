use Rattle.rt_desk.proofs.reading_laws.Sets.{set_law}
use Rattle.rt_desk.proofs.reading_laws.laws.more_of_a_set_changes_nothing.Goals as goal

pub returns : goal.returns
returns c bytes more long enough = set_law bytes more enough
