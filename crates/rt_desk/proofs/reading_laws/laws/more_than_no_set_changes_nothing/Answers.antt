use Rattle.rt_desk.proofs.reading_laws.Sets.{set_law}
use Rattle.rt_desk.proofs.reading_laws.PlacedSets.{is_set_law}
use Rattle.rt_desk.proofs.reading_laws.laws.more_than_no_set_changes_nothing.Goals as goal

pub returns-clause-is_set : goal.returns-clause-is_set
returns-clause-is_set c bytes more enough = is_set_law bytes more enough

pub returns-clause-says : goal.returns-clause-says
returns-clause-says c bytes more enough = set_law bytes more enough
