use Rattle.rt_desk.proofs.reading_laws.Names.{names_law}
use Rattle.rt_desk.proofs.reading_laws.laws.more_of_names_changes_nothing.Goals as goal

pub returns : goal.returns
returns c bytes more n long enough = names_law bytes more n enough
