use Rattle.rt_desk.proofs.Common.{arith}
use Rattle.rt_desk.proofs.reading_laws.Sources.{source_law}
use Rattle.rt_desk.proofs.reading_laws.laws.more_of_a_source_changes_nothing.Goals as goal

pub returns : goal.returns
returns c bytes more long enough = source_law bytes more (omega (arith, long)) enough
