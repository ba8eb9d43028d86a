use Rattle.rt_desk.proofs.Common.{arith}
use Rattle.rt_desk.proofs.reading_laws.RefusedSystems.{no_system_law}
use Rattle.rt_desk.proofs.reading_laws.laws.more_of_a_system_changes_nothing.Goals as goal

pub returns : goal.returns
returns c bytes more long enough = no_system_law bytes more (omega (arith, long)) enough.0
