use Rattle.rt_programs.proofs.Common.{Err, ap, task_set}
use Rattle.rt_programs.proofs.ConvertLemmas.{fits_two}
use Rattle.rt_programs.proofs.convert_system.convert.Goals as goal

-- what was read has a spelling in version Two
pub unreachable-requires : goal.unreachable-requires
unreachable-requires c = c.in-Err-BadField.ensures.bad_field.0 (ap Err c.in-Err-BadField.field-0-is) (fits_two (task_set c.in_ok-system.system) c.in_ok-system.ensures.found.0)
