use Rattle.rt_set.proofs.MisfitLaws.{misfit_refused, refused_misfit, faulty_misfit}
use Rattle.rt_set.proofs.laws.misfits_are_in_faulty_lines.Goals as goal

pub returns-clause-refused : goal.returns-clause-refused
returns-clause-refused c = λ before line. (misfit_refused before line, refused_misfit before line)

pub returns-clause-first : goal.returns-clause-first
returns-clause-first c = faulty_misfit
