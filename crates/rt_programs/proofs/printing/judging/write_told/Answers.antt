use Rattle.rt_programs.proofs.Common.{◌∙◌}
use Rattle.rt_programs.proofs.printing.judging.write_told.Goals as goal

pub returns-clause-writes : goal.returns-clause-writes
returns-clause-writes g c = λ set has.
    let stands = c.machine.ensures ∙ (c.run-run.ensures.stands set 0 has).machine in
    rw c.in-Some.is (rw stands at c.write_of-written.ensures)
