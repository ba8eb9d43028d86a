use Rattle.rt_programs.proofs.run_part.write_of.Goals as goal

pub returns-in-Output : goal.returns-in-Output
returns-in-Output g c = rw c.in-Output.is c.write_output.ensures
