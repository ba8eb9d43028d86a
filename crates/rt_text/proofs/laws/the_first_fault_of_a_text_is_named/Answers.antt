use Rattle.rt_text.proofs.Common.{[], source_lines}
use Rattle.rt_text.proofs.FaultLemmas.{no_faults, first_fault}
use Rattle.rt_text.proofs.laws.the_first_fault_of_a_text_is_named.Goals as goal

pub returns-clause-read : goal.returns-clause-read
returns-clause-read c = λ text lines h. no_faults 1 [] (source_lines 0 text) lines h

pub returns-clause-refused : goal.returns-clause-refused
returns-clause-refused c = λ text fault h. let b = first_fault 1 [] (source_lines 0 text) fault h in (b.rest, b.is)
