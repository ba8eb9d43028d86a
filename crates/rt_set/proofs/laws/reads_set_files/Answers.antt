use Rattle.rt_set.proofs.SetLaws.{set_takes, set_again}
use Rattle.rt_set.proofs.FaultLaws.{fault_takes, fault_again}
use Rattle.rt_set.proofs.laws.reads_set_files.Goals as goal

pub returns-clause-read : goal.returns-clause-read
returns-clause-read c = λ text s. (set_takes text s, set_again text s)

pub returns-clause-refused : goal.returns-clause-refused
returns-clause-refused c = λ text line. (fault_takes text line, fault_again text line)
