use Rattle.rt_image.proofs.Systems.{system_takes, system_again}
use Rattle.rt_image.proofs.Fields.{IsBytes-all}
use Rattle.rt_image.proofs.laws.reads_system_spellings.Goals as goal

pub returns-clause-read : goal.returns-clause-read
returns-clause-read c = λ file o fits e. system_takes file o (IsBytes-all file fits) e

pub returns-clause-spelled : goal.returns-clause-spelled
returns-clause-spelled c = system_again
