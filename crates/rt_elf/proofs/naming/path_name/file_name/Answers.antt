use Rattle.rt_elf.proofs.Common.{sym}
use Rattle.rt_elf.proofs.naming.PathLemmas.{last_slash}
use Rattle.rt_elf.proofs.naming.path_name.file_name.Goals as goal

pub returns-in-Some : goal.returns-in-Some
returns-in-Some c = rw c.in-Some.is at (last_slash c.args.path.now _ c.rsplit_once.ensures.cases)

pub returns-in-None : goal.returns-in-None
returns-in-None c = sym (rw c.in-None.is at (last_slash c.args.path.now _ c.rsplit_once.ensures.cases))
