use Rattle.rt_perform.proofs.Common.{inr}
use Rattle.rt_perform.proofs.producing.elf_file.Goals as goal

pub returns-in-Err-lay_files : goal.returns-in-Err-lay_files
returns-in-Err-lay_files g c = inr (c.in-Ok.made, c.in-Ok.ensures.means, c.in-Err-lay_files.ensures)
