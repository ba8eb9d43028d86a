use Rattle.rt_asm.proofs.PrintingLaw.{reads_back}
use Rattle.rt_asm.proofs.printing_law.what_is_printed_reads_back.Goals as goal

pub returns : goal.returns
returns c = reads_back
