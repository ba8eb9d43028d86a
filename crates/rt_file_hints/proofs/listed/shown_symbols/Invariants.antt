use Rattle.std.proofs.Common.{length}
use Rattle.rt_file_hints.proofs.listed.shown_symbols.Given as goal

abbrev pub decreases-loop-rest : goal.decreases-loop-rest
decreases-loop-rest l = length l.rest
