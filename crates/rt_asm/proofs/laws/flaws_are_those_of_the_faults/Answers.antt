use Rattle.rt_asm.proofs.Common.{List, map, ap, ◌∙◌, Result, SourceLine, TextFault, Source}
use Rattle.rt_asm.specs.Flaws.{flaws_of}
use Rattle.rt_asm.proofs.FlawLemmas.{flaws_are_faults}
use Rattle.rt_asm.proofs.laws.flaws_are_those_of_the_faults.Goals as goal

pub returns : goal.returns
returns c = λ text lines read.
    ap (λ (r : Result (List SourceLine) TextFault). map (λ flaw. Source flaw.fault) (flaws_of r)) read ∙ flaws_are_faults text lines read
