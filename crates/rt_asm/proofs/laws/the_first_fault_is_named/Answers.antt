use Rattle.rt_asm.proofs.Common.{◌≡◌, ℕ, List, map, [], ap, ◌∙◌, Result, SourceLine, TextFault, AsmFault, Source}
use Rattle.rt_text.proofs.FaultLemmas.{first_fault}
use Rattle.rt_token.specs.SourceLines.{source_lines}
use Rattle.rt_asm.specs.AllFaults.{faults_of}
use Rattle.rt_asm.specs.declared.fault.LineFault.TheVariants.{Text}
use Rattle.rt_asm.proofs.FirstFaults.{assembled_none, no_entry_none, refused_first}
use Rattle.rt_asm.proofs.laws.the_first_fault_is_named.Goals as goal

read_as : (text : List ℕ) (r s : Result (List SourceLine) TextFault) → r ≡ s → faults_of r text ≡ faults_of s text
read_as text r s e = ap (λ (r : Result (List SourceLine) TextFault). faults_of r text) e

pub returns-clause-text : goal.returns-clause-text
returns-clause-text c = λ text fault h.
    let b = first_fault 1 [] (source_lines 0 text) fault h in
    (map Text b.rest, read_as text _ _ h ∙ ap (λ (fs : List TextFault). map Text fs) b.is)

pub returns-clause-source : goal.returns-clause-source
returns-clause-source c = λ text lines fault h a some.
    let b = refused_first lines fault a some in
    (map Source b.rest, read_as text _ _ h ∙ ap (λ (fs : List AsmFault). map Source fs) b.is)

pub returns-clause-no_entry : goal.returns-clause-no_entry
returns-clause-no_entry c = λ text lines fault h a none. read_as text _ _ h ∙ ap (λ (fs : List AsmFault). map Source fs) (no_entry_none lines fault a none)

pub returns-clause-none : goal.returns-clause-none
returns-clause-none c = λ text lines made h a. read_as text _ _ h ∙ ap (λ (fs : List AsmFault). map Source fs) (assembled_none lines made a)
