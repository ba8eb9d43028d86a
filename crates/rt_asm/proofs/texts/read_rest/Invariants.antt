use Rattle.rt_asm.proofs.Common.{◌≡◌, List, ◌++◌, length, SourceLine}
use Rattle.rt_text.specs.Reading.{reads}
use Rattle.rt_asm.proofs.texts.read_rest.Given as goal

-- the lines read here go behind those before
abbrev pub invariant-loop-line : goal.invariant-loop-line
invariant-loop-line l = (before : List SourceLine) → (here : List SourceLine) × (reads l.initial.reader before ≡ reads l.reader (before ++ here))

abbrev pub decreases-loop-line : goal.decreases-loop-line
decreases-loop-line l = length l.reader.lines
