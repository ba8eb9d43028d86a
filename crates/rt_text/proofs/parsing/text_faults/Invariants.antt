use Rattle.rt_text.proofs.Common.{◌≡◌, ◌++◌, length}
use Rattle.rt_text.specs.AllFaults.{faults_from, text_faults}
use Rattle.rt_text.proofs.parsing.text_faults.Given as goal

-- the faults so far, and those of the lines that are left, are those of the text
abbrev pub invariant-loop-reader : goal.invariant-loop-reader
invariant-loop-reader l = record {
  counted : l.number ≡ l.reader.number;
  same : l.faults.items ++ faults_from l.reader.number l.reader.lines ≡ text_faults l.text;
}

abbrev pub decreases-loop-reader : goal.decreases-loop-reader
decreases-loop-reader l = length l.reader.lines
