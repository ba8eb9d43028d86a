use Rattle.rt_text.proofs.Common.{arith, ap, List, Slice, Token}
use Rattle.std.proofs.Common.{rules}
use Rattle.rt_text.proofs.LabelLemmas.{line_label_names}
use Rattle.rt_text.proofs.line.reading.line_at.Goals as goal

-- the labels are words, and within the line
pub invariant_of-saying : goal.invariant_of-saying
invariant_of-saying c =
    line_label_names c.args.place c.args.bytes.now c.as_slice-2.result.now _ (search rules) (omega arith) (ap (λ (p : List Slice × List Token). p.0) c.in_ok-labels.ensures)
