use Rattle.rt_asm.proofs.Common.{◌≡◌, length}
use Rattle.rt_asm.proofs.DraftLemmas.{Drafting}
use Rattle.rt_asm.proofs.texts.text_layout.Given as goal

-- the lines so far are laid out and drafted
abbrev pub invariant-loop-reader : goal.invariant-loop-reader
invariant-loop-reader l = record {
  counted : l.number ≡ l.reader.number;
  drafting : Drafting l.text l.reader l.plan l.draft.bytes.items l.draft.left.items;
}

abbrev pub decreases-loop-reader : goal.decreases-loop-reader
decreases-loop-reader l = length l.reader.lines
