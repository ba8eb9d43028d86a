use Rattle.rt_asm.proofs.Common.{List, KeptStatement}
use Rattle.rt_asm.specs.Working.Drafts.{IsDraft}
use Rattle.rt_asm.proofs.DraftLemmas.{Filled}
use Rattle.rt_asm.proofs.texts.filled.Given as goal

-- so many of the statements that are left have their bytes, and what is known before them is there
abbrev pub invariant-loop-item : goal.invariant-loop-item
invariant-loop-item l =
    (kept : List KeptStatement) → IsDraft l.plan.labels l.plan.place kept l.known l.left
    → Filled l.plan.labels l.plan.place kept l.left l.item-index l.taken l.rest l.bytes.items
