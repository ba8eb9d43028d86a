use Rattle.rt_asm.proofs.Common.{◌≡◌, [], arith, rules}
use Rattle.std.proofs.lemmas.List.{nil_from_length}
use Rattle.rt_asm.proofs.DraftLemmas.{draft_whole}
use Rattle.rt_asm.proofs.KeptLemmas.{Ended}
use Rattle.rt_asm.proofs.texts.finished.Goals as goal

pub returns-then-is_empty-clause-bytes : goal.returns-then-is_empty-clause-bytes
returns-then-is_empty-clause-bytes c = λ kept d.
    let none : c.args.draft.left.items ≡ [] = nil_from_length c.args.draft.left.items (search rules) in
    (draft_whole c.args.plan.now.labels c.args.plan.now.place kept c.args.draft.bytes.items c.args.draft.left.items d none).bytes

pub returns-then-is_empty-clause-low : goal.returns-then-is_empty-clause-low
returns-then-is_empty-clause-low c =
    let none : c.args.draft.left.items ≡ [] = nil_from_length c.args.draft.left.items (search rules) in
    let e : Ended c.args.plan.now.labels c.args.plan.now.place c.requires.drafted.0 c.args.draft.bytes.items =
    draft_whole c.args.plan.now.labels c.args.plan.now.place c.requires.drafted.0 c.args.draft.bytes.items c.args.draft.left.items c.requires.drafted.1 none in
    omega (arith, e.size, c.requires.low)

pub returns-then-is_empty-clause-exact : goal.returns-then-is_empty-clause-exact
returns-then-is_empty-clause-exact c = λ kept d.
    let none : c.args.draft.left.items ≡ [] = nil_from_length c.args.draft.left.items (search rules) in
    (draft_whole c.args.plan.now.labels c.args.plan.now.place kept c.args.draft.bytes.items c.args.draft.left.items d none).checked
