use Rattle.rt_asm.proofs.Common.{rules}
use Rattle.rt_asm.proofs.DraftLemmas.{drafted_known, drafted_left}
use Rattle.rt_asm.proofs.texts.draft_line.Goals as goal

pub returns-in-Some-clause-drafted : goal.returns-in-Some-clause-drafted
returns-in-Some-clause-drafted c =
    drafted_known c.push_to.result c.args.labels.now c.args.place c.args.draft.now.bytes.items c.push_to.new.out.items c.args.draft.now.left.items c.args.line c.args.number c.in-Some.code
    c.in-Some.ensures c.push_to.ensures

pub returns-in-None-clause-drafted : goal.returns-in-None-clause-drafted
returns-in-None-clause-drafted c =
    drafted_left c.leave.result c.args.labels.now c.args.place c.len.result c.args.draft.now.bytes.items c.args.draft.now.left.items c.leave.new.left.items c.args.line c.args.number
    c.take_meaning-meaning.result (search rules) c.take_meaning-meaning.ensures.meaning c.leave.ensures
