use Rattle.rt_asm.proofs.Common.{Ok, Option, ap, subst, ◌∙◌, SourceLine, Reading, NextLine}
use Rattle.rt_asm.proofs.TextLemmas.{layout_refused}
use Rattle.rt_asm.proofs.DraftLemmas.{line_drafted, all_drafted}
use Rattle.rt_asm.proofs.texts.text_layout.Goals as goal

pub returns-in-Err : goal.returns-in-Err
returns-in-Err c =
    rw (c.from.ensures, c.at_line.ensures, c.loop-reader.invariant.counted)
    (layout_refused c.args.text.now c.loop-reader.reader c.next_line.new.self c.loop-reader.plan c.loop-reader.invariant.drafting.kept c.in-Some.line c.in-Err.fault
    (subst (λ (o : Option SourceLine). NextLine c.loop-reader.reader (Ok o) c.next_line.new.self) c.in-Some.is c.in_ok-line.ensures.read)
    c.in-Err.ensures.exact c.in_ok-read_rest.ensures c.loop-reader.invariant.drafting.laid)

pub loop-reader-preserved : goal.loop-reader-preserved
loop-reader-preserved c = rw c.draft_line.ensures.same (record {
  counted = c.number-number-in-Some.ensures ∙ ap (λ (r : Reading). r.number) c.draft_line.ensures.same;
  drafting =
      line_drafted c.args.text.now c.loop-reader.reader c.next_line.new.self c.loop-reader.plan c.add_line.new.self c.labels.result.now c.place-place.result
      c.loop-reader.draft.bytes.items c.draft_line.new.draft.bytes.items c.loop-reader.draft.left.items c.draft_line.new.draft.left.items c.in-Some.line c.loop-reader.number
      (subst (λ (o : Option SourceLine). NextLine c.loop-reader.reader (Ok o) c.next_line.new.self) c.in-Some.is c.in_ok-line.ensures.read)
      c.in_default-add_line.ensures.names c.in_default-add_line.ensures.exact c.loop-reader.invariant.counted c.place-place.ensures c.labels.ensures c.in_ok-draft_line.ensures.drafted c.loop-reader.invariant.drafting;
})

pub returns : goal.returns
returns c =
    all_drafted c.args.text.now c.loop-reader.reader c.next_line.new.self c.loop-reader.plan c.loop-reader.draft.bytes.items c.loop-reader.draft.left.items
    (subst (λ (o : Option SourceLine). NextLine c.loop-reader.reader (Ok o) c.next_line.new.self) c.in_default.is c.in_ok-line.ensures.read) c.loop-reader.invariant.drafting
