use Rattle.rt_asm.proofs.Common.{Ok, Option, subst, SourceLine, NextLine}
use Rattle.std.proofs.lemmas.Result.{err_from_is_err_and}
use Rattle.rt_asm.proofs.TextLemmas.{line_since, all_since, fault_since}
use Rattle.rt_asm.proofs.texts.read_rest.Goals as goal

pub returns-in_err-line : goal.returns-in_err-line
returns-in_err-line c =
    let p = err_from_is_err_and c.from_residual.result c.from_residual.ensures.1 in
    rw (p.1, p.2) (fault_since c.args.reader.now c.loop-line.reader c.next_line.new.self _ c.in_err-line.ensures.read c.loop-line.invariant)

pub loop-line-preserved : goal.loop-line-preserved
loop-line-preserved c =
    rw c.reuse.ensures (line_since c.args.reader.now c.loop-line.reader c.next_line.new.self c.in-Some.line
    (subst (λ (o : Option SourceLine). NextLine c.loop-line.reader (Ok o) c.next_line.new.self) c.in-Some.is c.in_ok-line.ensures.read) c.loop-line.invariant)

pub returns : goal.returns
returns c =
    all_since c.args.reader.now c.loop-line.reader c.next_line.new.self
    (subst (λ (o : Option SourceLine). NextLine c.loop-line.reader (Ok o) c.next_line.new.self) c.in_default.is c.in_ok-line.ensures.read) c.loop-line.invariant
