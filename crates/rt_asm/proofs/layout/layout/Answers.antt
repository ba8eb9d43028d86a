use Rattle.rt_asm.proofs.Common.{subst, arith, All, common_steps, AreLabelNames, SourceLine}
use Rattle.std.proofs.lemmas.List.{take_all}
use Rattle.std.proofs.lemmas.List.Elements.{All-more}
use Rattle.rt_asm.proofs.layout.layout.Goals as goal

pub loop-line-preserved : goal.loop-line-preserved
loop-line-preserved c = record {
  counted = omega arith;
  named = All-more (λ line. AreLabelNames line.labels) c.args.lines.now c.loop-line.line-index c.line-item.result c.loop-line-test.true c.loop-line.invariant.named
      (subst (λ (line : SourceLine). AreLabelNames line.labels) c.line-item.is c.in-Ok.ensures.names);
  same = grind (arith, common_steps);
}

pub returns-clause-names : goal.returns-clause-names
returns-clause-names c =
    subst (All (λ line. AreLabelNames line.labels)) (take_all c.loop-line.line-index c.args.lines.now c.loop-line-test.false) c.loop-line.invariant.named
