use Rattle.std.proofs.Common.{ℕ, ◌+◌, arith, sym, ap, ◌∙◌}
use Rattle.rt_set.specs.SaidLines.{task_line_from}
use Rattle.rt_set.specs.SetFile.{set_lines}
use Rattle.rt_set.proofs.LineLemmas.{first_line}
use Rattle.rt_set.proofs.SaidLemmas.{task_step}
use Rattle.rt_set.proofs.said_lines.line_of_task.Goals as goal

pub loop-rest-preserved : goal.loop-rest-preserved
loop-rest-preserved c =
    let first = first_line c.loop-rest.rest.now c.cut_line.result.0.now c.cut_line.result.1.now c.cut_line.ensures.first in
    record {
      counted = omega (arith, c.loop-rest.invariant.counted, c.cut_line.ensures.shorter);
      few = omega (arith, c.loop-rest.invariant.few, c.said_of-said.ensures.one);
      same =
          c.loop-rest.invariant.same
          ∙ task_step c.args.task c.loop-rest.number c.loop-rest.said (set_lines c.loop-rest.rest.now) c.cut_line.result.0.now (set_lines c.cut_line.result.1.now) first
          (sym c.is_task_line.ensures ∙ c.if-is_task_line.false)
          ∙ ap (λ (n : ℕ). task_line_from c.args.task (c.loop-rest.number + 1) (c.loop-rest.said + n) (set_lines c.cut_line.result.1.now)) (sym c.said_of-said.ensures.value);
    }
