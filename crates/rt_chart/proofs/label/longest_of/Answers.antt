use Rattle.rt_chart.proofs.Common.{sym}
use Rattle.rt_chart.proofs.LabelLemmas.{longest-more}
use Rattle.rt_chart.proofs.label.longest_of.Goals as goal

pub loop-task-preserved : goal.loop-task-preserved
loop-task-preserved c =
    let more = longest-more c.args.window.now c.loop-task.task c.args.sketches.now c.index-sketches-task.result c.loop-task-test.true c.index-sketches-task.is in
    rw (c.longer-longest.ensures, c.len.ensures.value, c.label_of.ensures, c.loop-task.invariant) (sym more)
