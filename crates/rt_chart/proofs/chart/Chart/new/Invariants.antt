use Rattle.rt_chart.proofs.Common.{◌≡◌, take}
use Rattle.rt_image.specs.SystemFile.{set_tasks}
use Rattle.rt_chart.proofs.SoundLemmas.{first_drawings}
use Rattle.rt_chart.proofs.chart.Chart.new.Given as goal

abbrev pub invariant-loop-number : goal.invariant-loop-number
invariant-loop-number l = l.sketches.items ≡ first_drawings l.except 0 (set_tasks (take l.number l.tasks))
