use Rattle.rt_chart.proofs.Common.{◌≡◌, true, take, list_all}
use Rattle.rt_chart.proofs.CrowdLemmas.{row_has_room}
use Rattle.rt_chart.proofs.crowding.all_have_room.Given as goal

abbrev pub invariant-loop-sketch : goal.invariant-loop-sketch
invariant-loop-sketch l = list_all (row_has_room l.window l.width) (take l.sketch-index l.sketches) ≡ true
