use Rattle.rt_desk.specs.making.Disk.{Calls, Same}
use Rattle.rt_desk.proofs.making.Steps.{TakenSoFar}
use Rattle.rt_desk.proofs.making.new_file.make_part.Given as goal

abbrev pub invariant-loop-number : goal.invariant-loop-number
invariant-loop-number g l = record {
  taken : Calls (TakenSoFar l.path l.number) Same (g.D.Disk.standing l.fn.disk) (g.D.Disk.standing l.disk);
}
