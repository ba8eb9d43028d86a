use Rattle.std.proofs.Common.{length, ◌-◌, ◌≤◌, take, Ok}
use Rattle.rt_desk.specs.making.Disk.{Calls, SameBut}
use Rattle.rt_desk.specs.making.Working.Parts.{Fills}
use Rattle.rt_desk.proofs.making.new_file.write_all.Given as goal

abbrev pub invariant-loop-done : goal.invariant-loop-done
invariant-loop-done g l = record {
  within : l.done ≤ length l.bytes;
  calls : Calls (Fills l.path (take l.done l.bytes) (Ok tt)) (SameBut l.path) (g.D.Disk.standing l.fn.disk) (g.D.Disk.standing l.disk);
}

abbrev pub decreases-loop-done : goal.decreases-loop-done
decreases-loop-done g l = length l.bytes - l.done
