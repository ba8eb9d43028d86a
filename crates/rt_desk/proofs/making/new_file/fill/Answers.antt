use Rattle.std.proofs.Common.{refl}
use Rattle.rt_desk.specs.making.Disk.{Calls, Same, SameBut}
use Rattle.rt_desk.proofs.making.Steps.{stays, all_written}
use Rattle.rt_desk.proofs.making.new_file.fill.Goals.{in-Some+in_ok-map_err, in_default}
use Rattle.rt_desk.proofs.making.new_file.fill.Goals as goal

pub returns-clause-calls : goal.returns-clause-calls
returns-clause-calls g c =
    let part = c.args.part.now in
    let permitted : Calls Same (SameBut part) (g.D.Disk.standing c.args.disk.now) (g.D.Disk.standing c.match-permissions.disk) = elim c.match-permissions.branch [
      | in-Some+in_ok-map_err w ↦ rw w.disk-is w.set_permissions.ensures.calls
      | in_default w ↦ rw w.disk-is (stays Same (SameBut part) _ (λ path. refl) (λ x path _. refl))
    ] in
    all_written part c.args.bytes.now c.map_err-2.result _ _ _ _ permitted c.in_ok-write_all.ensures.calls c.sync.ensures.calls
