use Rattle.rt_desk.proofs.Common.{append_assoc}
use Rattle.std.proofs.Common.{rules}
use Rattle.rt_desk.proofs.making.Folders.{last_folder}
use Rattle.rt_desk.proofs.making.new_file.path_beside.Goals as goal

pub returns-in-Some : goal.returns-in-Some
returns-in-Some c =
    let is = rw c.in-Some.is at (last_folder c.args.path.now _ c.rsplit_once.ensures.cases) in
    rw is (search (rules, append_assoc))

pub returns-in-None : goal.returns-in-None
returns-in-None c =
    let is = rw c.in-None.is at (last_folder c.args.path.now _ c.rsplit_once.ensures.cases) in
    rw is (search rules)
