use Rattle.rt_programs.proofs.Common.{refl, task_set, ends-written}
use Rattle.rt_show.specs.SetShown.{set_shown}
use Rattle.rt_programs.specs.Showing.{SetShows}
use Rattle.rt_programs.proofs.show_file.show_set.Goals as goal

pub returns : goal.returns
returns g c =
    let set = task_set c.in_ok-system.system in
    let read = c.in_ok-system.ensures.found in
    ends-written g.S.Sink.seen (SetShows c.args.bytes.now) c.args.out.now c.write_set.new.out (set_shown set) c.write_set.result c.answer.result c.answer.ensures
    (set, record { valid = read.0; bytes = read.1 }, refl) c.write_set.ensures
