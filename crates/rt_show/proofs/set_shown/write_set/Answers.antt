use Rattle.std.proofs.Common.{List, All, length, sym, ap, subst, arith}
use Rattle.std.proofs.lemmas.List.{length-map}
use Rattle.rt_image.specs.declared.system.Task.{Task}
use Rattle.rt_image.specs.ObjectFile.{IsObject, object_value}
use Rattle.rt_image.specs.SystemFile.{set_task}
use Rattle.rt_text_out.proofs.LineLemmas.{lines-mapped}
use Rattle.rt_show.specs.SetShown.{task_shown}
use Rattle.rt_show.proofs.ShownLemmas.{images-fit}
use Rattle.rt_show.proofs.set_shown.write_set.Goals as goal

pub invariant_of-tasks-clause-few : goal.invariant_of-tasks-clause-few
invariant_of-tasks-clause-few g c =
    omega (arith, length-map c.args.system.now.tasks.items set_task, c.requires.spelled.count, ap (λ (us : List Task). length us) c.deref.ensures.value)

pub invariant_of-tasks-clause-may : goal.invariant_of-tasks-clause-may
invariant_of-tasks-clause-may g c =
    subst (All (λ (t : Task). IsObject (object_value t.object))) (sym c.deref.ensures.value)
    (images-fit c.args.system.now.version c.args.system.now.tasks.items c.requires.spelled.tasks_fit)

pub returns : goal.returns
returns g c =
    let s = c.args.system.now in
    let lines = lines-mapped (task_shown s.hyper) set_task 0 s.tasks.items in
    rw (c.plain.ensures, c.plain-2.ensures, c.version_line.ensures.text, c.plain-3.ensures, c.plain-4.ensures, c.from.ensures, c.deref.ensures.value, lines) at c.write.ensures
