use Rattle.rt_programs.proofs.Common.{ℕ, List, [], sym, ap, subst, ◌∙◌, Task, object_value, set_task, set_tasks}
use Rattle.std.proofs.Common.{get_or}
use Rattle.rt_image.specs.ObjectFile.{IsObject}
use Rattle.rt_programs.proofs.ObjectLemmas.{objects_fit}
use Rattle.rt_programs.proofs.NameLemmas.{name-is}
use Rattle.rt_programs.proofs.CertifySetLemmas.{task-there}
use Rattle.rt_programs.proofs.certify_set.CertifiableSet.uncertified.Goals as goal

pub symbol_of-requires : goal.symbol_of-requires
symbol_of-requires c =
    let system = c.args.self.now.system in
    subst (λ (t : Task). IsObject (object_value t.object)) (sym c.index-task.ensures)
    (objects_fit system.version system.tasks.items c.requires.certifiable.valid.tasks_fit c.args.number _ c.requires.there)

pub returns-clause-name : goal.returns-clause-name
returns-clause-name c =
    let items = c.args.self.now.system.tasks.items in
    let t = c.index-task.result.now in
    c.symbol_of.ensures c.args.number ∙ sym (name-is (set_tasks items) c.args.number (set_task t) (task-there items c.args.number t c.requires.there c.index-task.ensures))
    ∙ ap (λ (names : List (List ℕ)). get_or names c.args.number []) (sym c.requires.certifiable.named)
