use Rattle.rt_names.proofs.Common.{◌≡◌, ◌<◌, ◌≤◌, ℕ, List, ◌++◌, ◌∷◌, [], length, get_or, sym, ap, subst, ◌∙◌, arith, Task}
use Rattle.rt_image.specs.ObjectFile.{IsObject, object_value}
use Rattle.rt_names.proofs.NameLemmas.{first_names, names-more, names-all}
use Rattle.rt_names.proofs.ShortLemmas.{task-fits}
use Rattle.rt_names.proofs.task_names.TaskNames.of.Goals as goal

pub of-requires : goal.of-requires
of-requires c =
    let ts = c.args.system.now.tasks.items in
    let n = c.loop-number.number in
    let x = c.task-item.result in
    let here : x ≡ get_or ts n x = c.task-item.is ∙ ap (λ (xs : List Task). get_or xs n x) c.deref-task-items.ensures.value in
    let inside : n < length ts = omega (arith, c.loop-number-test.true, ap (λ (xs : List Task). length xs) c.deref-task-items.ensures.value) in
    subst (λ (t : Task). IsObject (object_value t.object)) (sym here) (task-fits c.args.system.now.version ts c.requires.tasks_fit n x inside).object_fits

pub loop-number-preserved : goal.loop-number-preserved
loop-number-preserved c =
    let ts = c.args.system.now.tasks.items in
    let n = c.loop-number.number in
    let x = c.task-item.result in
    let here : x ≡ get_or ts n x = c.task-item.is ∙ ap (λ (xs : List Task). get_or xs n x) c.deref-task-items.ensures.value in
    let inside : n < length ts = omega (arith, c.loop-number-test.true, ap (λ (xs : List Task). length xs) c.deref-task-items.ensures.value) in
    c.in_ok-push.ensures.items ∙ ap (λ (ns : List (List ℕ)). ns ++ c.of.result ∷ []) c.loop-number.invariant
    ∙ ap (λ (name : List ℕ). first_names n ts ++ name ∷ []) c.of.ensures ∙ sym (names-more n ts x inside here)

pub returns : goal.returns
returns c =
    let ts = c.args.system.now.tasks.items in
    let behind : length ts ≤ c.loop-number.number = omega (arith, c.loop-number-test.false, ap (λ (xs : List Task). length xs) c.deref-task-items.ensures.value) in
    c.loop-number.invariant ∙ names-all c.loop-number.number ts behind
