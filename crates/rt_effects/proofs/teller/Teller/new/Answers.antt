use Rattle.rt_effects.proofs.Common.{◌≡◌, ◌<◌, ◌++◌, ◌∷◌, [], List, length, get_or, sym, ap, subst, ◌∙◌, arith, TaskWords, words_of}
use Rattle.rt_image.specs.declared.system.Task.{Task}
use Rattle.rt_image.specs.ObjectFile.{IsObject, object_value}
use Rattle.rt_image.specs.SystemFile.{set_task}
use Rattle.rt_names.proofs.ShortLemmas.{task-fits}
use Rattle.rt_effects.proofs.WordLemmas.{first_words, words-more}
use Rattle.rt_effects.proofs.teller.Teller.new.Goals as goal

pub new-requires : goal.new-requires
new-requires c =
    let ts = c.args.system.now.tasks.items in
    let n = c.loop-number.number in
    let x = c.task-item.result in
    let here : x ≡ get_or ts n x = c.task-item.is ∙ ap (λ (xs : List Task). get_or xs n x) c.deref-task-items.ensures.value in
    let inside : n < length ts = omega (arith, c.loop-number-test.true, ap (λ (xs : List Task). length xs) c.deref-task-items.ensures.value) in
    subst (λ (t : Task). IsObject (object_value t.object)) (sym here) (task-fits c.args.system.now.version ts c.requires.tasks_fit n x inside).object_fits

pub loop-number-preserved : goal.loop-number-preserved
loop-number-preserved c =
    let ts = c.args.system.now.tasks.items in
    let n = c.loop-number.number in
    let x = c.task-item.result in
    let here : x ≡ get_or ts n x = c.task-item.is ∙ ap (λ (xs : List Task). get_or xs n x) c.deref-task-items.ensures.value in
    let inside : n < length ts = omega (arith, c.loop-number-test.true, ap (λ (xs : List Task). length xs) c.deref-task-items.ensures.value) in
    let made : c.in_ok-new.field-0 ≡ words_of n (set_task x) = c.in_ok-new.ensures in
    c.in_ok-push.ensures.items ∙ ap (λ (ws : List TaskWords). ws ++ c.in_ok-new.field-0 ∷ []) c.loop-number.invariant
    ∙ ap (λ (w : TaskWords). first_words n ts ++ w ∷ []) made ∙ sym (words-more n ts x inside here)
