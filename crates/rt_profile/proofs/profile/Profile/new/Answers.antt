use Rattle.rt_profile.proofs.Common.{◌≡◌, ℕ, get_or, ◌<◌, List, length, map, sym, ap, subst, ◌∙◌, arith, length-map, TaskCounts}
use Rattle.std.proofs.lemmas.List.{take_all}
use Rattle.rt_image.specs.declared.system.Version.{Version}
use Rattle.rt_image.specs.declared.system.Task.{Task}
use Rattle.rt_image.specs.ObjectFile.{label}
use Rattle.rt_image.specs.SystemFile.{set_task, set_tasks, task_set, IsTask, AreTasks}
use Rattle.rt_names.proofs.ShortLemmas.{short-labels, task-fits}
use Rattle.rt_profile.proofs.SoundLemmas.{sound_first}
use Rattle.rt_profile.proofs.StandingLaws.{first_of, profile_first}
use Rattle.rt_profile.proofs.profile.Profile.new.Goals as goal

-- a task of a file has a spelling
fits : (version : Version) (ts items : List Task) (i : ℕ) (x : Task) → items ≡ ts → AreTasks version (set_tasks ts) → x ≡ get_or items i x → i < length items → IsTask version (set_task x)
fits version ts items i x same fit is below =
    let here : x ≡ get_or ts i x = is ∙ ap (λ (xs : List Task). get_or xs i x) same in
    let inside : i < length ts = omega (arith, below, ap (λ (xs : List Task). length xs) same) in
    subst (λ (t : Task). IsTask version (set_task t)) (sym here) (task-fits version ts fit i x inside)

pub new-requires-clause-few : goal.new-requires-clause-few
new-requires-clause-few c = omega (arith, (fits c.args.system.now.version c.args.system.now.tasks.items c.deref-task-items.result.now c.loop-task.task-index c.task-item.result c.deref-task-items.ensures.value c.requires.tasks_fit c.task-item.is c.loop-task-test.true).object_fits.count, length-map c.task-item.result.object.symbols.items label)

pub new-requires-clause-size : goal.new-requires-clause-size
new-requires-clause-size c = (fits c.args.system.now.version c.args.system.now.tasks.items c.deref-task-items.result.now c.loop-task.task-index c.task-item.result c.deref-task-items.ensures.value c.requires.tasks_fit c.task-item.is c.loop-task-test.true).ram_fits

pub new-requires-clause-image : goal.new-requires-clause-image
new-requires-clause-image c = (fits c.args.system.now.version c.args.system.now.tasks.items c.deref-task-items.result.now c.loop-task.task-index c.task-item.result c.deref-task-items.ensures.value c.requires.tasks_fit c.task-item.is c.loop-task-test.true).object_fits.size

pub new-requires-clause-names : goal.new-requires-clause-names
new-requires-clause-names c = let f = fits c.args.system.now.version c.args.system.now.tasks.items c.deref-task-items.result.now c.loop-task.task-index c.task-item.result c.deref-task-items.ensures.value c.requires.tasks_fit c.task-item.is c.loop-task-test.true in short-labels _ _ _ f.object_fits.labels_fit

-- the loop has made what is kept of each task
all_made : (c : goal.After-loop-task) → c.loop-task.tasks.items ≡ map first_of (set_tasks c.args.system.now.tasks.items)
all_made c =
    let ts = c.args.system.now.tasks.items in
    let late = rw c.deref-task-items.ensures.value at c.loop-task-test.false in
    c.loop-task.invariant ∙ ap (λ (xs : List Task). map first_of (set_tasks xs)) (take_all c.loop-task.task-index ts late)

pub invariant_of-result : goal.invariant_of-result
invariant_of-result c = rw (all_made c) (sound_first (set_tasks c.args.system.now.tasks.items) c.requires.count)

pub returns-clause-stands : goal.returns-clause-stands
returns-clause-stands c =
    ap (λ (xs : List TaskCounts). record { tick = 0; idle = 0; tasks = xs }) (all_made c) ∙ sym (profile_first (task_set c.args.system.now))
