use Rattle.rt_core.proofs.Common.{◌≡◌, length, None, true, sym, ap, subst, ◌∙◌, arith, length-map, All-map, SetTask, set_tasks, state_at, safe_at, first_task_fault}
use Rattle.rt_words.specs.Limits.{is_ram_size}
use Rattle.rt_admit.specs.Admission.{IsRunnable}
use Rattle.rt_admit.specs.AdmittedSet.{AdmittedSet}
use Rattle.rt_image.specs.SystemFile.{set_task, task_set}
use Rattle.rt_history.specs.Admitted.{params_in}
use Rattle.rt_history.proofs.Steps.{state_begins}
use Rattle.rt_core.proofs.LoadingLemmas.{all_makeable, tied_first, refuses}
use Rattle.rt_core.proofs.machine.Machine.load_runnable.Goals as goal

pub first_fault-requires : goal.first_fault-requires
first_fault-requires g c =
    let items = c.args.system.now.tasks.items in
    let runnable = subst (λ (a : AdmittedSet). IsRunnable a.hyper a.tasks) c.requires.set c.params.ensures.runnable in
    omega (arith, runnable.few, length-map (set_tasks items) params_in, length-map items set_task, ap length c.deref.ensures.value)

pub returns-in-Some-clause-begins : goal.returns-in-Some-clause-begins
returns-in-Some-clause-begins g c =
    refuses (task_set c.args.system.now) c.in-Some.fault (rw (← c.deref.ensures.value) (sym c.first_fault.ensures ∙ c.in-Some.is))

pub make_tasks-requires : goal.make_tasks-requires
make_tasks-requires g c =
    let ss = set_tasks c.args.system.now.tasks.items in
    let runnable = subst (λ (a : AdmittedSet). IsRunnable a.hyper a.tasks) c.requires.set c.params.ensures.runnable in
    let none : first_task_fault 0 ss ≡ None = rw (← c.deref.ensures.value) (sym c.first_fault.ensures ∙ c.in_default.is) in
    let sizes = All-map (λ (t : SetTask). is_ram_size t.ram ≡ true) set_task c.args.system.now.tasks.items c.requires.sizes in
    rw c.deref-2.ensures.value (all_makeable c.args.system.now.hyper ss runnable none sizes)

pub begin-requires : goal.begin-requires
begin-requires g c =
    let ss = set_tasks c.args.system.now.tasks.items in
    let runnable = subst (λ (a : AdmittedSet). IsRunnable a.hyper a.tasks) c.requires.set c.params.ensures.runnable in
    let hyper : c.hyper.result ≡ c.args.system.now.hyper = c.hyper.ensures ∙ ap (λ (a : AdmittedSet). a.hyper) c.requires.set in
    let count : length c.params.result.now ≡ length ss = ap length (c.params.ensures.value ∙ ap (λ (a : AdmittedSet). a.tasks) c.requires.set) ∙ length-map ss params_in in
    rw (c.in_ok-ready.ensures, c.set_timers.ensures, c.in_ok-tasks.ensures, c.deref-2.ensures.value, c.deref-3.ensures.value, count, hyper)
    (tied_first c.args.system.now.hyper ss runnable)

pub returns : goal.returns
returns g c =
    let set = task_set c.args.system.now in
    let ss = set_tasks c.args.system.now.tasks.items in
    let hyper : c.hyper.result ≡ c.args.system.now.hyper = c.hyper.ensures ∙ ap (λ (a : AdmittedSet). a.hyper) c.requires.set in
    let none : first_task_fault 0 ss ≡ None = rw (← c.deref.ensures.value) (sym c.first_fault.ensures ∙ c.in_default.is) in
    let stands : c.begin.result ≡ state_at set 0 = c.begin.ensures ∙ rw (c.in_ok-tasks.ensures, c.deref-2.ensures.value, hyper) (sym (state_begins set)) in
    record {
      begins = (none, stands);
      safe = λ admitted. safe_at set 0 c.begin.result admitted stands;
    }
