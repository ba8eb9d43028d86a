use Rattle.std.proofs.Common.{◌≡◌, List, length, None, Ok, sym, ap, ◌∙◌}
use Rattle.std.proofs.lemmas.List.{length-map}
use Rattle.rt_admit.specs.declared.params.Params.{Params}
use Rattle.rt_admit.specs.AdmittedSet.{AdmittedSet}
use Rattle.rt_admit.specs.Refusal.{refusal_under}
use Rattle.rt_core.proofs.LoadingLemmas.{taken}
use Rattle.rt_image.specs.SystemFile.{task_set, set_tasks}
use Rattle.rt_history.specs.Admitted.{params_in, task_params}
use Rattle.rt_history.specs.MachineState.{MachineState}
use Rattle.rt_history.proofs.Steps.{tick_is, tasks-count}
use Rattle.rt_opening.proofs.opening.open_set.Goals as goal

pub returns : goal.returns
returns c =
    let set = task_set c.args.system.now in
    let ss = set_tasks c.args.system.now.tasks.items in
    let loaded = c.in_ok-machine.ensures.begins in
    let asked : c.in_ok-runnable.runnable.tasks ≡ task_params ss = ap (λ (a : AdmittedSet). a.tasks) c.in_ok-runnable.ensures.value ∙ c.requires.asked in
    let machine : length c.in_ok-machine.machine.tasks ≡ length set.tasks = ap (λ (m : MachineState). length m.tasks) loaded.1 ∙ tasks-count set 0 in
    let none : refusal_under c.args.admission set.hyper (task_params ss) ≡ None = ap (refusal_under c.args.admission set.hyper) (sym c.requires.asked) ∙ c.in_ok-runnable.ensures.refused in
    record {
      loads = (taken c.args.admission set (Ok c.in_ok-machine.machine) none loaded).0;
      stands = loaded.1;
      start = ap (λ (m : MachineState). m.tick) loaded.1 ∙ tick_is set 0;
      asked = sym asked;
      count = ap (λ (ps : List Params). length ps) asked ∙ length-map ss params_in ∙ sym machine;
      many = sym machine;
    }
