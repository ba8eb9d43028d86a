use Rattle.rt_programs.proofs.Common.{◌≡◌, ◌^◌, min, true, None, sym, ap, ◌∙◌, option_map, is_ram_size, object_value, TaskSet, task_set, MachineState, state_at, tick_is, load_fault, sim_load_fault, alone, solo_fault}
use Rattle.rt_trace.specs.RunText.{run_text}
use Rattle.rt_trace.specs.declared.telling.Telling.TheVariants.{Alone}
use Rattle.rt_programs.proofs.run_object.solo.Goals as goal

pub write_run-requires-clause-start : goal.write_run-requires-clause-start
write_run-requires-clause-start g c = ap (λ (m : MachineState). m.tick) c.in_ok-machine.ensures.1 ∙ tick_is (task_set c.in_ok-system.system) 0

pub returns-in-Ok-clause-ends : goal.returns-in-Ok-clause-ends
returns-in-Ok-clause-ends g c =
    let o = object_value c.in_ok-object.object in
    let s = alone o c.args.task in
    let set : task_set c.in_ok-system.system ≡ s = c.in_ok-system.ensures.set in
    let size : is_ram_size c.args.task.ram ≡ true = sym c.is_ram_size.ensures ∙ cc in
    let loaded : load_fault s ≡ None = ap load_fault (sym set) ∙ c.in_ok-machine.ensures.0 in
    let fault : solo_fault o c.args.task ≡ None = rw size (ap (option_map sim_load_fault) loaded) in
    let stands : c.in_ok-machine.machine ≡ state_at s 0 = c.in_ok-machine.ensures.1 ∙ ap (λ (x : TaskSet). state_at x 0) set in
    let text = run_text Alone s c.min-n.result in
    let told : text ≡ run_text Alone s (min c.args.n (2 ^ 40)) = ap (run_text Alone s) c.min-n.ensures in
    let took = rw c.in-Ok.is at (c.write_run.ensures.counts s stands) in
    (text, (o, record { valid = c.in_ok-object.ensures.found.0; bytes = c.in_ok-object.ensures.found.1 }, fault, told), took.1, took.0)

pub returns-clause-ends : goal.returns-clause-ends
returns-clause-ends g c =
    let o = object_value c.in_ok-object.object in
    let s = alone o c.args.task in
    let set : task_set c.in_ok-system.system ≡ s = c.in_ok-system.ensures.set in
    let size : is_ram_size c.args.task.ram ≡ true = sym c.is_ram_size.ensures ∙ cc in
    let loaded : load_fault s ≡ None = ap load_fault (sym set) ∙ c.in_ok-machine.ensures.0 in
    let fault : solo_fault o c.args.task ≡ None = rw size (ap (option_map sim_load_fault) loaded) in
    let stands : c.in_ok-machine.machine ≡ state_at s 0 = c.in_ok-machine.ensures.1 ∙ ap (λ (x : TaskSet). state_at x 0) set in
    let text = run_text Alone s c.min-n.result in
    let told : text ≡ run_text Alone s (min c.args.n (2 ^ 40)) = ap (run_text Alone s) c.min-n.ensures in
    let took = rw c.in-Err.is at (c.write_run.ensures.counts s stands) in
    (text, (o, record { valid = c.in_ok-object.ensures.found.0; bytes = c.in_ok-object.ensures.found.1 }, fault, told), took)
