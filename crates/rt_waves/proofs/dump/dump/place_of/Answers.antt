use Rattle.rt_waves.proofs.Common.{◌≡◌, Some, length, sym, ap, ◌∙◌}
use Rattle.std.specs.Option.{option_map, option_copied}
use Rattle.rt_core.specs.View.{TaskView, lent, shown}
use Rattle.rt_trace.proofs.TaskLemmas.{some_shown}
use Rattle.rt_waves.proofs.dump.dump.place_of.Goals as goal

pub unwrap-view-requires : goal.unwrap-view-requires
unwrap-view-requires g c = some_shown lent shown c.view.result c.args.machine.now.tasks c.args.task c.requires c.view.ensures.shown

pub unwrap-output-requires : goal.unwrap-output-requires
unwrap-output-requires g c =
    some_shown (λ (b : _). b.now) (λ s. s.program.output) c.output.result c.args.machine.now.tasks c.args.task c.requires c.output.ensures.bytes

pub returns : goal.returns
returns g c = λ x there.
    let xs = c.args.machine.now.tasks in
    let v = lent c.unwrap-view.result in
    let output = c.unwrap-output.result.now in
    let view : Some v ≡ Some (shown x) = sym (ap (option_map lent) c.unwrap-view.ensures) ∙ c.view.ensures.shown ∙ ap (option_map shown) there in
    let bytes : Some output ≡ Some x.program.output = sym (ap option_copied c.unwrap-output.ensures) ∙ c.output.ensures.bytes ∙ ap (option_map (λ s. s.program.output)) there in
    let same : v ≡ shown x = cc in
    let written : output ≡ x.program.output = cc in
    (ap (λ (w : TaskView). w.state.pc) same, ap length written)
