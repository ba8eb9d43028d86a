use Rattle.rt_trace.proofs.Common.{◌≡◌, ◌+◌, ◌++◌, take, length, length-append, append_assoc, sym, ap, ◌∙◌, arith, task_text}
use Rattle.std.proofs.Common.{Some, slice_get}
use Rattle.std.proofs.lemmas.List.{take_all}
use Rattle.std.specs.Option.{option_map, option_copied}
use Rattle.rt_core.specs.View.{lent, shown}
use Rattle.rt_trace.specs.RunText.{after_line, tasks_text}
use Rattle.rt_trace.proofs.TaskLemmas.{some_shown, tasks_text-more}
use Rattle.rt_trace.proofs.run.EndText.offer.Goals as goal

pub unwrap-view-requires : goal.unwrap-view-requires
unwrap-view-requires g c =
    some_shown lent shown c.view.result c.args.self.now.machine.now.tasks c.loop-number.number (omega (arith, c.count-number-end.ensures)) c.view.ensures.shown

pub unwrap-output-requires : goal.unwrap-output-requires
unwrap-output-requires g c =
    some_shown (λ (b : _). b.now) (λ s. s.program.output) c.output.result c.args.self.now.machine.now.tasks c.loop-number.number (omega (arith, c.count-number-end.ensures)) c.output.ensures.bytes

pub loop-number-preserved : goal.loop-number-preserved
loop-number-preserved g c =
    let telling = c.args.self.now.telling in
    let xs = c.args.self.now.machine.now.tasks in
    let n = c.loop-number.number in
    let v = lent c.unwrap-view.result in
    let output = c.unwrap-output.result.now in
    let front = after_line c.args.self.now.machine.now.tick in
    let view_is : Some v ≡ option_map shown (slice_get xs n) = sym (ap (option_map lent) c.unwrap-view.ensures) ∙ c.view.ensures.shown in
    let output_is : Some output ≡ option_map (λ s. s.program.output) (slice_get xs n) = sym (ap option_copied c.unwrap-output.ensures) ∙ c.output.ensures.bytes in
    let more : front ++ tasks_text telling (take (n + 1) xs) ≡ (front ++ tasks_text telling (take n xs)) ++ task_text telling n v output =
    ap (λ t. front ++ t) (tasks_text-more telling n xs v output view_is output_is) ∙ sym (append_assoc front (tasks_text telling (take n xs)) (task_text telling n v output)) in
    record {
      offered = rw more (g.met.O.Out.joined _ _ _ _ _ c.loop-number.invariant.offered c.offer-in-loop-number.ensures.offers);
      short = omega (arith, c.loop-number.invariant.short, ap length more, length-append (front ++ tasks_text telling (take n xs)) (task_text telling n v output), c.offer-in-loop-number.ensures.short);
    }

pub returns-clause-short : goal.returns-clause-short
returns-clause-short g c =
    let all = take_all c.loop-number.number c.args.self.now.machine.now.tasks (omega (arith, c.count-number-end.ensures)) in
    omega (arith, rw all at c.loop-number.invariant.short)
