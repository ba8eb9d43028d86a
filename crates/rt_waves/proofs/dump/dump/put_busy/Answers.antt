use Rattle.rt_waves.proofs.Common.{◌≡◌, ◌+◌, ◌-◌, ◌++◌, ℕ, List, Some, slice_get, sym, ap, subst, ◌∙◌, arith, flat_map, range_with_len, told_block}
use Rattle.rt_history.specs.MachineState.{MachineState}
use Rattle.std.proofs.lemmas.List.{append-nil}
use Rattle.rt_history.proofs.Steps.{tick_is}
use Rattle.rt_waves.proofs.dump.dump.put_busy.Goals as goal

pub returns-clause-stands : goal.returns-clause-stands
returns-clause-stands g c = λ set from t is goes stands.
    c.add_busy.ensures.stands set from t is goes
    (λ x there. c.place_of-place.ensures x (subst (λ (m : MachineState). slice_get m.tasks c.args.attempt.now.task ≡ Some x) (sym stands) there))

pub returns-clause-text : goal.returns-clause-text
returns-clause-text g c = λ set from t is goes stands.
    let f = told_block set from in
    let tick : c.args.machine.now.tick ≡ t + 1 = ap (λ (m : MachineState). m.tick) stands ∙ tick_is set (t + 1) in
    let one : 1 ≡ c.args.machine.now.tick - t = omega (arith, tick) in
    let text : f t ≡ flat_map f (range_with_len t (c.args.machine.now.tick - t)) = sym (append-nil (f t)) ∙ ap (λ (n : ℕ). flat_map f (range_with_len t n)) one in
    c.add_busy.ensures.text set from t is goes ∙ ap (λ (l : List ℕ). c.args.page.now ++ l) text
