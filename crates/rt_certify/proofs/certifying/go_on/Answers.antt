use Rattle.rt_certify.proofs.Common.{◌≡◌, ℕ, ◌^◌, ◌<◌, ◌≤◌, Some, inl, inr, ap, ◌∙◌, arith, MachineState, origin}
use Rattle.std.proofs.Common.{slice_get}
use Rattle.std.proofs.lemmas.Bool.{cases_lt}
use Rattle.rt_history.specs.Legal.{legal}
use Rattle.rt_history.specs.OwnPart.{task_state}
use Rattle.rt_history.proofs.Steps.{state-of}
use Rattle.rt_certify.proofs.Answered.{on_ok}
use Rattle.rt_certify.proofs.Along.{attempts_at, first-there}
use Rattle.rt_certify.proofs.certifying.go_on.Goals as goal

pub returns-then-left-eq0-clause-stops : goal.returns-then-left-eq0-clause-stops
returns-then-left-eq0-clause-stops g c = λ set s stands only st.
    let t = c.args.machine.now.tick in
    let x = task_state t (legal set t) 0 s in
    let there : slice_get c.args.machine.now.tasks 0 ≡ Some x = ap (λ (m : MachineState). slice_get m.tasks 0) stands ∙ state-of set t 0 s (first-there set s only) in
    (attempts_at set t, c.over_budget.ensures (origin s) s.start (attempts_at set t) x.program st (c.pc_of.ensures x there))

-- ticks from a to b, and from b to n: where b isn't the last, n is behind it
onward : (a b n last : ℕ) → a < last → a ≤ b → b ≤ n → (b < last → b < n) → a < n
onward a b n last before first second step =
    elim (cases_lt b last) [
      | inl low ↦ let more = step low in omega (arith, more, first)
      | inr high ↦ omega (arith, before, high, second)
    ]

pub returns-then-left-gt0-clause-onward : goal.returns-then-left-gt0-clause-onward
returns-then-left-gt0-clause-onward g c =
    on_ok c.tell_entry.result _
    (onward c.args.machine.now.tick c.tell_plain.new.machine.tick c.tell_entry.new.machine.tick (2 ^ 40) c.requires.before c.tell_plain.ensures.later
    c.tell_entry.ensures.later c.tell_entry.ensures.onward)
