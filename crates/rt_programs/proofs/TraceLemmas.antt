-- The window of ticks that a trace writes.
use Rattle.rt_programs.proofs.Common.{◌≡◌, ℕ, ◌+◌, ◌-◌, ◌^◌, min, Option, sym, ap, ◌∙◌, arith, tick_limit, TaskSet}
use Rattle.std.proofs.Common.{max, inl, inr}
use Rattle.std.proofs.lemmas.Bool.{cases_lt}
use Rattle.rt_effects.specs.TraceText.{trace_text}
use Rattle.rt_effects.proofs.WindowLemmas.{text-none}

-- it begins at tick `from`, or is empty behind the last tick
pub same-window : (set : TaskSet) (task : Option ℕ) (from n tick end : ℕ) → tick ≡ min from tick_limit → end ≡ max (min (min (from + n) (2 ^ 64 - 1)) tick_limit) tick
    → trace_text set tick (end - tick) task ≡ trace_text set from (min n (tick_limit - from)) task
same-window set task from n tick end at ends = elim (cases_lt tick_limit from) [
  | inl over ↦
      let none : end - tick ≡ 0 = omega (arith, at, ends, over) in
      let few : min n (tick_limit - from) ≡ 0 = omega (arith, over) in
      ap (λ (k : ℕ). trace_text set tick k task) none ∙ text-none set task tick
      ∙ sym (ap (λ (k : ℕ). trace_text set from k task) few ∙ text-none set task from)
  | inr within ↦
      let same : tick ≡ from = omega (arith, at, within) in
      let count : end - tick ≡ min n (tick_limit - from) = omega (arith, at, ends, within) in
      ap (λ (k : ℕ). trace_text set tick k task) count ∙ ap (λ (u : ℕ). trace_text set u (min n (tick_limit - from)) task) same
]
