-- Supply: the time that a server which woke afresh gives a task that goes on competing (Abeni and Buttazzo 1998).
use Rattle.std.specs.Prelude.{◌≡◌, ℕ, ◌+◌, ◌*◌, ◌≤◌, nat_le, nat_lt, Bool, true, false, ◌&&◌, List, filter, length, All}
use Rattle.rt_server.specs.Account.{coming}
use Rattle.rt_server.specs.Arrival.{wakes_fresh}
use Rattle.rt_image.specs.SystemFile.{SetTask, TaskSet}
use Rattle.rt_history.specs.declared.mode.Mode.TheVariants.{Asleep}
use Rattle.rt_history.specs.declared.record.AttemptOutcome.{AttemptOutcome}
use Rattle.rt_history.specs.declared.record.AttemptOutcome.TheVariants.{End, Sleep, Yield, Fault}
use Rattle.rt_history.specs.Serving.{Serving, first_serving}
use Rattle.rt_history.specs.OwnPart.{own, serving_after}
use Rattle.rt_history.specs.Legal.{legal}

-- how task i, which asks for s, stands after its records of the ticks below r, before the wakes of tick r
abbrev pub serving_before : TaskSet → ℕ → SetTask → ℕ → Serving
serving_before set i s r = serving_after (first_serving s) (own i (legal set r))

-- task i wakes at tick r, and the wake is a fresh arrival
pub record WakesFresh (set : TaskSet) (i : ℕ) (s : SetTask) (r : ℕ) : Type 0 where
  pub asleep : (serving_before set i s r).mode ≡ Asleep r
  pub fresh : wakes_fresh r (serving_before set i s r).account ≡ true

-- the records of task i at the ticks from a to b - 1, in the legal history of t ticks
abbrev pub records_at : TaskSet → ℕ → ℕ → ℕ → ℕ → List (ℕ × AttemptOutcome)
records_at set t i a b = filter (λ e. nat_le a e.0 && nat_lt e.0 b) (own i (legal set t))

-- whether a record at its tick leaves the task its budget and competing: it is no yield, no end, no fault, and no sleep until a tick to come
abbrev pub goes_on : ℕ × AttemptOutcome → Bool
goes_on (u, Yield) = false
goes_on (u, End) = false
goes_on (u, Fault fault) = false
goes_on (u, Sleep w) = nat_le w u
goes_on (u, _) = true

-- task i competes from its fresh wake at r on for k periods, which the history of t ticks holds
pub record CompetesFor (k : ℕ) (set : TaskSet) (t i : ℕ) (s : SetTask) (r : ℕ) : Type 0 where
  pub wakes : WakesFresh set i s r
  pub within : r + k * s.period ≤ t
  pub unbroken : All (λ e. goes_on e ≡ true) (records_at set t i r (r + k * s.period))

-- the budget that a fresh wake of task i at tick r takes
abbrev pub budget_from : TaskSet → ℕ → SetTask → ℕ → ℕ
budget_from set i s r = coming (serving_before set i s r).account

-- in these k periods it has the budget that the wake took k times
abbrev pub IsSupplied : ℕ → TaskSet → ℕ → ℕ → SetTask → ℕ → Type 0
IsSupplied k set t i s r = k * budget_from set i s r ≤ length (records_at set t i r (r + k * s.period))
