-- Which budgets a task may reserve beside the others.
use Rattle.std.specs.Prelude.{ℕ, max, ◌&&◌, nat_le, Bool, false, List, slice_get, slice_set, sum_by, Option, Some, None, unwrap_or}
use Rattle.rt_admit.specs.declared.reservation.Reserved.{Reserved}
use Rattle.rt_admit.specs.Weight.{weight}

-- the weight that a task holds: that of the greater of its present budget and the pending one
abbrev pub held_weight : ℕ → Reserved → ℕ
held_weight hyper task = weight hyper (max task.budget (unwrap_or task.pending task.budget)) task.period

-- the weights that all tasks hold together
abbrev pub total_held : ℕ → List Reserved → ℕ
total_held hyper tasks = sum_by (held_weight hyper) tasks

-- with the budget q pending, in place of an earlier one
abbrev pub asking : ℕ → Reserved → Reserved
asking q task = record task { pending = Some q }

abbrev pub is_granted_to : ℕ → List Reserved → ℕ → ℕ → Option Reserved → Bool
is_granted_to hyper tasks i q (Some task) = nat_le 1 q && (nat_le q task.period && nat_le (total_held hyper (slice_set tasks i (asking q task))) hyper)
is_granted_to hyper tasks i q None = false

-- Task i may reserve the budget q: it is 1 to the period, and with q pending for the task the weights that all tasks hold sum to
-- at most the hyperperiod.
abbrev pub is_granted : ℕ → List Reserved → ℕ → ℕ → Bool
is_granted hyper tasks i q = is_granted_to hyper tasks i q (slice_get tasks i)
