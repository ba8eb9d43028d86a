-- A task's own part of a history, and its state after it.
use Rattle.std.specs.Prelude.{ℕ, ◌+◌, ◌==◌, if◌then◌else◌, Bool, true, false, List, [], ◌∷◌}
use Rattle.rt_image.specs.SystemFile.{SetTask}
use Rattle.rt_history.specs.declared.record.AttemptOutcome.{AttemptOutcome}
use Rattle.rt_history.specs.declared.record.AttemptOutcome.TheVariants.{Reserve}
use Rattle.rt_history.specs.declared.record.Record.{Record}
use Rattle.rt_history.specs.declared.record.Record.TheVariants.{Idle, Busy}
use Rattle.rt_history.specs.Program.{Program, first_program}
use Rattle.rt_history.specs.Calls.{attempt_at}
use Rattle.rt_history.specs.Serving.{Serving, first_serving, due, after}

-- the ticks and the outcomes of task i's records, of which the first is record u
abbrev pub own_from : ℕ → ℕ → List Record → List (ℕ × AttemptOutcome)
own_from u i [] = []
own_from u i (Idle ∷ records) = own_from (u + 1) i records
own_from u i (Busy a ∷ records) = if a.task == i then (u, a.outcome) ∷ own_from (u + 1) i records else own_from (u + 1) i records

abbrev pub own : ℕ → List Record → List (ℕ × AttemptOutcome)
own i history = own_from 0 i history

-- which budgets a reserve was granted, by its own record
abbrev pub granted_by : AttemptOutcome → ℕ → Bool
granted_by (Reserve x) q = true
granted_by _ q = false

-- the program after attempts at these ticks
abbrev pub program_after : Program → List (ℕ × AttemptOutcome) → Program
program_after p [] = p
program_after p (e ∷ es) = program_after (attempt_at e.0 (granted_by e.1) p).program es

-- the server and the mode after these records, with no wake applied since the last
abbrev pub serving_after : Serving → List (ℕ × AttemptOutcome) → Serving
serving_after s [] = s
serving_after s (e ∷ es) = serving_after (after e.0 e.1 (due e.0 s).account) es

-- how a task stands
pub record TaskState : Type 0 where
  pub program : Program
  pub serving : Serving

-- how task i of a set stands after a history of t records, from its own records alone
abbrev pub task_state : ℕ → List Record → ℕ → SetTask → TaskState
task_state t history i s = record {
  program = program_after (first_program s) (own i history);
  serving = due t (serving_after (first_serving s) (own i history));
}
