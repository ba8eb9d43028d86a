-- A tick of a task, and of a machine, as the attempt that it is. A reserve waits for its answer.
use Rattle.std.specs.Prelude.{◌≡◌, ℕ, ◌+◌, Bool, if◌then◌else◌, slice_get, slice_set, Option, Some}
use Rattle.rt_exec.specs.Attempt.{attempt}
use Rattle.rt_exec.specs.declared.outcome.Call.TheVariants as calls
use Rattle.rt_exec.specs.declared.outcome.Outcome.TheVariants as ways
use Rattle.rt_server.specs.declared.server.Spent.TheVariants.{Same, Postponed}
use Rattle.rt_history.specs.declared.mode.Mode.{Mode}
use Rattle.rt_history.specs.declared.mode.Mode.TheVariants.{Active}
use Rattle.rt_history.specs.declared.record.Attempt.{Attempt}
use Rattle.rt_history.specs.declared.record.AttemptOutcome.TheVariants as outcomes
use Rattle.rt_history.specs.declared.record.Record.TheVariants as records
use Rattle.rt_history.specs.Calls.{a0}
use Rattle.rt_history.specs.OwnPart.{TaskState}
use Rattle.rt_history.specs.MachineState.{MachineState}
use Rattle.rt_history.specs.Legal.{attempt_of, record_at}
use Rattle.rt_history.specs.Named.{named_task}
use Rattle.rt_history.specs.Working.Bounded.{IsBounded}
use Rattle.rt_history.specs.Working.Step.{ran, ran_at}
use Rattle.rt_core.specs.declared.task.Ran.{Ran}
use Rattle.rt_core.specs.declared.task.Ran.TheVariants.{Next, Other, Asks}

-- task i carried out an instruction that is no call
abbrev pub went_on : ℕ → ℕ → ℕ → Attempt
went_on i pc word = record { task = i; pc = pc; word = Some word; outcome = outcomes.Next }

-- the reserve of task i is answered
abbrev pub answered : ℕ → ℕ → Option ℕ → ℕ → Bool → Attempt
answered i pc word budget granted = record {
  task = i;
  pc = pc;
  word = word;
  outcome = if granted then outcomes.Reserve budget else outcomes.ReserveRefused;
}

-- ---- of a task

-- the attempt of task i at tick t, whatever is granted to a reserve
abbrev pub IsAttempt : ℕ → ℕ → Attempt → TaskState → TaskState → Type 0
IsAttempt t i a old new = (granted : ℕ → Bool) → (a ≡ attempt_of t i granted old.program) × (new ≡ ran t granted old)

-- a reserve of this budget is attempted; it has no answer yet, and isn't paid for
pub record IsAsked (pc : ℕ) (word : Option ℕ) (budget : ℕ) (old new : TaskState) : Type 0 where
  pub pc_is : pc ≡ old.program.state.pc
  pub word_is : word ≡ (attempt old.program.split old.program.state).word
  pub reserves : (attempt old.program.split old.program.state).outcome ≡ ways.Call calls.Reserve
  pub state : new ≡ record old { program = record old.program { state = (attempt old.program.split old.program.state).state } }
  pub budget_is : budget ≡ a0 new.program

abbrev pub Runs : ℕ → ℕ → Ran → TaskState → TaskState → Type 0
Runs t i (Next pc word spent) old new = IsAttempt t i (went_on i pc word) old new
Runs t i (Other a) old new = IsAttempt t i a old new
Runs t i (Asks pc budget word) old new = IsAsked pc word budget old new

-- an instruction without a call and a reserve leave a task active, and its deadline where it was unless it was postponed
abbrev pub Leaves : Ran → Mode → ℕ → ℕ → Type 0
Leaves (Next pc word Same) mode before after = (mode ≡ Active) × (after ≡ before)
Leaves (Next pc word Postponed) mode before after = mode ≡ Active
Leaves (Other a) mode before after = Unit {0}
Leaves (Asks pc budget word) mode before after = (mode ≡ Active) × (after ≡ before)

-- ---- of a machine

-- the record of a tick, the wakes of the next being still to come
abbrev pub IsBusyTick : Attempt → MachineState → MachineState → Type 0
IsBusyTick a old new = (records.Busy a ≡ record_at old) × (new ≡ record old { tick = old.tick + 1; tasks = ran_at old })

-- the named task i asks for this budget
pub record IsAsking (i pc : ℕ) (word : Option ℕ) (budget : ℕ) (old new : MachineState) : Type 0 where
  pub task : TaskState
  pub named : named_task old.tasks ≡ Some (i, task)
  pub there : slice_get old.tasks i ≡ Some task
  pub left : TaskState
  pub bounded : IsBounded old.tick task.serving.account
  pub asked : IsAsked pc word budget task left
  pub state : new ≡ record old { tick = old.tick + 1; tasks = slice_set old.tasks i left }

abbrev pub Attempts : ℕ → Ran → MachineState → MachineState → Type 0
Attempts i (Next pc word spent) old new = IsBusyTick (went_on i pc word) old new
Attempts i (Other a) old new = IsBusyTick a old new
Attempts i (Asks pc budget word) old new = IsAsking i pc word budget old new
