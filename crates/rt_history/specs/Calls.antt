-- What an attempt at tick u does to a program, calls too, and how it comes out, where some budgets are granted to a reserve.
use Rattle.std.specs.Prelude.{ℕ, ◌+◌, ◌*◌, ◌/◌, ◌%◌, ◌^◌, nat_lt, if◌then◌else◌, Bool, true, false, ◌||◌, List, ◌++◌, length, Option, Some, None, is_some}
use Rattle.std.specs.Option.{option_and_then}
use Rattle.rt_exec.specs.mem.Span.{span}
use Rattle.rt_exec.specs.State.{register, with_register}
use Rattle.rt_exec.specs.Attempt.{attempt}
use Rattle.rt_exec.specs.declared.outcome.Call.{Call}
use Rattle.rt_exec.specs.declared.outcome.Call.TheVariants as calls
use Rattle.rt_exec.specs.declared.outcome.Outcome.{Outcome}
use Rattle.rt_exec.specs.declared.outcome.Outcome.TheVariants as outcomes
use Rattle.rt_history.specs.declared.record.AttemptOutcome.{AttemptOutcome}
use Rattle.rt_history.specs.declared.record.AttemptOutcome.TheVariants.{Next, End, Write, WriteRefused, Sleep, Yield, Now, Reserve, ReserveRefused, Fault}
use Rattle.rt_history.specs.Program.{Program}

-- the arguments of a call: a0 is x10, a1 is x11
abbrev pub a0 : Program → ℕ
a0 p = register p.state.x 10

abbrev pub a1 : Program → ℕ
a1 p = register p.state.x 11

-- a register is set
abbrev pub with : ℕ → ℕ → Program → Program
with r value p = record p { state = record p.state { x = with_register p.state.x r value } }

-- the most bytes of one write, and those of a task's output
abbrev pub write_limit : ℕ
write_limit = 256

abbrev pub output_limit : ℕ
output_limit = 65536

-- the bytes, unless the output would pass its limit
abbrev pub with_room : List ℕ → List ℕ → Option (List ℕ)
with_room output bytes = if nat_lt output_limit (length output + length bytes) then None else Some bytes

-- the bytes of a write, a1 of them from the address a0 on; none where they are too many or aren't all in RAM
abbrev pub offered : Program → Option (List ℕ)
offered p = if nat_lt write_limit (a1 p) then None else span p.state.ram (a0 p) (a1 p)

-- those that it appends; none where it is refused
abbrev pub written : Program → Option (List ℕ)
written p = option_and_then (with_room p.output) (offered p)

-- how an attempt came out, and the program that it left
pub record Told : Type 0 where
  pub outcome : AttemptOutcome
  pub program : Program

abbrev pub told : AttemptOutcome → Program → Told
told outcome p = record { outcome = outcome; program = p }

abbrev pub writes : Option (List ℕ) → Program → Told
writes (Some bytes) p = told (Write (length bytes)) (with 10 (length bytes) (record p { output = p.output ++ bytes }))
writes None p = told WriteRefused (with 10 0xFFFFFFFF (record p { full = p.full || is_some (offered p) }))

-- the tick that a sleep names
abbrev pub wake_tick : Program → ℕ
wake_tick p = a0 p + a1 p * 2 ^ 32

-- a0 and a1 say the tick u
abbrev pub tells : ℕ → Program → Told
tells u p = told (Now u) (with 11 (u / 2 ^ 32) (with 10 (u % 2 ^ 32) p))

-- a reserve of the budget a0, which is granted or not
abbrev pub reserves : Bool → Program → Told
reserves true p = told (Reserve (a0 p)) (with 10 0 p)
reserves false p = told ReserveRefused (with 10 0xFFFFFFFF p)

-- a call at tick u, once pc is at the next instruction
abbrev pub carried : ℕ → (ℕ → Bool) → Call → Program → Told
carried u granted calls.End p = told End p
carried u granted calls.Write p = writes (written p) p
carried u granted calls.SleepUntil p = told (Sleep (wake_tick p)) p
carried u granted calls.Yield p = told Yield p
carried u granted calls.Now p = tells u p
carried u granted calls.Reserve p = reserves (granted (a0 p)) p

abbrev pub told_at : ℕ → (ℕ → Bool) → Outcome → Program → Told
told_at u granted outcomes.Next p = told Next p
told_at u granted (outcomes.Call call) p = carried u granted call p
told_at u granted (outcomes.Fault fault) p = told (Fault fault) p

-- the attempt of a program at tick u, where these budgets are granted
unfoldable pub attempt_at : ℕ → (ℕ → Bool) → Program → Told
attempt_at u granted p = told_at u granted (attempt p.split p.state).outcome (record p { state = (attempt p.split p.state).state })
