-- The number of a task, if it is the one that is wanted.
use Rattle.rt_history.specs.declared.record.Record.{Record}
use Rattle.rt_history.specs.declared.record.Record.TheVariants.{Idle, Busy}
use Rattle.std.specs.Prelude.{ℕ, ◌==◌, if◌then◌else◌, Option, Some, None}

abbrev pub if_is : ℕ → ℕ → Option ℕ
if_is task wanted = if task == wanted then Some task else None

-- the task of a record, if it is this one
abbrev pub if_ran : Record → ℕ → Option ℕ
if_ran Idle wanted = None
if_ran (Busy attempt) wanted = if_is attempt.task wanted
