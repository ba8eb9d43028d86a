-- A task's own records of a history with their pcs, and cut into its jobs (Liu and Layland 1973).
use Rattle.std.specs.Prelude.{ℕ, ◌==◌, if◌then◌else◌, List, [], ◌∷◌, ◌++◌}
use Rattle.rt_history.specs.declared.record.Attempt.{Attempt}
use Rattle.rt_history.specs.declared.record.Record.{Record}
use Rattle.rt_history.specs.declared.record.Record.TheVariants.{Idle, Busy}
use Rattle.rt_history.specs.Job.{ends_job}

-- the records of task i
abbrev pub attempts : ℕ → List Record → List Attempt
attempts i [] = []
attempts i (Idle ∷ records) = attempts i records
attempts i (Busy a ∷ records) = if a.task == i then a ∷ attempts i records else attempts i records

-- the records of the unfinished job, where it has one
abbrev pub unfinished : List Attempt → List (List Attempt)
unfinished [] = []
unfinished (a ∷ rs) = (a ∷ rs) ∷ []

-- the records of each job, of an own part that goes on after the records `piece` of the open one
abbrev pub pieces_after : List Attempt → List Attempt → List (List Attempt)
pieces_after piece [] = unfinished piece
pieces_after piece (a ∷ rs) =
    if ends_job a.outcome then (piece ++ a ∷ []) ∷ pieces_after [] rs
    else pieces_after (piece ++ a ∷ []) rs

-- cut after each sleep and each end; the last piece, where it isn't finished, is the open job's
abbrev pub pieces : List Attempt → List (List Attempt)
pieces rs = pieces_after [] rs
