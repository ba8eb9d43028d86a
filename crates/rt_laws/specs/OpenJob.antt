-- The job that a task has begun and not yet finished (Liu and Layland 1973).
use Rattle.std.specs.Prelude.{ℕ, Bool, if◌then◌else◌, List, [], ◌∷◌, ◌++◌, length}
use Rattle.std.specs.List.{list_all}
use Rattle.rt_image.specs.SystemFile.{SetTask}
use Rattle.rt_history.specs.declared.record.AttemptOutcome.{AttemptOutcome}
use Rattle.rt_history.specs.Job.{Release, release_of, budget_of, is_fresh, is_calm, ends_job}

-- the release of the open job, how many records it has, whether its release wakes a sleeping task afresh, the budget from that
-- wake on, and whether none of its records is a yield
pub record OpenJob : Type 0 where
  pub release : Release
  pub ticks : ℕ
  pub fresh : Bool
  pub budget : ℕ
  pub calm : Bool

-- the open job whose records are `piece`, after the records of the jobs before
abbrev pub open_of : SetTask → List (ℕ × AttemptOutcome) → List (ℕ × AttemptOutcome) → OpenJob
open_of s before piece = record {
  release = release_of s before;
  ticks = length piece;
  fresh = is_fresh s (release_of s before) before;
  budget = budget_of s (release_of s before) before;
  calm = list_all is_calm piece;
}

-- the open job of an own part that goes on after the records `before` of finished jobs and `piece` of the open one
abbrev pub open_after : SetTask → List (ℕ × AttemptOutcome) → List (ℕ × AttemptOutcome) → List (ℕ × AttemptOutcome) → OpenJob
open_after s before piece [] = open_of s before piece
open_after s before piece (e ∷ es) =
    if ends_job e.1 then open_after s (before ++ (piece ++ e ∷ [])) [] es
    else open_after s before (piece ++ e ∷ []) es

-- the open job after a task's own part: what stands behind its last sleep or end
abbrev pub open_job : SetTask → List (ℕ × AttemptOutcome) → OpenJob
open_job s own = open_after s [] [] own
