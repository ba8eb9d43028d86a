-- A program that runs alone: from its image, for so many attempts, and with the answers that its calls are given. No tick, no server,
-- no other task and no history enters `alone`.
use Rattle.std.specs.Prelude.{ℕ, zero, suc, Bool, true, false, if◌then◌else◌, List, [], ◌∷◌, ◌++◌, drop, length}
use Rattle.rt_exec.specs.Attempt.{attempt}
use Rattle.rt_exec.specs.declared.outcome.Call.TheVariants as calls
use Rattle.rt_exec.specs.declared.outcome.Outcome.{Outcome}
use Rattle.rt_exec.specs.declared.outcome.Outcome.TheVariants as outcomes
use Rattle.rt_image.specs.SystemFile.{SetTask, TaskSet}
use Rattle.rt_history.specs.declared.record.AttemptOutcome.{AttemptOutcome}
use Rattle.rt_history.specs.declared.record.AttemptOutcome.TheVariants.{Now, Reserve, ReserveRefused}
use Rattle.rt_history.specs.Program.{Program, Origin, loaded, origin}
use Rattle.rt_history.specs.Calls.{attempt_at}
use Rattle.rt_history.specs.OwnPart.{own}
use Rattle.rt_history.specs.Legal.{legal}

-- what a call is told that its program alone doesn't determine: a `now` the tick that it gives, a `reserve` whether it is accepted
pub data Answer : Type 0 where
  Tick : ℕ → Answer
  Accepted : Bool → Answer

-- whether an attempt is one of these two calls
abbrev pub is_answered : Outcome → Bool
is_answered (outcomes.Call calls.Now) = true
is_answered (outcomes.Call calls.Reserve) = true
is_answered _ = false

-- whether the next attempt asks for an answer
abbrev pub asks : Program → Bool
asks p = is_answered (attempt p.split p.state).outcome

-- what the first of these answers tells a `now`, and what a `reserve`: 0 and a refusal where it is none of theirs
abbrev pub first_tick : List Answer → ℕ
first_tick (Tick u ∷ answers) = u
first_tick _ = 0

abbrev pub is_accepted : List Answer → Bool
is_accepted (Accepted b ∷ answers) = b
is_accepted _ = false

-- the program after one attempt: where it asks it is told the first of these answers, else it reads none of them
abbrev pub attempted : List Answer → Program → Program
attempted answers p = (attempt_at (first_tick answers) (λ q. is_accepted answers) p).program

-- the answers that it leaves: an attempt that asks takes the first, any other takes none
abbrev pub answers_left : List Answer → Program → List Answer
answers_left answers p = if asks p then drop 1 answers else answers

-- the program after k attempts
abbrev pub attempts : ℕ → List Answer → Program → Program
attempts zero answers p = p
attempts (suc k) answers p = attempts k (answers_left answers p) (attempted answers p)

-- the program of this image after k attempts with these answers
abbrev pub alone : Origin → ℕ → List Answer → Program
alone o k answers = attempts k answers (loaded o)

-- ---- what a history gives it: its number of attempts, its answers

-- the answers that these records tell, by their outcomes
abbrev pub answer_told : AttemptOutcome → List Answer
answer_told (Now u) = Tick u ∷ []
answer_told (Reserve x) = Accepted true ∷ []
answer_told ReserveRefused = Accepted false ∷ []
answer_told _ = []

abbrev pub answers_told : List (ℕ × AttemptOutcome) → List Answer
answers_told [] = []
answers_told (e ∷ es) = answer_told e.1 ++ answers_told es

-- the program of task i, which asks for s, alone: for as many attempts as it has records in the legal history of t ticks, and with
-- the answers that these tell
abbrev pub alone_in : TaskSet → ℕ → ℕ → SetTask → Program
alone_in set t i s = alone (origin s) (length (own i (legal set t))) (answers_told (own i (legal set t)))
