-- The first faulty line of a set file, in the words of its lines.
use Rattle.std.specs.Prelude.{◌≡◌, ◌≢◌, ℕ, ◌+◌, ◌^◌, ◌<◌, ◌⊎◌, List, [], ◌∷◌, ◌++◌, length, filter, Option, Some, None, true}
use Rattle.rt_image.specs.SystemFile.{task_limit}
use Rattle.rt_set.specs.declared.fault.SetFault.{SetFault}
use Rattle.rt_set.specs.declared.fault.SetFault.TheVariants.{Memory, Line}
use Rattle.rt_set.specs.SetFile.{TaskEntry, SetEntries, set_lines, says_something, hyper_line, task_line, IsTaskEntry, AreSetLines}

-- what lines say together: nothing yet, or a set
abbrev pub Say : List (List ℕ) → Option SetEntries → Type 0
Say lines None = filter says_something lines ≡ []
Say lines (Some s) = AreSetLines lines s

-- a line that may not follow: at first all but a hyper line, then all but a task line, and all behind 256 of these
abbrev pub MayNotFollow : Option SetEntries → List ℕ → Type 0
MayNotFollow None line = (n : ℕ) → n < 2 ^ 32 → line ≢ hyper_line n
MayNotFollow (Some s) line = (t : TaskEntry) → IsTaskEntry t → length s.tasks < task_limit → line ≢ task_line t

-- line n says something that may not follow what the lines before it say
pub record IsFaultyLine (lines : List (List ℕ)) (n : ℕ) : Type 0 where
  pub front : List (List ℕ)
  pub line : List ℕ
  pub back : List (List ℕ)
  pub parts : lines ≡ front ++ line ∷ back
  pub number : n ≡ length front + 1
  pub before : Option SetEntries
  pub said : Say front before
  pub says : says_something line ≡ true
  pub refused : MayNotFollow before line

-- the lines end with nothing said: n is the number after the last
pub record HasNoHyperLine (lines : List (List ℕ)) (n : ℕ) : Type 0 where
  pub said : Say lines None
  pub number : n ≡ length lines + 1

abbrev pub IsFirstFault : List ℕ → ℕ → Type 0
IsFirstFault text n = IsFaultyLine (set_lines text) n ⊎ HasNoHyperLine (set_lines text) n

-- a refusal names the first faulty line, or memory ran out
abbrev pub IsRefusal : SetFault → List ℕ → Type 0
IsRefusal Memory text = Unit {0}
IsRefusal (Line n) text = IsFirstFault text n
