-- What a profile keeps of the needs of a task's jobs, and how a record changes it.
use Rattle.std.specs.Prelude.{ℕ, ◌+◌, ◌-◌, ◌*◌, ◌/◌, ◌^◌, ◌≤◌, All, List, replicate, slice_index, slice_set}
use Rattle.rt_profile.specs.Brackets.{digits_beyond}

-- ---- the brackets by number, from 0 on in rising order

-- as many as reach above 2^40
abbrev pub bracket_count : ℕ
bracket_count = 608

-- the number of the bracket of v: 16 brackets for each number of digits above five
abbrev pub bracket_number : ℕ → ℕ
bracket_number v = 16 * digits_beyond v + v / 2 ^ digits_beyond v

-- how many digits the numbers of bracket b have beyond five
abbrev pub beyond_in : ℕ → ℕ
beyond_in b = b / 16 - 1

-- its first and its last number
abbrev pub number_from : ℕ → ℕ
number_from b = (b - 16 * beyond_in b) * 2 ^ beyond_in b

abbrev pub number_to : ℕ → ℕ
number_to b = number_from b + (2 ^ beyond_in b - 1)

-- ---- counts

-- the ticks of the open job, and how many finished jobs have a need in each bracket
pub record NeedState : Type 0 where
  pub current : ℕ
  pub counts : List ℕ

abbrev pub no_needs : NeedState
no_needs = record { current = 0; counts = replicate bracket_count 0 }

-- one tick more
abbrev pub ticked : NeedState → NeedState
ticked n = record n { current = n.current + 1 }

-- one need more
abbrev pub with_need : ℕ → List ℕ → List ℕ
with_need v ns = slice_set ns (bracket_number v) (slice_index ns (bracket_number v) + 1)

-- the open job is finished
abbrev pub job_done : NeedState → NeedState
job_done n = record { current = 0; counts = with_need n.current n.counts }

-- no number is over t
pub record AreSoundNeeds (t : ℕ) (n : NeedState) : Type 0 where
  pub current : n.current ≤ t
  pub counts : All (λ k. k ≤ t) n.counts
