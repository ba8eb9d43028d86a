-- The open jobs go on with the legal history.
use Rattle.rt_walk.proofs.Common.{◌≡◌, ℕ, ◌+◌, ◌-◌, ◌<◌, ◌≤◌, Bool, true, false, true≢false, cond, List, [], ◌∷◌, ◌++◌, Option, Some, None, refl, sym, ap, ◌∙◌, arith, min, tick_limit, TaskSet, Entry, state_at, PositionState, IsReached, IsAt}
use Rattle.std.specs.Prelude.{zero, suc, ◌==◌, ◌^◌, nat_le, length, map, take, drop, replicate, slice_get, slice_set}
use Rattle.std.specs.Option.{option_map, option_map_or}
use Rattle.std.proofs.lemmas.Bool.{leb-true}
use Rattle.std.proofs.lemmas.Bool.Decides.{nat_tests}
use Rattle.std.proofs.lemmas.List.{drop-append-le, drop_all}
use Rattle.rt_image.specs.SystemFile.{SetTask}
use Rattle.rt_history.specs.declared.record.Attempt.{Attempt}
use Rattle.rt_history.specs.declared.record.AttemptOutcome.{AttemptOutcome}
use Rattle.rt_history.specs.declared.record.AttemptOutcome.TheVariants.{End, Sleep}
use Rattle.rt_history.specs.declared.record.Record.{Record}
use Rattle.rt_history.specs.declared.record.Record.TheVariants as records
use Rattle.rt_history.specs.declared.record.Entry.TheVariants.{Busy, Idle}
use Rattle.rt_history.specs.OwnPart.{own, own_from}
use Rattle.rt_history.specs.Job.{ends_job, job_of, jobs, jobs_after, release_of}
use Rattle.rt_history.specs.Legal.{legal, record_at}
use Rattle.rt_history.specs.Entries.{ticks_of, records_of}
use Rattle.rt_history.specs.MachineState.{MachineState}
use Rattle.rt_history.specs.Working.Step.{first_task, woken_task}
use Rattle.rt_history.proofs.JobLaws.{release_after-append, release-kept}
use Rattle.rt_history.proofs.OwnPartLaws.{own-own, own-other, own-idle}
use Rattle.rt_history.proofs.Steps.{length-legal, legal-first, legal_next, state_begins, tick_is}
use Rattle.rt_core.specs.Advance.{Follows}
use Rattle.rt_walk.specs.declared.jobs.OpenJob.{OpenJob}
use Rattle.rt_walk.specs.Jobs.{open_job, open_from, jobs_at, Stand, job_by, opened_at, opened_by, jobs_by, jobs_since, first_job, first_jobs}
use Rattle.rt_walk.specs.Position.{stand_of}
use Rattle.rt_walk.specs.Working.Opened.{opened_in}

-- ---- one record more of a task

jobs-more : (s : SetTask) (before piece es : List (ℕ × AttemptOutcome)) (e : ℕ × AttemptOutcome)
    → length (jobs_after s before piece (es ++ e ∷ [])) ≡ length (jobs_after s before piece es) + cond (ends_job e.1) 1 0
jobs-more s before piece [] e =
    elim (ends_job e.1) as (λ b. length (cond b (job_of s before (piece ++ e ∷ []) e.0 ∷ []) []) ≡ 0 + cond b 1 0) [ true ↦ refl | false ↦ refl ]
jobs-more s before piece (f ∷ es) e =
    let done = before ++ (piece ++ f ∷ []) in
    let ended = jobs-more s done [] es e in
    let on = jobs-more s before (piece ++ f ∷ []) es e in
    let job = job_of s before (piece ++ f ∷ []) f.0 in
    elim (ends_job f.1) as (λ b. length (cond b (job ∷ jobs_after s done [] (es ++ e ∷ [])) (jobs_after s before (piece ++ f ∷ []) (es ++ e ∷ [])))
    ≡ length (cond b (job ∷ jobs_after s done [] es) (jobs_after s before (piece ++ f ∷ []) es)) + cond (ends_job e.1) 1 0) [
      | true ↦ omega (arith, ended)
      | false ↦ on
    ]

jobs-few : (s : SetTask) (before piece es : List (ℕ × AttemptOutcome)) → length (jobs_after s before piece es) ≤ length es
jobs-few s before piece [] = omega arith
jobs-few s before piece (f ∷ es) =
    let done = before ++ (piece ++ f ∷ []) in
    let ended = jobs-few s done [] es in
    let on = jobs-few s before (piece ++ f ∷ []) es in
    elim (ends_job f.1) as (λ b. length (cond b (job_of s before (piece ++ f ∷ []) f.0 ∷ jobs_after s done [] es) (jobs_after s before (piece ++ f ∷ []) es)) ≤ suc (length es)) [
      | true ↦ omega (arith, ended)
      | false ↦ omega (arith, on)
    ]

own-few : (u i : ℕ) (h : List Record) → length (own_from u i h) ≤ length h
own-few u i [] = omega arith
own-few u i (records.Idle ∷ h) = let later = own-few (u + 1) i h in omega (arith, later)
own-few u i (records.Busy a ∷ h) =
    let later = own-few (u + 1) i h in
    elim (a.task == i) as (λ b. length (cond b ((u, a.outcome) ∷ own_from (u + 1) i h) (own_from (u + 1) i h)) ≤ suc (length h)) [
      | true ↦ omega (arith, later)
      | false ↦ omega (arith, later)
    ]

both : (n n' r r' : ℕ) → n ≡ n' → r ≡ r' → ◌≡◌ {A = OpenJob} (record { number = n; release = r }) (record { number = n'; release = r' })
both n n' r r' number release = ap (λ k. record { number = k; release = r }) number ∙ ap (λ k. record { number = n'; release = k }) release

kept-job : (s : SetTask) (es : List (ℕ × AttemptOutcome)) (u : ℕ) (o : AttemptOutcome) → ends_job o ≡ false → open_job s (es ++ (u, o) ∷ []) ≡ open_job s es
kept-job s es u o on =
    let number : length (jobs s (es ++ (u, o) ∷ [])) ≡ length (jobs s es) =
    jobs-more s [] [] es (u, o) ∙ ap (λ (b : Bool). length (jobs s es) + cond b 1 0) on ∙ omega arith in
    both _ _ _ _ number (ap (λ r. r.tick) (release_after-append _ es ((u, o) ∷ []) ∙ release-kept (release_of s es) u o on))

one-more : (n : ℕ) → n < 2 ^ 64 - 1 → n + 1 ≡ min (n + 1) (2 ^ 64 - 1)
one-more n few = omega (arith, few)

next-job : (s : SetTask) (es : List (ℕ × AttemptOutcome)) (u : ℕ) (o : AttemptOutcome) → length (jobs s es) < 2 ^ 64 - 1 → ends_job o ≡ true
    → open_job s (es ++ (u, o) ∷ []) ≡ job_by (open_job s es) o
next-job s es u (Sleep w) few ends =
    both _ _ _ _ (jobs-more s [] [] es (u, Sleep w) ∙ one-more (length (jobs s es)) few) (ap (λ r. r.tick) (release_after-append _ es ((u, Sleep w) ∷ [])))
next-job s es u End few ends =
    both _ _ _ _ (jobs-more s [] [] es (u, End) ∙ one-more (length (jobs s es)) few) (ap (λ r. r.tick) (release_after-append _ es ((u, End) ∷ [])))
next-job s es u o few ends = absurd (true≢false (sym ends))

-- ---- of all tasks

from-same : (g h : List Record) → ((i : ℕ) → own i g ≡ own i h) → (i : ℕ) (ss : List SetTask) → open_from g i ss ≡ open_from h i ss
from-same g h same i [] = refl
from-same g h same i (s ∷ ss) =
    ap (λ es. open_job s es ∷ open_from g (i + 1) ss) (same i) ∙ ap (λ js. open_job s (own i h) ∷ js) (from-same g h same (i + 1) ss)

module _ (t : ℕ) (h : List Record) (a : Attempt) (len : length h ≡ t) where
  abbrev after : List Record
  after = h ++ records.Busy a ∷ []

  -- a record that ends no job
  from-kept : ends_job a.outcome ≡ false → (i : ℕ) (ss : List SetTask) → open_from after i ss ≡ open_from h i ss
  from-kept on i [] = refl
  from-kept on i (s ∷ ss) =
      let one : open_job s (own i after) ≡ open_job s (own i h) = elim (a.task == i) as (λ b. (a.task == i) ≡ b → open_job s (own i after) ≡ open_job s (own i h)) [
        | true ↦ λ is. ap (open_job s) (own-own t i h a len is) ∙ kept-job s (own i h) t a.outcome on
        | false ↦ λ is. ap (open_job s) (own-other t i h a len is)
      ] refl in
      ap (λ j. j ∷ open_from after (i + 1) ss) one ∙ ap (λ js. open_job s (own i h) ∷ js) (from-kept on (i + 1) ss)

  from-behind : (i : ℕ) (ss : List SetTask) → a.task < i → open_from after i ss ≡ open_from h i ss
  from-behind i [] below = refl
  from-behind i (s ∷ ss) below =
      let differs : (a.task == i) ≡ false = grind (arith, nat_tests) in
      ap (λ es. open_job s es ∷ open_from after (i + 1) ss) (own-other t i h a len differs) ∙ ap (λ js. open_job s (own i h) ∷ js) (from-behind (i + 1) ss (omega (arith, below)))

  -- one that ends a job of the task that is k places behind the first
  from-ended : t ≤ tick_limit → ends_job a.outcome ≡ true → (i k : ℕ) (ss : List SetTask) → a.task ≡ i + k → open_from after i ss ≡ opened_at (open_from h i ss) k a.outcome
  from-ended limit ends i zero [] place = refl
  from-ended limit ends i (suc k) [] place = refl
  from-ended limit ends i zero (s ∷ ss) place =
      let hits : (a.task == i) ≡ true = grind (arith, nat_tests) in
      let few = jobs-few s [] [] (own i h) in
      let short = own-few 0 i h in
      let one : open_job s (own i after) ≡ job_by (open_job s (own i h)) a.outcome =
      ap (open_job s) (own-own t i h a len hits) ∙ next-job s (own i h) t a.outcome (omega (arith, few, short, len, limit)) ends in
      ap (λ j. j ∷ open_from after (i + 1) ss) one ∙ ap (λ js. job_by (open_job s (own i h)) a.outcome ∷ js) (from-behind (i + 1) ss (omega (arith, place)))
  from-ended limit ends i (suc k) (s ∷ ss) place =
      let differs : (a.task == i) ≡ false = grind (arith, nat_tests) in
      ap (λ es. open_job s es ∷ open_from after (i + 1) ss) (own-other t i h a len differs)
      ∙ ap (λ js. open_job s (own i h) ∷ js) (from-ended limit ends (i + 1) k ss (omega (arith, place)))
      ∙ pull (slice_get (open_from h (i + 1) ss) k)
    where
      pull : (o : Option OpenJob) → open_job s (own i h) ∷ option_map_or (λ job. slice_set (open_from h (i + 1) ss) k (job_by job a.outcome)) o (open_from h (i + 1) ss)
          ≡ option_map_or (λ job. open_job s (own i h) ∷ slice_set (open_from h (i + 1) ss) k (job_by job a.outcome)) o (open_job s (own i h) ∷ open_from h (i + 1) ss)
      pull None = refl
      pull (Some job) = refl

-- ---- along the legal history

by-outcome : (t : ℕ) (h : List Record) (a : Attempt) (ss : List SetTask) → length h ≡ t → t ≤ tick_limit
    → cond (ends_job a.outcome) (opened_at (open_from h 0 ss) a.task a.outcome) (open_from h 0 ss) ≡ open_from (h ++ records.Busy a ∷ []) 0 ss
by-outcome t h a ss len limit =
    elim (ends_job a.outcome) as (λ b. ends_job a.outcome ≡ b → cond b (opened_at (open_from h 0 ss) a.task a.outcome) (open_from h 0 ss) ≡ open_from (h ++ records.Busy a ∷ []) 0 ss) [
      | true ↦ λ is. sym (from-ended t h a len limit is 0 a.task ss (omega arith))
      | false ↦ λ is. sym (from-kept t h a len is 0 ss)
    ] refl

-- one record more of the legal history
next-at : (set : TaskSet) (t : ℕ) (r : Record) → t ≤ tick_limit → opened_by (open_from (legal set t) 0 set.tasks) r ≡ open_from (legal set t ++ r ∷ []) 0 set.tasks
next-at set t (records.Busy a) limit = by-outcome t (legal set t) a set.tasks (length-legal set t) limit
next-at set t records.Idle limit =
    sym (from-same (legal set t ++ records.Idle ∷ []) (legal set t) (λ i. own-idle t i 1 (legal set t) (length-legal set t)) 0 set.tasks)

-- ---- since a stand

jobs-append : (js : List OpenJob) (rs qs : List Record) → jobs_by js (rs ++ qs) ≡ jobs_by (jobs_by js rs) qs
jobs-append js [] qs = refl
jobs-append js (r ∷ rs) qs = jobs-append (opened_by js r) rs qs

jobs-idle : (js : List OpenJob) (n : ℕ) → jobs_by js (replicate n records.Idle) ≡ js
jobs-idle js zero = refl
jobs-idle js (suc n) = jobs-idle js n

by-entry : (js : List OpenJob) (entry : Entry) → jobs_by js (records_of entry) ≡ opened_in js entry
by-entry js (Busy t a) = refl
by-entry js (Idle t n) = jobs-idle js n

module _ (begin : Stand) (set : TaskSet) where
  since-more : (t : ℕ) (rs : List Record) → begin.machine.tick ≤ t
      → jobs_by begin.jobs (drop begin.machine.tick (legal set t ++ rs)) ≡ jobs_by (jobs_by begin.jobs (drop begin.machine.tick (legal set t))) rs
  since-more t rs later =
      ap (jobs_by begin.jobs) (drop-append-le begin.machine.tick (legal set t) rs (omega (arith, length-legal set t, later)))
      ∙ jobs-append begin.jobs (drop begin.machine.tick (legal set t)) rs

  since-on : (t : ℕ) (entry : Entry) (new : MachineState) → begin.machine.tick ≤ t → Follows set t entry new → opened_in (jobs_since begin set t) entry ≡ jobs_since begin set (t + ticks_of entry)
  unfolding jobs_since
  since-on t entry new later follows =
      sym (by-entry (jobs_by begin.jobs (drop begin.machine.tick (legal set t))) entry) ∙ sym (since-more t (records_of entry) later)
      ∙ ap (λ h. jobs_by begin.jobs (drop begin.machine.tick h)) (sym follows.history)

  since-here : jobs_since begin set begin.machine.tick ≡ begin.jobs
  unfolding jobs_since
  since-here = ap (jobs_by begin.jobs) (drop_all begin.machine.tick (legal set begin.machine.tick) (omega (arith, length-legal set begin.machine.tick)))

  since-next : (t : ℕ) → begin.machine.tick ≤ t → t ≤ tick_limit → jobs_since begin set t ≡ jobs_at set t → jobs_since begin set (t + 1) ≡ jobs_at set (t + 1)
  unfolding jobs_since jobs_at
  since-next t later limit same =
      ap (λ h. jobs_by begin.jobs (drop begin.machine.tick h)) (legal_next set t) ∙ since-more t (record_at (state_at set t) ∷ []) later
      ∙ ap (λ js. opened_by js (record_at (state_at set t))) same ∙ next-at set t (record_at (state_at set t)) limit ∙ ap (λ h. open_from h 0 set.tasks) (sym (legal_next set t))

  -- where the jobs are those of the legal history, so are they from then on
  since-at : (n : ℕ) → begin.machine.tick + n ≤ tick_limit → begin.jobs ≡ jobs_at set begin.machine.tick → jobs_since begin set (begin.machine.tick + n) ≡ jobs_at set (begin.machine.tick + n)
  since-at zero limit same = let end : begin.machine.tick + 0 ≡ begin.machine.tick = omega arith in
      ap (jobs_since begin set) end ∙ since-here ∙ same ∙ ap (jobs_at set) (sym end)
  since-at (suc n) limit same = let end : begin.machine.tick + suc n ≡ begin.machine.tick + n + 1 = omega arith in
      ap (jobs_since begin set) end ∙ since-next (begin.machine.tick + n) (omega arith) (omega (arith, limit)) (since-at n (omega (arith, limit)) same) ∙ ap (jobs_at set) (sym end)

  same-since : (t : ℕ) → begin.machine.tick ≤ t → t ≤ tick_limit → begin.jobs ≡ jobs_at set begin.machine.tick → jobs_since begin set t ≡ jobs_at set t
  same-since t later limit same = let at : begin.machine.tick + (t - begin.machine.tick) ≡ t = omega (arith, later) in
      ap (jobs_since begin set) (sym at) ∙ since-at (t - begin.machine.tick) (omega (arith, at, limit)) same ∙ ap (jobs_at set) at

-- ---- where a session begins

first-one : (s : SetTask) → first_job 0 (woken_task 0 (first_task s)) ≡ open_job s []
first-one s = by (nat_le s.start 0) refl
  where
    by : (b : Bool) → nat_le s.start 0 ≡ b → first_job 0 (woken_task 0 (first_task s)) ≡ open_job s []
    by true is = rw is (both _ _ _ _ refl (let none : s.start ≤ 0 = leb-true s.start 0 is in omega (arith, none)))
    by false is = rw is refl

first-all : (i : ℕ) (ss : List SetTask) → map (first_job 0) (map (woken_task 0) (map first_task ss)) ≡ open_from [] i ss
first-all i [] = refl
first-all i (s ∷ ss) = ap (λ j. j ∷ map (first_job 0) (map (woken_task 0) (map first_task ss))) (first-one s) ∙ ap (λ js. open_job s [] ∷ js) (first-all (i + 1) ss)

pub first-at : (set : TaskSet) → first_jobs (state_at set 0) ≡ jobs_at set 0
unfolding jobs_at
first-at set = ap first_jobs (state_begins set) ∙ first-all 0 set.tasks ∙ ap (λ h. open_from h 0 set.tasks) (sym (legal-first set))

-- a session that begins with them has the jobs of the legal history, on from wherever it stands
pub since-first : (set : TaskSet) (first now : PositionState) (t : ℕ) → first.machine ≡ state_at set 0 → first.jobs ≡ first_jobs first.machine → IsReached first now → now.machine.tick ≤ t → t ≤ tick_limit
    → jobs_since (stand_of now) set t ≡ jobs_at set t
since-first set first now t is jobs_are reached later limit =
    let tick : first.machine.tick ≡ 0 = ap (λ (m : MachineState). m.tick) is ∙ tick_is set 0 in
    let at = reached.at set (is ∙ ap (state_at set) (sym tick)) in
    let begun : first.jobs ≡ jobs_at set first.machine.tick = jobs_are ∙ ap first_jobs is ∙ first-at set ∙ ap (jobs_at set) (sym tick) in
    let here = same-since (stand_of first) set now.machine.tick at.later (omega (arith, later, limit)) begun in
    same-since (stand_of now) set t later limit (ap (λ (s : Stand). s.jobs) at.stand ∙ here)

-- ---- how a machine and the jobs stand

pub same-stand : (m n : MachineState) (js ks : List OpenJob) → m ≡ n → js ≡ ks → ◌≡◌ {A = Stand} (record { machine = m; jobs = js }) (record { machine = n; jobs = ks })
same-stand m n js ks machine jobs_are = ap (λ x. record { machine = x; jobs = js }) machine ∙ ap (λ x. record { machine = n; jobs = x }) jobs_are

pub machine-at : (begin : Stand) (set : TaskSet) (s : Stand) → IsAt begin set s → s.machine ≡ state_at set s.machine.tick
machine-at begin set s is = ap (λ (s : Stand). s.machine) is.stand

-- where the jobs are counted from
pub at-begin : (set : TaskSet) (s : Stand) → s.machine ≡ state_at set s.machine.tick → IsAt s set s
at-begin set s is = record { later = omega arith; stand = same-stand _ _ _ _ is (sym (since-here s set)) }

pub at-on : (begin : Stand) (set : TaskSet) (entry : Entry) (old new : Stand) → new.machine.tick ≡ old.machine.tick + ticks_of entry → new.jobs ≡ opened_in old.jobs entry
    → Follows set old.machine.tick entry new.machine → IsAt begin set old → IsAt begin set new
at-on begin set entry old new end jobs_are follows is = record {
  later = (let later = is.later in omega (arith, later, end));
  stand = same-stand _ _ _ _ (follows.stands ∙ ap (state_at set) (sym end))
      (jobs_are ∙ ap (λ (s : Stand). opened_in s.jobs entry) is.stand ∙ since-on begin set old.machine.tick entry new.machine is.later follows ∙ ap (jobs_since begin set) (sym end));
}

-- its first jobs, one by one
module _ {A B : Type 0} (f : A → B) where
  more : (xs : List A) (n : ℕ) (y : B) → Some y ≡ option_map f (slice_get xs n) → map f (take n xs) ++ y ∷ [] ≡ map f (take (suc n) xs)
  more [] n y is = absurd cc
  more (x ∷ xs) zero y is = let same : y ≡ f x = cc in ap (λ z. z ∷ []) same
  more (x ∷ xs) (suc n) y is = ap (λ ys. f x ∷ ys) (more xs n y is)

  no-more : (xs : List A) (n : ℕ) → None ≡ option_map f (slice_get xs n) → map f (take n xs) ≡ map f (take (suc n) xs)
  no-more [] zero is = refl
  no-more [] (suc n) is = refl
  no-more (x ∷ xs) zero is = absurd cc
  no-more (x ∷ xs) (suc n) is = ap (λ ys. f x ∷ ys) (no-more xs n is)

  next : (xs : List A) (n : ℕ) → map f (take (suc n) xs) ≡ map f (take (n + 1) xs)
  next xs n = let one : suc n ≡ n + 1 = omega arith in ap (λ k. map f (take k xs)) one

  pub first-more : (xs : List A) (n : ℕ) (y : B) (ys : List B) → ys ≡ map f (take n xs) → Some y ≡ option_map f (slice_get xs n) → ys ++ y ∷ [] ≡ map f (take (n + 1) xs)
  first-more xs n y ys here is = ap (λ zs. zs ++ y ∷ []) here ∙ more xs n y is ∙ next xs n

  pub first-none : (xs : List A) (n : ℕ) → None ≡ option_map f (slice_get xs n) → map f (take n xs) ≡ map f (take (n + 1) xs)
  first-none xs n is = no-more xs n is ∙ next xs n
