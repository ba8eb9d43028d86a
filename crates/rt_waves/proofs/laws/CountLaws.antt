-- Waves count what reports count.
use Rattle.rt_waves.proofs.Common.{◌≡◌, ℕ, zero, suc, ◌+◌, ◌==◌, nat_le, Bool, true, false, ◌&&◌, not, cond, List, [], ◌∷◌, ◌++◌, length, count_by, append-nil, Option, Some, None, inl, inr, refl, sym, ap, ◌∙◌, arith, range_with_len, option_map_or, cases_lt, nat_tests, Account, SetTask, TaskSet, Mode, Active, Asleep, Ended, Faulted, AttemptOutcome, Record, Idle, Busy, Serving, due, after, record_at, legal, state_at, fresh_in, kept_in, postpones, outcome_of, task_waves}
use Rattle.rt_server.specs.Arrival.{wakes_fresh}
use Rattle.rt_history.specs.Serving.{first_serving, mode_after, charged}
use Rattle.rt_history.specs.OwnPart.{own, serving_after}
use Rattle.rt_history.specs.Job.{ends_job, job_of, jobs_after, jobs}
use Rattle.rt_history.proofs.OwnPartLaws.{added}
use Rattle.rt_history.proofs.ServingLaws.{mode_after_cases, serving_after-append}
use Rattle.rt_history.proofs.Steps.{legal-first, own-next}
use Rattle.rt_report.specs.WideRows.{Moment, moments, wide_row_of}
use Rattle.rt_report.proofs.TallyLaws.{moments-more}
use Rattle.rt_waves.specs.Waves.{wakes_at}
use Rattle.rt_waves.proofs.laws.Counting.{one_if, count-cons, count-append, count-next}

-- ---- one tick more

abbrev behind : TaskSet → ℕ → ℕ → SetTask → Serving
behind set t i s = serving_after (first_serving s) (own i (legal set t))

-- how the attempt of task i at tick t came out
abbrev outcome_at : TaskSet → ℕ → ℕ → Option AttemptOutcome
outcome_at set t i = outcome_of i (record_at (state_at set t))

added-by : (t i : ℕ) (r : Record) → added t i r ≡ option_map_or (λ o. (t, o) ∷ []) (outcome_of i r) []
added-by t i Idle = refl
added-by t i (Busy a) = by (a.task == i)
  where
    by : (b : Bool) → cond {A = List (ℕ × AttemptOutcome)} b ((t, a.outcome) ∷ []) [] ≡ option_map_or (λ o. (t, o) ∷ []) (cond b (Some a.outcome) None) []
    by true = refl
    by false = refl

own-more : (set : TaskSet) (t i : ℕ) → own i (legal set (suc t)) ≡ own i (legal set t) ++ option_map_or (λ o. (t, o) ∷ []) (outcome_at set t i) []
own-more set t i =
    let next : suc t ≡ t + 1 = omega arith in
    ap (λ (n : ℕ). own i (legal set n)) next ∙ own-next set t i ∙ ap (λ (es : List (ℕ × AttemptOutcome)). own i (legal set t) ++ es) (added-by t i (record_at (state_at set t)))

behind-more : (set : TaskSet) (t i : ℕ) (s : SetTask) → behind set (suc t) i s ≡ option_map_or (λ o. after t o (due t (behind set t i s)).account) (outcome_at set t i) (behind set t i s)
behind-more set t i s = ap (serving_after v) (own-more set t i) ∙ by (outcome_at set t i)
  where
    v : Serving
    v = first_serving s

    es : List (ℕ × AttemptOutcome)
    es = own i (legal set t)

    by : (o : Option AttemptOutcome) → serving_after (first_serving s) (own i (legal set t) ++ option_map_or (λ x. (t, x) ∷ []) o [])
        ≡ option_map_or (λ x. after t x (due t (behind set t i s)).account) o (behind set t i s)
    by None = ap (serving_after (first_serving s)) (append-nil (own i (legal set t)))
    by (Some x) = serving_after-append (first_serving s) (own i (legal set t)) ((t, x) ∷ [])

own-count : (p : ℕ × AttemptOutcome → Bool) (set : TaskSet) (t i : ℕ)
    → count_by p (own i (legal set (suc t))) ≡ count_by p (own i (legal set t)) + one_if (option_map_or (λ o. p (t, o)) (outcome_at set t i) false)
own-count p set t i = ap (count_by p) (own-more set t i) ∙ count-append p (own i (legal set t)) (option_map_or (λ o. (t, o) ∷ []) (outcome_at set t i) []) ∙ ap (λ (n : ℕ). count_by p (own i (legal set t)) + n) (by (outcome_at set t i))
  where
    by : (o : Option AttemptOutcome) → count_by p (option_map_or (λ x. (t, x) ∷ []) o []) ≡ one_if (option_map_or (λ x. p (t, x)) o false)
    by None = refl
    by (Some x) = omega (arith, count-cons p (t, x) [])

-- ---- finished jobs

abbrev ends : ℕ × AttemptOutcome → Bool
ends e = ends_job e.1

jobs-count : (s : SetTask) (before piece es : List (ℕ × AttemptOutcome)) → length (jobs_after s before piece es) ≡ count_by ends es
jobs-count s before piece [] = refl
jobs-count s before piece (e ∷ es) =
    let done = jobs-count s (before ++ (piece ++ e ∷ [])) [] es in
    let on = jobs-count s before (piece ++ e ∷ []) es in
    let each : length (jobs_after s before piece (e ∷ es)) ≡ one_if (ends_job e.1) + count_by ends es =
    elim (ends_job e.1) as (λ b. length (cond b (job_of s before (piece ++ e ∷ []) e.0 ∷ jobs_after s (before ++ (piece ++ e ∷ [])) [] es) (jobs_after s before (piece ++ e ∷ []) es)) ≡ one_if b + count_by ends es) [
      | true ↦ omega (arith, done)
      | false ↦ omega (arith, on)
    ] in
    each ∙ sym (count-cons ends e es)

finish-times : (set : TaskSet) (t i : ℕ) (s : SetTask) → count_by (λ u. (task_waves set u i s).finish) (range_with_len 0 t) ≡ count_by ends (own i (legal set t))
finish-times set zero i s = sym (ap (λ (h : List Record). count_by ends (own i h)) (legal-first set))
finish-times set (suc t) i s =
    let now : one_if (task_waves set t i s).finish ≡ one_if (option_map_or (λ o. ends (t, o)) (outcome_at set t i) false) = refl in
    omega (arith, count-next (λ u. (task_waves set u i s).finish) t, own-count ends set t i, now, finish-times set t i s)

pub finish-counts : (set : TaskSet) (t i : ℕ) (s : SetTask) → count_by (λ u. (task_waves set u i s).finish) (range_with_len 0 t) ≡ length (jobs s (own i (legal set t)))
finish-counts set t i s = finish-times set t i s ∙ sym (jobs-count s [] [] (own i (legal set t)))

-- ---- records with how the task stood before

abbrev at_record : ℕ → Serving → AttemptOutcome → Moment
at_record t v o = record { tick = t; outcome = o; before = v }

abbrev moments_of : TaskSet → ℕ → ℕ → SetTask → List Moment
moments_of set t i s = moments (first_serving s) (own i (legal set t))

moment-count : (q : Moment → Bool) (set : TaskSet) (t i : ℕ) (s : SetTask)
    → count_by q (moments_of set (suc t) i s) ≡ count_by q (moments_of set t i s) + one_if (option_map_or (λ o. q (at_record t (behind set t i s) o)) (outcome_at set t i) false)
moment-count q set t i s = ap (λ (es : List (ℕ × AttemptOutcome)). count_by q (moments (first_serving s) es)) (own-more set t i) ∙ by (outcome_at set t i)
  where
    by : (o : Option AttemptOutcome) → count_by q (moments (first_serving s) (own i (legal set t) ++ option_map_or (λ x. (t, x) ∷ []) o []))
        ≡ count_by q (moments_of set t i s) + one_if (option_map_or (λ x. q (at_record t (behind set t i s) x)) o false)
    by None = omega (arith, ap (λ (es : List (ℕ × AttemptOutcome)). count_by q (moments (first_serving s) es)) (append-nil (own i (legal set t))))
    by (Some x) =
        let m = at_record t (behind set t i s) x in
        omega (arith, ap (count_by q) (moments-more (first_serving s) (own i (legal set t)) (t, x)), count-append q (moments_of set t i s) (m ∷ []), count-cons q m [])

moments-first : (q : Moment → Bool) (set : TaskSet) (i : ℕ) (s : SetTask) → count_by q (moments_of set 0 i s) ≡ 0
moments-first q set i s = ap (λ (h : List Record). count_by q (moments (first_serving s) (own i h))) (legal-first set)

-- ---- postponements

abbrev moves : Moment → Bool
moves m = postpones m.outcome (due m.tick m.before).account

postponed-times : (set : TaskSet) (t i : ℕ) (s : SetTask) → count_by (λ u. (task_waves set u i s).postponed) (range_with_len 0 t) ≡ count_by moves (moments_of set t i s)
postponed-times set zero i s = sym (moments-first moves set i s)
postponed-times set (suc t) i s =
    let now : one_if (task_waves set t i s).postponed ≡ one_if (option_map_or (λ o. moves (at_record t (behind set t i s) o)) (outcome_at set t i) false) = refl in
    omega (arith, count-next (λ u. (task_waves set u i s).postponed) t, moment-count moves set t i s, now, postponed-times set t i s)

pub postponed-counts : (set : TaskSet) (t i : ℕ) (s : SetTask)
    → count_by (λ u. (task_waves set u i s).postponed) (range_with_len 0 t) ≡ (wide_row_of t (legal set t) i s).counts.postponements
postponed-counts = postponed-times

-- ---- wakes

-- a task that is asleep has woken by tick t, in such a way
abbrev woken_by : (ℕ → Account → Bool) → ℕ → Mode → Account → Bool
woken_by f t (Asleep w) a = nat_le w t && f w a
woken_by f t mode a = false

woken-first : (f : ℕ → Account → Bool) (m : Mode) (a : Account) → one_if (woken_by f 0 m a) ≡ one_if (wakes_at 0 m && f 0 a)
woken-first f Active a = refl
woken-first f Ended a = refl
woken-first f (Faulted fault) a = refl
woken-first f (Asleep zero) a = refl
woken-first f (Asleep (suc w)) a =
    let late : nat_le (suc w) 0 ≡ false = grind (arith, nat_tests) in
    let other : (suc w == 0) ≡ false = grind (arith, nat_tests) in
    rw (late, other) refl

woken-next : (f : ℕ → Account → Bool) (t : ℕ) (m : Mode) (a : Account) → one_if (woken_by f (suc t) m a) ≡ one_if (woken_by f t m a) + one_if (wakes_at (suc t) m && f (suc t) a)
woken-next f t Active a = refl
woken-next f t Ended a = refl
woken-next f t (Faulted fault) a = refl
woken-next f t (Asleep w) a =
    elim (cases_lt t w) [
      | inl later ↦
          let early : nat_le w t ≡ false = grind (arith, nat_tests) in
          elim (cases_lt (suc t) w) [
            | inl beyond ↦
                let far : nat_le w (suc t) ≡ false = grind (arith, nat_tests) in
                let other : (w == suc t) ≡ false = grind (arith, nat_tests) in
                rw (early, far, other) refl
            | inr come ↦
                let same : w ≡ suc t = omega (arith, later, come) in
                at_last same
          ]
      | inr come ↦
          let yes : nat_le w t ≡ true = grind (arith, nat_tests) in
          let still : nat_le w (suc t) ≡ true = grind (arith, nat_tests) in
          let other : (w == suc t) ≡ false = grind (arith, nat_tests) in
          let none : one_if (f w a) ≡ one_if (f w a) + 0 = omega arith in
          rw (yes, still, other) none
    ]
  where
    at_last : w ≡ suc t → one_if (nat_le w (suc t) && f w a) ≡ one_if (nat_le w t && f w a) + one_if ((w == suc t) && f (suc t) a)
    at_last same =
        let yes : nat_le (suc t) (suc t) ≡ true = grind (arith, nat_tests) in
        let no : nat_le (suc t) t ≡ false = grind (arith, nat_tests) in
        let own : (suc t == suc t) ≡ true = grind (arith, nat_tests) in
        let one : one_if (f (suc t) a) ≡ 0 + one_if (f (suc t) a) = omega arith in
        rw (same, yes, no, own) one

-- behind its own record a task has not woken yet
woken-none : (f : ℕ → Account → Bool) (t : ℕ) (o : AttemptOutcome) (a : Account) → woken_by f t (mode_after t o) a ≡ false
woken-none f t o a =
    mode_after_cases (λ (m : Mode). woken_by f t m a ≡ false) t o refl (λ w is later. let early : nat_le w t ≡ false = grind (arith, nat_tests) in rw early refl) refl (λ fault. refl)

-- g counts such wakes
abbrev IsSuch : (ℕ → Account → Bool) → (ℕ → Mode → Account → Bool) → Type 0
IsSuch f g = (t : ℕ) (m : Mode) (a : Account) → g t m a ≡ woken_by f t m a

abbrev wakes_by : (ℕ → Mode → Account → Bool) → Moment → Bool
wakes_by g m = g m.tick m.before.mode m.before.account

-- whether a task that stands so wakes so at tick t
abbrev wakes_now : (ℕ → Account → Bool) → ℕ → Serving → Bool
wakes_now f t v = wakes_at t v.mode && f t v.account

-- over a record, or none, of the tick before
wakes-settle : (f : ℕ → Account → Bool) (g : ℕ → Mode → Account → Bool) (t : ℕ) (v : Serving) (o : Option AttemptOutcome) → IsSuch f g
    → one_if (option_map_or (λ x. wakes_by g (at_record t v x)) o false)
    + one_if (g t (option_map_or (λ x. after t x (due t v).account) o v).mode (option_map_or (λ x. after t x (due t v).account) o v).account)
    ≡ one_if (g t v.mode v.account)
wakes-settle f g t v None such = omega arith
wakes-settle f g t v (Some x) such =
    let none : g t (mode_after t x) (charged x (due t v).account) ≡ false = such t (mode_after t x) (charged x (due t v).account) ∙ woken-none f t x (charged x (due t v).account) in
    omega (arith, ap one_if none)

wake-times : (f : ℕ → Account → Bool) (g : ℕ → Mode → Account → Bool) (set : TaskSet) (t i : ℕ) (s : SetTask) → IsSuch f g
    → count_by (λ u. wakes_now f u (behind set u i s)) (range_with_len 0 t) + one_if (wakes_now f t (behind set t i s))
    ≡ count_by (wakes_by g) (moments_of set t i s) + one_if (g t (behind set t i s).mode (behind set t i s).account)
wake-times f g set zero i s such =
    let v = behind set 0 i s in
    omega (arith, moments-first (wakes_by g) set i s, ap one_if (such 0 v.mode v.account), woken-first f v.mode v.account)
wake-times f g set (suc t) i s such =
    let v = behind set t i s in
    let w = behind set (suc t) i s in
    let settled : one_if (option_map_or (λ x. wakes_by g (at_record t v x)) (outcome_at set t i) false) + one_if (g t w.mode w.account) ≡ one_if (g t v.mode v.account) =
    ap (λ (z : Serving). one_if (option_map_or (λ x. wakes_by g (at_record t v x)) (outcome_at set t i) false) + one_if (g t z.mode z.account)) (behind-more set t i s)
    ∙ wakes-settle f g t v (outcome_at set t i) such in
    let next : one_if (g (suc t) w.mode w.account) ≡ one_if (g t w.mode w.account) + one_if (wakes_now f (suc t) w) =
    ap one_if (such (suc t) w.mode w.account) ∙ woken-next f t w.mode w.account ∙ ap (λ (b : Bool). one_if b + one_if (wakes_now f (suc t) w)) (sym (such t w.mode w.account)) in
    omega (arith, count-next (λ u. wakes_now f u (behind set u i s)) t, moment-count (wakes_by g) set t i s, settled, next, wake-times f g set t i s such)

abbrev is_kept : ℕ → Account → Bool
is_kept t a = not (wakes_fresh t a)

such-fresh : IsSuch wakes_fresh fresh_in
such-fresh t (Asleep w) a = refl
such-fresh t Active a = refl
such-fresh t Ended a = refl
such-fresh t (Faulted fault) a = refl

such-kept : IsSuch is_kept kept_in
such-kept t (Asleep w) a = refl
such-kept t Active a = refl
such-kept t Ended a = refl
such-kept t (Faulted fault) a = refl

pub fresh-counts : (set : TaskSet) (t i : ℕ) (s : SetTask)
    → count_by (λ u. (task_waves set u i s).fresh) (range_with_len 0 t) + cond (task_waves set t i s).fresh 1 0 ≡ (wide_row_of t (legal set t) i s).counts.fresh_wakes
fresh-counts set t i s = wake-times wakes_fresh fresh_in set t i s such-fresh

pub kept-counts : (set : TaskSet) (t i : ℕ) (s : SetTask)
    → count_by (λ u. (task_waves set u i s).kept) (range_with_len 0 t) + cond (task_waves set t i s).kept 1 0 ≡ (wide_row_of t (legal set t) i s).counts.kept_wakes
kept-counts set t i s = wake-times is_kept kept_in set t i s such-kept
