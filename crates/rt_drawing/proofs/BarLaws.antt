-- Bars are made of the ticks that are drawn, are the longest, and tell the jobs of their last ticks.
use Rattle.rt_drawing.proofs.Common.{◌≡◌, ℕ, zero, suc, ◌+◌, ◌-◌, ◌<◌, ◌≤◌, ◌==◌, nat_le, ◌⊎◌, Bool, true, false, ◌&&◌, cond, List, [], ◌∷◌, ◌++◌, length, get_or, refl, sym, ap, subst, ◌∙◌, arith, flat_map, range_with_len, nat_tests, SetTask, AttemptOutcome, Record, Idle, Busy, Job, first_job, ticked, job_by, own, own_from, Stretch, Window, stretch, turns_after, turns, alike, stretches, shown_ticks}
use Rattle.std.proofs.Common.{◌≢◌, slice_index, map, filter, All, Contains}
use Rattle.std.specs.List.{AllAdjacentBelow}
use Rattle.std.specs.List.Sorted.{IsStrictlyIncreasing}
use Rattle.std.proofs.lemmas.List.Kept.{IsStrictlyIncreasing-filter}
use Rattle.std.proofs.lemmas.List.Elements.{All-nil, All-cons, All-head, All-tail, All-weaker, Contains-append_right}
use Rattle.rt_drawing.specs.Stretches.{tick_before, stretch_ticks, AreApart}
use Rattle.rt_drawing.proofs.StretchLaws.{both-left, both-right, alike-over, alike-number, alike-apart}

-- a tick, whether it is over the period, and its job
abbrev Tick : Type 0
Tick = ℕ × Bool × Job

abbrev HasTicks : Stretch → Type 0
HasTicks s = s.from < s.to

-- whether a tick goes into this stretch behind it
abbrev joins : ℕ → Bool → ℕ → Stretch → Bool
joins u over number s = s.from == u + 1 && alike over number s.over s.job.number

joins-next : (u : ℕ) (over : Bool) (number : ℕ) (s : Stretch) → joins u over number s ≡ true → s.from ≡ u + 1
joins-next u over number s test =
    let is : (s.from == u + 1) ≡ true = both-left (s.from == u + 1) (alike over number s.over s.job.number) test in
    grind (arith, nat_tests, is)

joins-alike : (u : ℕ) (over : Bool) (number : ℕ) (s : Stretch) → joins u over number s ≡ true → alike over number s.over s.job.number ≡ true
joins-alike u over number s test = both-right (s.from == u + 1) (alike over number s.over s.job.number) test

some-before : (u : ℕ) (over : Bool) (j : Job) (xs : List Stretch) → All HasTicks xs → All HasTicks (tick_before (u, over, j) xs)
some-before u over j [] some = All-cons HasTicks (stretch u (u + 1) over j) [] (omega arith) (All-nil HasTicks)
some-before u over j (s ∷ later) some = joined (joins u over j.number s) refl
  where
    joined : (b : Bool) → joins u over j.number s ≡ b → All HasTicks (cond b (stretch u s.to s.over s.job ∷ later) (stretch u (u + 1) over j ∷ s ∷ later))
    joined true test =
        let next : s.from ≡ u + 1 = joins-next u over j.number s test in
        let first : s.from < s.to = All-head HasTicks s later some in
        All-cons HasTicks (stretch u s.to s.over s.job) later (omega (arith, next, first)) (All-tail HasTicks s later some)
    joined false test = All-cons HasTicks (stretch u (u + 1) over j) (s ∷ later) (omega arith) some

pub each-some : (us : List Tick) → All HasTicks (stretches us)
each-some [] = All-nil HasTicks
each-some ((u, over, j) ∷ us) = some-before u over j (stretches us) (each-some us)

-- ticks of one job that are over the period, or none of them
abbrev told : Bool → ℕ → List ℕ → List (ℕ × Bool × ℕ)
told over number us = map (λ t. (t, over, number)) us

-- a tick with the number of its job
abbrev numbered : Tick → ℕ × Bool × ℕ
numbered e = (e.0, e.1, e.2.number)

one-tick : (u : ℕ) (over : Bool) (j : Job) → stretch_ticks (stretch u (u + 1) over j) ≡ (u, over, j.number) ∷ []
one-tick u over j = let one : u + 1 - u ≡ 1 = omega arith in ap (λ (n : ℕ). told over j.number (range_with_len u n)) one

ticks-before : (u : ℕ) (over : Bool) (j : Job) (xs : List Stretch) → All HasTicks xs
    → flat_map stretch_ticks (tick_before (u, over, j) xs) ≡ (u, over, j.number) ∷ flat_map stretch_ticks xs
ticks-before u over j [] some = ap (λ (us : List (ℕ × Bool × ℕ)). us ++ []) (one-tick u over j)
ticks-before u over j (s ∷ later) some = joined (joins u over j.number s) refl
  where
    joined : (b : Bool) → joins u over j.number s ≡ b
        → flat_map stretch_ticks (cond b (stretch u s.to s.over s.job ∷ later) (stretch u (u + 1) over j ∷ s ∷ later)) ≡ (u, over, j.number) ∷ flat_map stretch_ticks (s ∷ later)
    joined true test =
        let next : s.from ≡ u + 1 = joins-next u over j.number s test in
        let same = joins-alike u over j.number s test in
        let first : s.from < s.to = All-head HasTicks s later some in
        let more : s.to - u ≡ suc (s.to - s.from) = omega (arith, next, first) in
        ap (λ (n : ℕ). told s.over s.job.number (range_with_len u n) ++ flat_map stretch_ticks later) more
        ∙ ap (λ (n : ℕ). (u, s.over, s.job.number) ∷ told s.over s.job.number (range_with_len n (s.to - s.from)) ++ flat_map stretch_ticks later) (sym next)
        ∙ ap (λ (b : Bool). (u, b, s.job.number) ∷ flat_map stretch_ticks (s ∷ later)) (sym (alike-over over s.over j.number s.job.number same))
        ∙ ap (λ (n : ℕ). (u, over, n) ∷ flat_map stretch_ticks (s ∷ later)) (sym (alike-number over s.over j.number s.job.number same))
    joined false test = ap (λ (us : List (ℕ × Bool × ℕ)). us ++ flat_map stretch_ticks (s ∷ later)) (one-tick u over j)

pub ticks-stay : (us : List Tick) → flat_map stretch_ticks (stretches us) ≡ map numbered us
ticks-stay [] = refl
ticks-stay ((u, over, j) ∷ us) = ticks-before u over j (stretches us) (each-some us) ∙ ap (λ (vs : List (ℕ × Bool × ℕ)). (u, over, j.number) ∷ vs) (ticks-stay us)

-- ---- jobs

-- the last tick of a stretch
abbrev last_of : Stretch → Tick
last_of s = (s.to - 1, s.over, s.job)

Contains-later : (u : Tick) (us : List Tick) (x : Tick) → Contains us x → Contains (u ∷ us) x
Contains-later u us x is = Contains-append_right (u ∷ []) us x is

abbrev TellsLast : List Tick → Stretch → Type 0
TellsLast us s = Contains us (last_of s)

last-before : (u : ℕ) (over : Bool) (j : Job) (us : List Tick) (xs : List Stretch) → All (TellsLast us) xs → All (TellsLast ((u, over, j) ∷ us)) (tick_before (u, over, j) xs)
last-before u over j us xs all = before xs (All-weaker (TellsLast us) (TellsLast vs) (λ s is. Contains-later (u, over, j) us (last_of s) is) xs all)
  where
    vs : List Tick
    vs = (u, over, j) ∷ us

    here : Contains vs (last_of (stretch u (u + 1) over j))
    here = (0, omega arith, let same : u ≡ u + 1 - 1 = omega arith in ap (λ (t : ℕ). (t, over, j)) same)

    before : (xs : List Stretch) → All (TellsLast vs) xs → All (TellsLast vs) (tick_before (u, over, j) xs)
    before [] all = All-cons (TellsLast vs) (stretch u (u + 1) over j) [] here (All-nil (TellsLast vs))
    before (s ∷ later) all =
        elim (joins u over j.number s) as (λ b. All (TellsLast vs) (cond b (stretch u s.to s.over s.job ∷ later) (stretch u (u + 1) over j ∷ s ∷ later))) [
          | true ↦ All-cons (TellsLast vs) (stretch u s.to s.over s.job) later (All-head (TellsLast vs) s later all) (All-tail (TellsLast vs) s later all)
          | false ↦ All-cons (TellsLast vs) (stretch u (u + 1) over j) (s ∷ later) here all
        ]

pub last-told : (us : List Tick) → All (TellsLast us) (stretches us)
last-told [] = All-nil (TellsLast [])
last-told ((u, over, j) ∷ us) = last-before u over j us (stretches us) (last-told us)

-- ---- gaps

abbrev Gaps : List Stretch → Type 0
Gaps xs = AllAdjacentBelow AreApart xs (length xs)

next : (k : ℕ) → suc k + 1 ≡ suc (k + 1)
next k = omega arith

-- a stretch before others
gaps-before : (s x : Stretch) (later : List Stretch) → AreApart s x → Gaps (x ∷ later) → Gaps (s ∷ x ∷ later)
gaps-before s x later gap gaps zero d below = gap
gaps-before s x later gap gaps (suc k) d below = rw (next k) (gaps k d (omega arith))

gaps-one : (s : Stretch) → Gaps (s ∷ [])
gaps-one s k d below = absurd (omega arith)

-- the first of them begins earlier
gaps-earlier : (u : ℕ) (s : Stretch) (later : List Stretch) → Gaps (s ∷ later) → Gaps (stretch u s.to s.over s.job ∷ later)
gaps-earlier u s later gaps zero d below = gaps zero d below
gaps-earlier u s later gaps (suc k) d below = rw (next k) (rw (next k) at (gaps (suc k) d (omega (arith, below))))

-- the first stretch begins with the first tick
first-tick : (u : ℕ) (over : Bool) (j : Job) (us : List Tick) (d : Stretch) → (get_or (stretches ((u, over, j) ∷ us)) 0 d).from ≡ u
first-tick u over j us d = begins (stretches us)
  where
    begins : (xs : List Stretch) → (get_or (tick_before (u, over, j) xs) 0 d).from ≡ u
    begins [] = refl
    begins (s ∷ later) = elim (joins u over j.number s) as (λ b. (get_or (cond b (stretch u s.to s.over s.job ∷ later) (stretch u (u + 1) over j ∷ s ∷ later)) 0 d).from ≡ u) [ true ↦ refl | false ↦ refl ]

gaps-more : (u : ℕ) (over : Bool) (j : Job) (xs : List Stretch) → ((d : Stretch) → 0 < length xs → u < (get_or xs 0 d).from) → Gaps xs → Gaps (tick_before (u, over, j) xs)
gaps-more u over j [] above gaps = gaps-one (stretch u (u + 1) over j)
gaps-more u over j (s ∷ later) above gaps = joined (joins u over j.number s) refl
  where
    apart : (b : Bool) → (s.from == u + 1) ≡ b → (b && alike over j.number s.over s.job.number) ≡ false → u + 1 ≡ s.from → (over ≢ s.over) ⊎ (j.number ≢ s.job.number)
    apart true is test meets = alike-apart over s.over j.number s.job.number test
    apart false is test meets = absurd (grind (arith, nat_tests, is, meets))

    joined : (b : Bool) → joins u over j.number s ≡ b → Gaps (cond b (stretch u s.to s.over s.job ∷ later) (stretch u (u + 1) over j ∷ s ∷ later))
    joined true test = gaps-earlier u s later gaps
    joined false test =
        let behind : u < s.from = above s (omega arith) in
        let ends : u + 1 ≤ s.from = omega (arith, behind) in
        gaps-before (stretch u (u + 1) over j) s later (ends, apart (s.from == u + 1) refl test) gaps

-- the ticks alone
abbrev ticks_told : List Tick → List ℕ
ticks_told us = map (λ e. e.0) us

pub gaps-between : (us : List Tick) → IsStrictlyIncreasing (ticks_told us) → Gaps (stretches us)
gaps-between [] rising = λ k d below. absurd (omega arith)
gaps-between ((u, over, j) ∷ us) rising = gaps-more u over j (stretches us) (above us rising) (gaps-between us (λ k below. rw (next k) at (rising (suc k) (omega arith))))
  where
    above : (vs : List Tick) → IsStrictlyIncreasing (u ∷ ticks_told vs) → (d : Stretch) → 0 < length (stretches vs) → u < (get_or (stretches vs) 0 d).from
    above [] rising d some = absurd (omega arith)
    above ((v, b, i) ∷ vs) rising d some = let next : u < v = rising 0 (omega arith) in omega (arith, next, first-tick v b i vs d)

-- ---- own parts

abbrev ticks : List (ℕ × AttemptOutcome) → List ℕ
ticks es = map (λ e. e.0) es

-- ticks that rise, from u on
abbrev RiseFrom : ℕ → List ℕ → Type 0
RiseFrom u us = IsStrictlyIncreasing us × (0 < length us → u ≤ slice_index us 0)

rise-more : (u : ℕ) (us : List ℕ) → RiseFrom (u + 1) us → RiseFrom u (u ∷ us)
rise-more u us (rising, above) = (longer, λ _. omega arith)
  where
    longer : IsStrictlyIncreasing (u ∷ us)
    longer zero below = let next : u + 1 ≤ slice_index us 0 = above (omega arith) in omega (arith, next)
    longer (suc k) below = rw (next k) (rising k (omega arith))

rise-earlier : (u : ℕ) (us : List ℕ) → RiseFrom (u + 1) us → RiseFrom u us
rise-earlier u us (rising, above) = (rising, λ some. let later = above some in omega (arith, later))

own-rises : (u i : ℕ) (h : List Record) → RiseFrom u (ticks (own_from u i h))
own-rises u i [] = (λ k below. absurd (omega arith), λ some. absurd (omega arith))
own-rises u i (Idle ∷ h) = rise-earlier u (ticks (own_from (u + 1) i h)) (own-rises (u + 1) i h)
own-rises u i (Busy a ∷ h) =
    let later = own_from (u + 1) i h in
    elim (a.task == i) as (λ b. RiseFrom u (ticks (cond b ((u, a.outcome) ∷ later) later))) [
      | true ↦ rise-more u (ticks later) (own-rises (u + 1) i h)
      | false ↦ rise-earlier u (ticks later) (own-rises (u + 1) i h)
    ]

-- the ticks that are shown of turns are those that are shown of the own part
shown-after : (w : Window) (allowed : ℕ) (j : Job) (b : ℕ) (es : List (ℕ × AttemptOutcome))
    → ticks_told (shown_ticks w (turns_after allowed j b es)) ≡ filter (nat_le w.from) (ticks es)
shown-after w allowed j b [] = refl
shown-after w allowed j b (e ∷ es) =
    let later = shown-after w allowed (job_by j e.1) (e.0 + 1) es in
    let others = turns_after allowed (job_by j e.1) (e.0 + 1) es in
    elim (nat_le w.from e.0) as (λ shown. ticks_told (cond shown ((e.0, nat_le (j.release + allowed) e.0, ticked 1 j) ∷ shown_ticks w others) (shown_ticks w others))
    ≡ cond shown (e.0 ∷ filter (nat_le w.from) (ticks es)) (filter (nat_le w.from) (ticks es))) [
      | true ↦ ap (λ (us : List ℕ). e.0 ∷ us) later
      | false ↦ later
    ]

pub shown-own : (w : Window) (allowed : ℕ) (s : SetTask) (es : List (ℕ × AttemptOutcome)) → ticks_told (shown_ticks w (turns allowed s es)) ≡ filter (nat_le w.from) (ticks es)
shown-own w allowed s es = shown-after w allowed (first_job s) 0 es

pub shown-rise : (w : Window) (allowed : ℕ) (s : SetTask) (h : List Record) (i : ℕ) → IsStrictlyIncreasing (ticks_told (shown_ticks w (turns allowed s (own i h))))
shown-rise w allowed s h i =
    subst IsStrictlyIncreasing (sym (shown-own w allowed s (own i h))) (IsStrictlyIncreasing-filter (nat_le w.from) (ticks (own i h)) ((own-rises 0 i h).0))
