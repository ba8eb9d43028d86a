-- Where as many ticks are allowed as there are, nothing is over.
use Rattle.rt_drawing.proofs.Common.{◌≡◌, ℕ, ◌+◌, ◌<◌, ◌≤◌, ◌-◌, ◌==◌, nat_le, nat_lt, max, Bool, true, false, cond, List, [], ◌∷◌, length, refl, arith, flat_map, nat_tests, SetTask, AttemptOutcome, Record, Idle, Busy, Mode, Active, Asleep, Ended, Faulted, first_serving, due, Job, first_job, job_by, job_after, own, own_from, serving_after, Stretch, Window, stretch, behind, Turn, turns_after, turns, stretches, shown_ticks}
use Rattle.std.proofs.Common.{min, All, Contains}
use Rattle.std.proofs.lemmas.List.Elements.{All-nil, All-cons, All-append, All-weaker, All-contains}
use Rattle.rt_words.specs.Limits.{tick_limit}
use Rattle.rt_drawing.specs.Waits.{part, turn, turn_waits, last_wait, waits}
use Rattle.rt_drawing.specs.Stretches.{turn_tick}
use Rattle.rt_drawing.proofs.BarLaws.{last-told}
use Rattle.rt_drawing.proofs.WaitLaws.{part-none}

abbrev IsPlain : Stretch → Type 0
IsPlain s = s.over ≡ false

-- records of ticks below t
abbrev Below : ℕ → List (ℕ × AttemptOutcome) → Type 0
Below t [] = Unit {0}
Below t (e ∷ es) = (e.0 < t) × Below t es

own-below : (t u i : ℕ) (h : List Record) → u + length h ≤ t → Below t (own_from u i h)
own-below t u i [] within = tt
own-below t u i (Idle ∷ h) within = own-below t (u + 1) i h (omega (arith, within))
own-below t u i (Busy a ∷ h) within =
    let later = own_from (u + 1) i h in
    let others = own-below t (u + 1) i h (omega (arith, within)) in
    elim (a.task == i) as (λ b. Below t (cond b ((u, a.outcome) ∷ later) later)) [
      | true ↦ (omega (arith, within), others)
      | false ↦ others
    ]

-- ---- bars

abbrev IsInTime : ℕ × Bool × Job → Type 0
IsInTime e = e.1 ≡ false

ticks-plain : (w : Window) (j : Job) (b : ℕ) (es : List (ℕ × AttemptOutcome)) → Below tick_limit es → All IsInTime (shown_ticks w (turns_after tick_limit j b es))
ticks-plain w j b [] below = All-nil IsInTime
ticks-plain w j b (e ∷ es) (first, later) =
    let t = turn tick_limit j b e.0 in
    let others = shown_ticks w (turns_after tick_limit (job_by j e.1) (e.0 + 1) es) in
    let plain = ticks-plain w (job_by j e.1) (e.0 + 1) es later in
    let early : nat_le (j.release + tick_limit) e.0 ≡ false = grind (arith, nat_tests, first) in
    elim (nat_le w.from e.0) as (λ shown. All IsInTime (cond shown (turn_tick t ∷ others) others)) [
      | true ↦ All-cons IsInTime (turn_tick t) others early plain
      | false ↦ plain
    ]

pub runs-plain : (w : Window) (s : SetTask) (h : List Record) (i : ℕ) → length h ≤ tick_limit → All IsPlain (stretches (shown_ticks w (turns tick_limit s (own i h))))
runs-plain w s h i within =
    let us = shown_ticks w (turns tick_limit s (own i h)) in
    let plain = ticks-plain w (first_job s) 0 (own i h) (own-below tick_limit 0 i h (omega (arith, within))) in
    All-weaker (λ (b : Stretch). Contains us (b.to - 1, b.over, b.job)) IsPlain (λ b tells. All-contains IsInTime us (b.to - 1, b.over, b.job) plain tells) (stretches us) (last-told us)

-- ---- waits

part-plain : (j : Job) (from to : ℕ) → All IsPlain (part false j from to)
part-plain j from to =
    elim (nat_lt from to) as (λ some. All IsPlain (cond some (stretch from to false j ∷ []) [])) [
      | true ↦ All-cons IsPlain (stretch from to false j) [] refl (All-nil IsPlain)
      | false ↦ All-nil IsPlain
    ]

turn-plain : (w : Window) (t : Turn) → t.tick ≤ t.over_from → All IsPlain (turn_waits w t)
turn-plain w t early =
    let from = max t.since w.from in
    let none : part true t.job (max from t.over_from) t.tick ≡ [] = part-none true t.job (max from t.over_from) t.tick (omega (arith, early)) in
    All-append IsPlain (part false t.job from (min t.tick t.over_from)) (part true t.job (max from t.over_from) t.tick)
    (part-plain t.job from (min t.tick t.over_from)) (rw none (All-nil IsPlain))

turns-plain : (w : Window) (j : Job) (b : ℕ) (es : List (ℕ × AttemptOutcome)) → Below tick_limit es → All IsPlain (flat_map (turn_waits w) (turns_after tick_limit j b es))
turns-plain w j b [] below = All-nil IsPlain
turns-plain w j b (e ∷ es) (first, later) =
    All-append IsPlain (turn_waits w (turn tick_limit j b e.0)) (flat_map (turn_waits w) (turns_after tick_limit (job_by j e.1) (e.0 + 1) es))
    (turn-plain w (turn tick_limit j b e.0) (omega (arith, first))) (turns-plain w (job_by j e.1) (e.0 + 1) es later)

last-plain : (w : Window) (mode : Mode) (t : Turn) → t.tick ≤ t.over_from → All IsPlain (last_wait w mode t)
last-plain w Active t early = turn-plain w t early
last-plain w (Asleep u) t early = All-nil IsPlain
last-plain w Ended t early = All-nil IsPlain
last-plain w (Faulted fault) t early = All-nil IsPlain

pub waits-plain : (w : Window) (s : SetTask) (h : List Record) (i : ℕ) → length h ≤ tick_limit → All IsPlain (waits w tick_limit s (own i h))
waits-plain w s h i within =
    let es = own i h in
    let next = turn tick_limit (job_after (first_job s) es) (behind 0 es) w.to in
    let mode = (due w.to (serving_after (first_serving s) es)).mode in
    All-append IsPlain (flat_map (turn_waits w) (turns tick_limit s es)) (last_wait w mode next)
    (turns-plain w (first_job s) 0 es (own-below tick_limit 0 i h (omega (arith, within)))) (last-plain w mode next (omega (arith, w.limit)))
