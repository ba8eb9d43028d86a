-- What is over: by the response of its job.
use Rattle.rt_drawing.proofs.Common.{◌≡◌, ℕ, ◌+◌, ◌-◌, ◌<◌, ◌≤◌, nat_le, nat_lt, max, inl, inr, Bool, true, false, cond, List, [], ◌∷◌, length, get_or, refl, sym, ◌∙◌, arith, flat_map, cases_lt, nat_tests, SetTask, AttemptOutcome, Mode, Active, Asleep, Ended, Faulted, first_serving, due, Job, first_job, job_by, job_after, serving_after, Stretch, Window, stretch, behind, Turn, turns_after, turns, stretches, shown_ticks}
use Rattle.std.proofs.Common.{min, All}
use Rattle.std.proofs.lemmas.List.Elements.{All-nil, All-cons, All-append, All-contains}
use Rattle.rt_drawing.specs.Waits.{part, turn, turn_waits, last_wait, waits}
use Rattle.rt_drawing.specs.Stretches.{turn_tick}
use Rattle.rt_drawing.proofs.BarLaws.{each-some, last-told}

abbrev ByResponse : ℕ → Stretch → Type 0
ByResponse allowed b = b.over ≡ nat_lt (b.job.release + allowed) b.to

-- ---- bars

abbrev ByTick : ℕ → ℕ × Bool × Job → Type 0
ByTick allowed e = e.1 ≡ nat_le (e.2.release + allowed) e.0

ticks-over : (w : Window) (allowed : ℕ) (j : Job) (b : ℕ) (es : List (ℕ × AttemptOutcome)) → All (ByTick allowed) (shown_ticks w (turns_after allowed j b es))
ticks-over w allowed j b [] = All-nil (ByTick allowed)
ticks-over w allowed j b (e ∷ es) =
    let t = turn allowed j b e.0 in
    let others = shown_ticks w (turns_after allowed (job_by j e.1) (e.0 + 1) es) in
    let over = ticks-over w allowed (job_by j e.1) (e.0 + 1) es in
    elim (nat_le w.from e.0) as (λ shown. All (ByTick allowed) (cond shown (turn_tick t ∷ others) others)) [
      | true ↦ All-cons (ByTick allowed) (turn_tick t) others refl over
      | false ↦ over
    ]

before-end : (x t : ℕ) → 1 ≤ t → nat_le x (t - 1) ≡ nat_lt x t
before-end x t some =
    elim (cases_lt x t) [
      | inl below ↦
          let le : nat_le x (t - 1) ≡ true = grind (arith, nat_tests) in
          let lt : nat_lt x t ≡ true = grind (arith, nat_tests) in
          le ∙ sym lt
      | inr above ↦
          let le : nat_le x (t - 1) ≡ false = grind (arith, nat_tests) in
          let lt : nat_lt x t ≡ false = grind (arith, nat_tests) in
          le ∙ sym lt
    ]

pub runs-over : (w : Window) (allowed : ℕ) (s : SetTask) (es : List (ℕ × AttemptOutcome)) → All (ByResponse allowed) (stretches (shown_ticks w (turns allowed s es)))
runs-over w allowed s es =
    let us = shown_ticks w (turns allowed s es) in
    λ k d below.
    let b = get_or (stretches us) k d in
    let some : b.from < b.to = each-some us k d below in
    let over : b.over ≡ nat_le (b.job.release + allowed) (b.to - 1) =
    All-contains (ByTick allowed) us (b.to - 1, b.over, b.job) (ticks-over w allowed (first_job s) 0 es) (last-told us k d below) in
    over ∙ before-end (b.job.release + allowed) b.to (omega (arith, some))

-- ---- waits

part-early : (allowed : ℕ) (j : Job) (from to : ℕ) → to ≤ j.release + allowed → All (ByResponse allowed) (part false j from to)
part-early allowed j from to early =
    let lt : false ≡ nat_lt (j.release + allowed) to = sym (grind (arith, nat_tests, early)) in
    elim (nat_lt from to) as (λ some. All (ByResponse allowed) (cond some (stretch from to false j ∷ []) [])) [
      | true ↦ All-cons (ByResponse allowed) (stretch from to false j) [] lt (All-nil (ByResponse allowed))
      | false ↦ All-nil (ByResponse allowed)
    ]

part-late : (allowed : ℕ) (j : Job) (from to : ℕ) → j.release + allowed ≤ from → All (ByResponse allowed) (part true j from to)
part-late allowed j from to late = at (nat_lt from to) refl
  where
    at : (some : Bool) → nat_lt from to ≡ some → All (ByResponse allowed) (cond some (stretch from to true j ∷ []) [])
    at true test =
        let lt : nat_lt (j.release + allowed) to ≡ true = grind (arith, nat_tests, test, late) in
        All-cons (ByResponse allowed) (stretch from to true j) [] (sym lt) (All-nil (ByResponse allowed))
    at false test = All-nil (ByResponse allowed)

turn-over : (w : Window) (allowed : ℕ) (j : Job) (b u : ℕ) → All (ByResponse allowed) (turn_waits w (turn allowed j b u))
turn-over w allowed j b u =
    let over_from = j.release + allowed in
    let from = max (max b j.release) w.from in
    All-append (ByResponse allowed) (part false j from (min u over_from)) (part true j (max from over_from) u)
    (part-early allowed j from (min u over_from) (omega arith)) (part-late allowed j (max from over_from) u (omega arith))

turns-over : (w : Window) (allowed : ℕ) (j : Job) (b : ℕ) (es : List (ℕ × AttemptOutcome)) → All (ByResponse allowed) (flat_map (turn_waits w) (turns_after allowed j b es))
turns-over w allowed j b [] = All-nil (ByResponse allowed)
turns-over w allowed j b (e ∷ es) =
    All-append (ByResponse allowed) (turn_waits w (turn allowed j b e.0)) (flat_map (turn_waits w) (turns_after allowed (job_by j e.1) (e.0 + 1) es))
    (turn-over w allowed j b e.0) (turns-over w allowed (job_by j e.1) (e.0 + 1) es)

last-over : (w : Window) (mode : Mode) (allowed : ℕ) (j : Job) (b u : ℕ) → All (ByResponse allowed) (last_wait w mode (turn allowed j b u))
last-over w Active allowed j b u = turn-over w allowed j b u
last-over w (Asleep t) allowed j b u = All-nil (ByResponse allowed)
last-over w Ended allowed j b u = All-nil (ByResponse allowed)
last-over w (Faulted fault) allowed j b u = All-nil (ByResponse allowed)

pub waits-over : (w : Window) (allowed : ℕ) (s : SetTask) (es : List (ℕ × AttemptOutcome)) → All (ByResponse allowed) (waits w allowed s es)
waits-over w allowed s es =
    let j = job_after (first_job s) es in
    let mode = (due w.to (serving_after (first_serving s) es)).mode in
    All-append (ByResponse allowed) (flat_map (turn_waits w) (turns allowed s es)) (last_wait w mode (turn allowed j (behind 0 es) w.to))
    (turns-over w allowed (first_job s) 0 es) (last-over w mode allowed j (behind 0 es) w.to)
