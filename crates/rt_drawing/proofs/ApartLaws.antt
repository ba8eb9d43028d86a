-- A task's own ticks are in none of its waits.
use Rattle.rt_drawing.proofs.Common.{ℕ, suc, ◌+◌, ◌<◌, ◌≤◌, ◌==◌, nat_lt, max, inl, inr, Bool, true, false, cond, List, [], ◌∷◌, ◌++◌, length, get_or, arith, flat_map, SetTask, Mode, Active, Asleep, Ended, Faulted, AttemptOutcome, Record, Idle, Busy, first_serving, due, Job, first_job, job_by, job_after, own, own_from, serving_after, Stretch, Window, stretch, behind, Turn, turns_after, wait}
use Rattle.std.proofs.Common.{min, All}
use Rattle.std.proofs.lemmas.List.Elements.{All-nil, All-cons, All-append, All-weaker}
use Rattle.rt_drawing.specs.Waits.{part, turn, turn_waits, last_wait, waits, IsOutside}

-- ---- records of rising ticks, from b on

abbrev pub RisesFrom : ℕ → List (ℕ × AttemptOutcome) → Type 0
RisesFrom b [] = Unit {0}
RisesFrom b (e ∷ es) = (b ≤ e.0) × RisesFrom (e.0 + 1) es

rises-earlier : (b : ℕ) (es : List (ℕ × AttemptOutcome)) → RisesFrom (b + 1) es → RisesFrom b es
rises-earlier b [] rises = tt
rises-earlier b (e ∷ es) (first, later) = (omega (arith, first), later)

pub own-rises : (u i : ℕ) (h : List Record) → RisesFrom u (own_from u i h)
own-rises u i [] = tt
own-rises u i (Idle ∷ h) = rises-earlier u (own_from (u + 1) i h) (own-rises (u + 1) i h)
own-rises u i (Busy a ∷ h) =
    let later = own_from (u + 1) i h in
    elim (a.task == i) as (λ b. RisesFrom u (cond b ((u, a.outcome) ∷ later) later)) [
      | true ↦ (omega arith, own-rises (u + 1) i h)
      | false ↦ rises-earlier u later (own-rises (u + 1) i h)
    ]

all-above : (b : ℕ) (es : List (ℕ × AttemptOutcome)) → RisesFrom b es → All (λ e. b ≤ e.0) es
all-above b [] rises = All-nil (λ e. b ≤ e.0)
all-above b (e ∷ es) (first, later) =
    All-cons (λ f. b ≤ f.0) e es first (All-weaker (λ f. e.0 + 1 ≤ f.0) (λ f. b ≤ f.0) (λ f above. omega (arith, first, above)) es (all-above (e.0 + 1) es later))

pub behind-above : (b : ℕ) (es : List (ℕ × AttemptOutcome)) → RisesFrom b es → b ≤ behind b es
behind-above b [] rises = omega arith
behind-above b (e ∷ es) (first, later) = omega (arith, first, behind-above (e.0 + 1) es later)

all-below : (b : ℕ) (es : List (ℕ × AttemptOutcome)) → RisesFrom b es → All (λ e. e.0 < behind b es) es
all-below b [] rises = All-nil (λ e. e.0 < b)
all-below b (e ∷ es) (first, later) =
    All-cons (λ f. f.0 < behind (e.0 + 1) es) e es (omega (arith, behind-above (e.0 + 1) es later)) (all-below (e.0 + 1) es later)

-- and none comes behind its history
pub behind-within : (u i : ℕ) (h : List Record) → behind u (own_from u i h) ≤ u + length h
behind-within u i h = within u u h (omega arith)
  where
    within : (b u : ℕ) (h : List Record) → b ≤ u → behind b (own_from u i h) ≤ u + length h
    within b u [] before = omega (arith, before)
    within b u (Idle ∷ h) before = omega (arith, within b (u + 1) h (omega (arith, before)))
    within b u (Busy a ∷ h) before =
        let later = own_from (u + 1) i h in
        elim (a.task == i) as (λ c. behind b (cond c ((u, a.outcome) ∷ later) later) ≤ u + suc (length h)) [
          | true ↦ omega (arith, within (u + 1) (u + 1) h (omega arith))
          | false ↦ omega (arith, within b (u + 1) h (omega (arith, before)))
        ]

-- ---- where waits lie

abbrev Within : ℕ → ℕ → Stretch → Type 0
Within from to x = (from ≤ x.from) × (x.to ≤ to)

abbrev Behind : ℕ → Stretch → Type 0
Behind from x = from ≤ x.from

part-within : (over : Bool) (j : Job) (from to a b : ℕ) → a ≤ from → to ≤ b → All (Within a b) (part over j from to)
part-within over j from to a b begins ends =
    elim (nat_lt from to) as (λ some. All (Within a b) (cond some (stretch from to over j ∷ []) [])) [
      | true ↦ All-cons (Within a b) (stretch from to over j) [] (begins, ends) (All-nil (Within a b))
      | false ↦ All-nil (Within a b)
    ]

wait-within : (w : Window) (t : Turn) (b : ℕ) → b ≤ t.since → All (Within b t.tick) (turn_waits w t)
wait-within w t b after =
    let from = max t.since w.from in
    All-append (Within b t.tick) (part false t.job from (min t.tick t.over_from)) (part true t.job (max from t.over_from) t.tick)
    (part-within false t.job from (min t.tick t.over_from) b t.tick (omega (arith, after)) (omega arith))
    (part-within true t.job (max from t.over_from) t.tick b t.tick (omega (arith, after)) (omega arith))

last-behind : (w : Window) (mode : Mode) (t : Turn) → All (Behind t.since) (last_wait w mode t)
last-behind w Active t =
    All-weaker (Within t.since t.tick) (Behind t.since) (λ x within. within.0) (turn_waits w t) (wait-within w t t.since (omega arith))
last-behind w (Asleep u) t = All-nil (Behind t.since)
last-behind w Ended t = All-nil (Behind t.since)
last-behind w (Faulted fault) t = All-nil (Behind t.since)

abbrev turned : Window → ℕ → Job → ℕ → List (ℕ × AttemptOutcome) → List Stretch
turned w allowed j b es = flat_map (turn_waits w) (turns_after allowed j b es)

first-within : (w : Window) (allowed : ℕ) (j : Job) (b to : ℕ) → All (Within b to) (turn_waits w (turn allowed j b to))
first-within w allowed j b to = wait-within w (turn allowed j b to) b (omega arith)

all-behind : (w : Window) (allowed : ℕ) (j : Job) (b : ℕ) (es : List (ℕ × AttemptOutcome)) → RisesFrom b es → All (Behind b) (turned w allowed j b es)
all-behind w allowed j b [] rises = All-nil (Behind b)
all-behind w allowed j b (e ∷ es) (first, later) =
    let here = turn_waits w (turn allowed j b e.0) in
    let others = turned w allowed (job_by j e.1) (e.0 + 1) es in
    All-append (Behind b) here others
    (All-weaker (Within b e.0) (Behind b) (λ x within. within.0) here (first-within w allowed j b e.0))
    (All-weaker (Behind (e.0 + 1)) (Behind b) (λ x behind. omega (arith, first, behind)) others (all-behind w allowed (job_by j e.1) (e.0 + 1) es later))

-- ---- and own ticks

turned-apart : (w : Window) (allowed : ℕ) (j : Job) (b : ℕ) (es : List (ℕ × AttemptOutcome)) → RisesFrom b es
    → All (λ e. All (IsOutside e.0) (turned w allowed j b es)) es
turned-apart w allowed j b [] rises = All-nil (λ e. All (IsOutside e.0) (turned w allowed j b []))
turned-apart w allowed j b (e ∷ es) (first, later) =
    let here = turn_waits w (turn allowed j b e.0) in
    let within = first-within w allowed j b e.0 in
    let others = turned w allowed (job_by j e.1) (e.0 + 1) es in
    let behind = all-behind w allowed (job_by j e.1) (e.0 + 1) es later in
    let apart = turned-apart w allowed (job_by j e.1) (e.0 + 1) es later in
    let above = all-above (e.0 + 1) es later in
    All-cons (λ f. All (IsOutside f.0) (here ++ others)) e es
    (All-append (IsOutside e.0) here others
    (All-weaker (Within b e.0) (IsOutside e.0) (λ x inside. inr inside.1) here within)
    (All-weaker (Behind (e.0 + 1)) (IsOutside e.0) (λ x after. inl (omega (arith, after))) others behind))
    (λ k d below. All-append (IsOutside (get_or es k d).0) here others
    (All-weaker (Within b e.0) (IsOutside (get_or es k d).0) (λ x inside. inr (omega (arith, inside.1, above k d below))) here within)
    (apart k d below))

last-apart : (t : ℕ) (es : List (ℕ × AttemptOutcome)) (last : List Stretch) → All (λ e. e.0 < t) es → All (Behind t) last → All (λ e. All (IsOutside e.0) last) es
last-apart t es last before behind =
    λ k d below. All-weaker (Behind t) (IsOutside (get_or es k d).0) (λ x after. inl (omega (arith, before k d below, after))) last behind

pub waits-apart : (w : Window) (allowed : ℕ) (s : SetTask) (h : List Record) (i : ℕ) → All (λ e. All (IsOutside e.0) (waits w allowed s (own i h))) (own i h)
waits-apart w allowed s h i =
    let es = own i h in
    let rises = own-rises 0 i h in
    let next = turn allowed (job_after (first_job s) es) (behind 0 es) w.to in
    let mode = (due w.to (serving_after (first_serving s) es)).mode in
    let last = last_wait w mode next in
    let all = turned w allowed (first_job s) 0 es in
    let apart = turned-apart w allowed (first_job s) 0 es rises in
    let behind_all : All (Behind (behind 0 es)) last =
    All-weaker (Behind next.since) (Behind (behind 0 es)) (λ x after. omega (arith, after)) last (last-behind w mode next) in
    let still = last-apart (behind 0 es) es last (all-below 0 es rises) behind_all in
    λ k d below. All-append (IsOutside (get_or es k d).0) all last (apart k d below) (still k d below)
