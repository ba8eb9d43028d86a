-- Stretches, one tick more.
use Rattle.rt_drawing.proofs.Common.{◌≡◌, ℕ, zero, suc, ◌+◌, ◌<◌, ◌≤◌, ◌==◌, nat_le, nat_lt, max, ◌⊎◌, inl, inr, Bool, true, false, ◌&&◌, cond, List, [], ◌∷◌, ◌++◌, length, get_or, refl, sym, ap, ◌∙◌, arith, cases_lt, nat_tests, append-nil, Job, ticked, Stretch, Window, stretch, Turn, alike, stretches, shown_ticks}
use Rattle.std.proofs.Common.{◌≢◌, set, map, filter}
use Rattle.std.specs.Bool.{beq}
use Rattle.std.proofs.lemmas.Bool.{true≢false, false≢true}
use Rattle.std.proofs.lemmas.List.{map-append}
use Rattle.std.proofs.lemmas.List.Elements.{filter-append}
use Rattle.rt_drawing.specs.Waits.{is_over}
use Rattle.rt_drawing.specs.Stretches.{tick_before, turn_tick}
use Rattle.rt_drawing.specs.Drawn.{goes_on, ticks_behind, shown_behind}

-- ---- over the period, both or neither, and of one job

same-over : (a b : Bool) → beq a b ≡ true → a ≡ b
same-over true true is = refl
same-over false false is = refl
same-over true false is = absurd (false≢true is)
same-over false true is = absurd (false≢true is)

other-over : (a b : Bool) → beq a b ≡ false → a ≢ b
other-over true true is = absurd (true≢false is)
other-over false false is = absurd (true≢false is)
other-over true false is = true≢false
other-over false true is = false≢true

pub both-left : (a b : Bool) → (a && b) ≡ true → a ≡ true
both-left true b both = refl
both-left false b both = absurd (false≢true both)

pub both-right : (a b : Bool) → (a && b) ≡ true → b ≡ true
both-right true b both = both
both-right false b both = absurd (false≢true both)

ends-there : (u : ℕ) → (u == u) ≡ true
ends-there u = grind (arith, nat_tests)

same-number : (m n : ℕ) → (m == n) ≡ true → m ≡ n
same-number m n is = grind (arith, nat_tests, is)

other-number : (m n : ℕ) → (m == n) ≡ false → m ≢ n
other-number m n is same = true≢false (sym (ap (λ (k : ℕ). m == k) (sym same) ∙ ends-there m) ∙ is)

alike-self : (b : Bool) (n : ℕ) → alike b n b n ≡ true
alike-self true n = ends-there n
alike-self false n = ends-there n

pub alike-over : (a b : Bool) (m n : ℕ) → alike a m b n ≡ true → a ≡ b
alike-over a b m n is = same-over a b (both-left (beq a b) (m == n) is)

pub alike-number : (a b : Bool) (m n : ℕ) → alike a m b n ≡ true → m ≡ n
alike-number a b m n is = same-number m n (both-right (beq a b) (m == n) is)

pub alike-apart : (a b : Bool) (m n : ℕ) → alike a m b n ≡ false → (a ≢ b) ⊎ (m ≢ n)
alike-apart a b m n = apart (beq a b) refl
  where
    apart : (same : Bool) → beq a b ≡ same → (same && m == n) ≡ false → (a ≢ b) ⊎ (m ≢ n)
    apart true is test = inr (other-number m n test)
    apart false is test = inl (other-over a b is)

-- what is alike is alike to the same
alike-through : (c a b : Bool) (l m n : ℕ) → alike a m b n ≡ true → alike c l b n ≡ alike c l a m
alike-through c a b l m n is =
    ap (λ (x : Bool). alike c l x n) (sym (alike-over a b m n is)) ∙ ap (λ (k : ℕ). alike c l a k) (sym (alike-number a b m n is))

-- ---- the definition, one tick more

-- a tick behind stretches
abbrev tick_behind : ℕ → Bool → Job → List Stretch → List Stretch
tick_behind u over j xs = ticks_behind u (u + 1) over j xs

turned : (v u : ℕ) → (u == v + 1) ≡ (v + 1 == u)
turned v u = grind (arith, nat_tests)

-- two ticks
two : (v u : ℕ) (c b : Bool) (i j : Job) → tick_before (v, c, i) (tick_behind u b j []) ≡ tick_behind u b j (tick_before (v, c, i) [])
two v u c b i j =
    ap (λ (next : Bool). cond (next && alike c i.number b j.number) (stretch v (u + 1) b j ∷ []) (stretch v (v + 1) c i ∷ stretch u (u + 1) b j ∷ [])) (turned v u)

-- a tick before one stretch and one behind it
around : (v u : ℕ) (c b : Bool) (i j : Job) (s : Stretch) (joins first : Bool) → goes_on s u b j.number ≡ joins → (s.from == v + 1 && alike c i.number s.over s.job.number) ≡ first
    → tick_before (v, c, i) (tick_behind u b j (s ∷ [])) ≡ tick_behind u b j (tick_before (v, c, i) (s ∷ []))
around v u c b i j s true first e f = at first f
  where
    through : alike c i.number b j.number ≡ alike c i.number s.over s.job.number
    through = alike-through c s.over b i.number s.job.number j.number (both-right (s.to == u) (alike s.over s.job.number b j.number) e)

    joined : (s.from == v + 1 && alike c i.number b j.number) ≡ (s.from == v + 1 && alike c i.number s.over s.job.number)
    joined = ap (λ (same : Bool). s.from == v + 1 && same) through

    at : (first : Bool) → (s.from == v + 1 && alike c i.number s.over s.job.number) ≡ first
        → tick_before (v, c, i) (tick_behind u b j (s ∷ [])) ≡ tick_behind u b j (tick_before (v, c, i) (s ∷ []))
    at true test = rw (e, joined, test, e) refl
    at false test = rw (e, joined, test, e) refl
around v u c b i j s false true e f = rw (e, f, e) refl
around v u c b i j s false false e f = rw (e, f, e) refl

before-behind : (v u : ℕ) (c b : Bool) (i j : Job) (xs : List Stretch) → tick_before (v, c, i) (tick_behind u b j xs) ≡ tick_behind u b j (tick_before (v, c, i) xs)
before-behind v u c b i j [] = two v u c b i j
before-behind v u c b i j (s ∷ []) = around v u c b i j s (goes_on s u b j.number) (s.from == v + 1 && alike c i.number s.over s.job.number) refl refl
before-behind v u c b i j (s ∷ x ∷ later) =
    elim (s.from == v + 1 && alike c i.number s.over s.job.number) as (λ first. cond first (stretch v s.to s.over s.job ∷ tick_behind u b j (x ∷ later)) (stretch v (v + 1) c i ∷ s ∷ tick_behind u b j (x ∷ later))
    ≡ tick_behind u b j (cond first (stretch v s.to s.over s.job ∷ x ∷ later) (stretch v (v + 1) c i ∷ s ∷ x ∷ later))) [ true ↦ refl | false ↦ refl ]

stretches-more : (us : List (ℕ × Bool × Job)) (u : ℕ) (b : Bool) (j : Job) → stretches (us ++ (u, b, j) ∷ []) ≡ tick_behind u b j (stretches us)
stretches-more [] u b j = refl
stretches-more ((v, c, i) ∷ us) u b j = ap (tick_before (v, c, i)) (stretches-more us u b j) ∙ before-behind v u c b i j (stretches us)

-- ---- ticks at once

-- the first of two stretches or more is left alone
behind-second : (u from to : ℕ) (b : Bool) (i j : Job) (s x : Stretch) (later : List Stretch)
    → tick_behind u b i (s ∷ ticks_behind from to b j (x ∷ later)) ≡ s ∷ tick_behind u b i (ticks_behind from to b j (x ∷ later))
behind-second u from to b i j s x [] =
    elim (goes_on x from b j.number) as (λ joins. tick_behind u b i (s ∷ cond joins (stretch x.from to b j ∷ []) (x ∷ stretch from to b j ∷ []))
    ≡ s ∷ tick_behind u b i (cond joins (stretch x.from to b j ∷ []) (x ∷ stretch from to b j ∷ []))) [ true ↦ refl | false ↦ refl ]
behind-second u from to b i j s x (y ∷ later) = refl

-- one tick more of them, and of their job
ticks-more : (from to n : ℕ) (b : Bool) (j : Job) (xs : List Stretch)
    → tick_behind to b (ticked (n + 1) j) (ticks_behind from to b (ticked n j) xs) ≡ ticks_behind from (to + 1) b (ticked (n + 1) j) xs
ticks-more from to n b j [] = rw (ends-there to, alike-self b j.number) refl
ticks-more from to n b j (s ∷ []) =
    elim (goes_on s from b j.number) as (λ joins. tick_behind to b (ticked (n + 1) j) (cond joins (stretch s.from to b (ticked n j) ∷ []) (s ∷ stretch from to b (ticked n j) ∷ []))
    ≡ cond joins (stretch s.from (to + 1) b (ticked (n + 1) j) ∷ []) (s ∷ stretch from (to + 1) b (ticked (n + 1) j) ∷ [])) [
      | true ↦ rw (ends-there to, alike-self b j.number) refl
      | false ↦ rw (ends-there to, alike-self b j.number) refl
    ]
ticks-more from to n b j (s ∷ x ∷ later) =
    behind-second to from to b (ticked (n + 1) j) (ticked n j) s x later ∙ ap (λ (xs : List Stretch). s ∷ xs) (ticks-more from to n b j (x ∷ later))

-- one tick that is shown
abbrev shown_one : Window → ℕ → Bool → Job → List Stretch → List Stretch
shown_one w u over j xs = cond (nat_le w.from u) (tick_behind u over j xs) xs

shown-first : (w : Window) (u : ℕ) (b : Bool) (j : Job) (xs : List Stretch) → shown_one w u b j xs ≡ shown_behind w u (u + 1) b j xs
shown-first w u b j xs =
    elim (cases_lt w.from (u + 1)) [
      | inl shown ↦
          let le : nat_le w.from u ≡ true = grind (arith, nat_tests) in
          let lt : nat_lt w.from (u + 1) ≡ true = grind (arith, nat_tests) in
          let later : max w.from u ≡ u = omega (arith, shown) in
          rw (le, lt, later) refl
      | inr out ↦
          let le : nat_le w.from u ≡ false = grind (arith, nat_tests) in
          let lt : nat_lt w.from (u + 1) ≡ false = grind (arith, nat_tests) in
          rw (le, lt) refl
    ]

-- one turn more of a task
pub shown-more : (w : Window) (ts : List Turn) (t : Turn)
    → stretches (shown_ticks w (ts ++ t ∷ [])) ≡ shown_behind w t.tick (t.tick + 1) (is_over t) (ticked 1 t.job) (stretches (shown_ticks w ts))
shown-more w ts t =
    let us = shown_ticks w ts in
    let parts : shown_ticks w (ts ++ t ∷ []) ≡ us ++ filter (λ (e : ℕ × Bool × Job). nat_le w.from e.0) (turn_tick t ∷ []) =
    ap (filter (λ (e : ℕ × Bool × Job). nat_le w.from e.0)) (map-append turn_tick ts (t ∷ []))
    ∙ filter-append (λ (e : ℕ × Bool × Job). nat_le w.from e.0) (map turn_tick ts) (turn_tick t ∷ []) in
    ap stretches parts
    ∙ elim (nat_le w.from t.tick) as (λ b. stretches (us ++ cond b (turn_tick t ∷ []) []) ≡ cond b (tick_behind t.tick (is_over t) (ticked 1 t.job) (stretches us)) (stretches us)) [
      | true ↦ stretches-more us t.tick (is_over t) (ticked 1 t.job)
      | false ↦ ap stretches (append-nil us)
    ]
    ∙ shown-first w t.tick (is_over t) (ticked 1 t.job) (stretches us)

shown-later : (w : Window) (u to n : ℕ) (b : Bool) (j : Job) (xs : List Stretch) → u ≤ to
    → shown_one w to b (ticked (n + 1) j) (shown_behind w u to b (ticked n j) xs) ≡ shown_behind w u (to + 1) b (ticked (n + 1) j) xs
shown-later w u to n b j xs after =
    elim (cases_lt w.from to) [
      | inl shown ↦
          let le : nat_le w.from to ≡ true = grind (arith, nat_tests) in
          let lt : nat_lt w.from to ≡ true = grind (arith, nat_tests) in
          let next : nat_lt w.from (to + 1) ≡ true = grind (arith, nat_tests) in
          rw (le, lt, next) (ticks-more (max w.from u) to n b j xs)
      | inr out ↦
          let lt : nat_lt w.from to ≡ false = grind (arith, nat_tests) in
          rw lt (first (cases_lt to w.from) out)
    ]
  where
    first : (to < w.from) ⊎ (w.from ≤ to) → to ≤ w.from → shown_one w to b (ticked (n + 1) j) xs ≡ shown_behind w u (to + 1) b (ticked (n + 1) j) xs
    first (inl before) out =
        let le : nat_le w.from to ≡ false = grind (arith, nat_tests) in
        let next : nat_lt w.from (to + 1) ≡ false = grind (arith, nat_tests) in
        rw (le, next) refl
    first (inr here) out =
        let le : nat_le w.from to ≡ true = grind (arith, nat_tests) in
        let next : nat_lt w.from (to + 1) ≡ true = grind (arith, nat_tests) in
        let begins : max w.from u ≡ to = omega (arith, here, out, after) in
        rw (le, next, begins) refl

pub shown-next : (w : Window) (u to n : ℕ) (b : Bool) (j : Job) (xs : List Stretch) → u ≤ to
    → shown_behind w to (to + 1) b (ticked (n + 1) j) (shown_behind w u to b (ticked n j) xs) ≡ shown_behind w u (to + 1) b (ticked (n + 1) j) xs
shown-next w u to n b j xs after =
    sym (shown-first w to b (ticked (n + 1) j) (shown_behind w u to b (ticked n j) xs)) ∙ shown-later w u to n b j xs after

-- ---- by the last of them

pub ticks_behind-joins : (from to n : ℕ) (b : Bool) (j : Job) (xs : List Stretch) (d : Stretch) → n + 1 ≡ length xs → goes_on (get_or xs n d) from b j.number ≡ true
    → set xs n (stretch (get_or xs n d).from to b j) ≡ ticks_behind from to b j xs
ticks_behind-joins from to n b j [] d last goes = absurd (omega (arith, last))
ticks_behind-joins from to zero b j (s ∷ []) d last goes = rw goes refl
ticks_behind-joins from to (suc n) b j (s ∷ []) d last goes = absurd (omega (arith, last))
ticks_behind-joins from to zero b j (s ∷ x ∷ later) d last goes = absurd (omega (arith, last))
ticks_behind-joins from to (suc n) b j (s ∷ x ∷ later) d last goes =
    ap (λ (xs : List Stretch). s ∷ xs) (ticks_behind-joins from to n b j (x ∷ later) d (omega (arith, last)) goes)

pub ticks_behind-parts : (from to n : ℕ) (b : Bool) (j : Job) (xs : List Stretch) (d : Stretch) → n + 1 ≡ length xs → goes_on (get_or xs n d) from b j.number ≡ false
    → xs ++ stretch from to b j ∷ [] ≡ ticks_behind from to b j xs
ticks_behind-parts from to n b j [] d last parts = absurd (omega (arith, last))
ticks_behind-parts from to zero b j (s ∷ []) d last parts = rw parts refl
ticks_behind-parts from to (suc n) b j (s ∷ []) d last parts = absurd (omega (arith, last))
ticks_behind-parts from to zero b j (s ∷ x ∷ later) d last parts = absurd (omega (arith, last))
ticks_behind-parts from to (suc n) b j (s ∷ x ∷ later) d last parts =
    ap (λ (xs : List Stretch). s ∷ xs) (ticks_behind-parts from to n b j (x ∷ later) d (omega (arith, last)) parts)

pub ticks_behind-first : (from to : ℕ) (b : Bool) (j : Job) (xs : List Stretch) → length xs ≡ 0 → xs ++ stretch from to b j ∷ [] ≡ ticks_behind from to b j xs
ticks_behind-first from to b j [] none = refl
ticks_behind-first from to b j (s ∷ xs) none = absurd (omega (arith, none))
