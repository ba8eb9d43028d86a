-- The first deadline that a task missed, by how its server stands between its records.
use Rattle.rt_drawing.proofs.Common.{◌≡◌, ℕ, zero, suc, ◌+◌, ◌-◌, ◌<◌, ◌≤◌, nat_le, nat_lt, max, ◌⊎◌, inl, inr, true, false, cond, Option, None, Some, List, [], ◌∷◌, ◌++◌, refl, sym, ap, ◌∙◌, arith, range_with_len, option_or, cases_lt, nat_tests, Account, Mode, Active, Asleep, Ended, Faulted, AttemptOutcome, Serving, due, after, serving_after, behind}
use Rattle.std.proofs.Common.{if◌then◌else◌}
use Rattle.std.specs.List.{prefix_len, find}
use Rattle.std.specs.Option.{option_map}
use Rattle.rt_server.specs.Arrival.{woken}
use Rattle.rt_history.specs.Serving.{due_in}
use Rattle.rt_drawing.specs.declared.miss.Miss.{Miss}
use Rattle.rt_drawing.specs.Working.Shown.{active_from, miss_from}
use Rattle.rt_drawing.specs.Budgets.{before}
use Rattle.rt_drawing.specs.Misses.{misses, miss, first_of, miss_by, told_miss}
use Rattle.rt_drawing.proofs.ApartLaws.{RisesFrom, behind-above}

-- ---- the first of two

pub or-none : {X : Type 0} (x : Option X) → option_or x None ≡ x
or-none None = refl
or-none (Some x) = refl

pub or-assoc : {X : Type 0} (x y z : Option X) → option_or (option_or x y) z ≡ option_or x (option_or y z)
or-assoc None y z = refl
or-assoc (Some x) y z = refl

-- ---- the first of some ticks

-- at the next tick, or later
first-next : (f : ℕ → Serving) (t : ℕ) (ts : List ℕ) → first_of f (t ∷ ts) ≡ cond (misses t (f t)) (Some (miss t (f t).account)) (first_of f ts)
first-next f t ts =
    elim (misses t (f t)) as (λ b. option_map (λ u. miss u (f u).account) (cond b (Some t) (find (λ u. misses u (f u)) ts)) ≡ cond b (Some (miss t (f t).account)) (first_of f ts)) [
      | true ↦ refl
      | false ↦ refl
    ]

first-append : (f : ℕ → Serving) (ts us : List ℕ) → first_of f (ts ++ us) ≡ option_or (first_of f ts) (first_of f us)
first-append f [] us = refl
first-append f (t ∷ ts) us =
    first-next f t (ts ++ us)
    ∙ elim (misses t (f t)) as (λ b. cond b (Some (miss t (f t).account)) (first_of f (ts ++ us)) ≡ option_or (cond b (Some (miss t (f t).account)) (first_of f ts)) (first_of f us)) [
      | true ↦ refl
      | false ↦ first-append f ts us
    ]
    ∙ ap (λ (m : Option Miss). option_or m (first_of f us)) (sym (first-next f t ts))

-- it depends on how the server stands at these ticks alone
first-same : (f g : ℕ → Serving) (a n : ℕ) → ((t : ℕ) → a ≤ t → t < a + n → f t ≡ g t) → first_of f (range_with_len a n) ≡ first_of g (range_with_len a n)
first-same f g a zero same = refl
first-same f g a (suc n) same =
    let later = first-same f g (a + 1) n (λ t from below. same t (omega (arith, from)) (omega (arith, below))) in
    first-next f a (range_with_len (a + 1) n)
    ∙ ap (λ (m : Option Miss). cond (misses a (f a)) (Some (miss a (f a).account)) m) later
    ∙ ap (λ (s : Serving). cond (misses a s) (Some (miss a s.account)) (first_of g (range_with_len (a + 1) n))) (same a (omega arith) (omega arith))
    ∙ sym (first-next g a (range_with_len (a + 1) n))

pub first-none : (f : ℕ → Serving) (a n : ℕ) → ((t : ℕ) → a ≤ t → t < a + n → misses t (f t) ≡ false) → first_of f (range_with_len a n) ≡ None
first-none f a zero never = refl
first-none f a (suc n) never =
    first-next f a (range_with_len (a + 1) n)
    ∙ ap (λ b. cond b (Some (miss a (f a).account)) (first_of f (range_with_len (a + 1) n))) (never a (omega arith) (omega arith))
    ∙ first-none f (a + 1) n (λ t from below. never t (omega (arith, from)) (omega (arith, below)))

-- a server that misses its deadline from tick k on, and at none before
pub first-from : (f : ℕ → Serving) (a : Account) (k b n : ℕ)
    → ((t : ℕ) → t < k → misses t (f t) ≡ false) → ((t : ℕ) → k ≤ t → f t ≡ record { account = a; mode = Active }) → a.d ≤ k
    → first_of f (range_with_len b n) ≡ (if nat_lt (max b k) (b + n) then Some (miss (max b k) a) else None)
first-from f a k b zero early late above =
    let no : nat_lt (max b k) (b + zero) ≡ false = grind (arith, nat_tests) in
    rw no refl
first-from f a k b (suc n) early late above = first-next f b (range_with_len (b + 1) n) ∙ at (cases_lt b k) (first-from f a k (b + 1) n early late above)
  where
    at : (b < k) ⊎ (k ≤ b) → first_of f (range_with_len (b + 1) n) ≡ (if nat_lt (max (b + 1) k) (b + 1 + n) then Some (miss (max (b + 1) k) a) else None)
        → cond (misses b (f b)) (Some (miss b (f b).account)) (first_of f (range_with_len (b + 1) n)) ≡ (if nat_lt (max b k) (b + suc n) then Some (miss (max b k) a) else None)
    at (inl before) later =
        let next : max (b + 1) k ≡ max b k = omega (arith, before) in
        let last : b + 1 + n ≡ b + suc n = omega arith in
        ap (λ c. cond c (Some (miss b (f b).account)) (first_of f (range_with_len (b + 1) n))) (early b before)
        ∙ later
        ∙ ap (λ (m : ℕ). if nat_lt m (b + 1 + n) then Some (miss m a) else None) next
        ∙ ap (λ (m : ℕ). if nat_lt (max b k) m then Some (miss (max b k) a) else None) last
    at (inr here) later =
        let first : max b k ≡ b = omega (arith, here) in
        let within : nat_lt b (b + suc n) ≡ true = grind (arith, nat_tests) in
        let late_here : nat_le a.d b ≡ true = grind (arith, nat_tests, here, above) in
        ap (λ (s : Serving). cond (misses b s) (Some (miss b s.account)) (first_of f (range_with_len (b + 1) n))) (late b here)
        ∙ rw (late_here, first, within) refl

-- ---- of a server that goes from wake to wake

-- the first tick up to u, the server missing its deadline from tick k on
abbrev pub by_tick : ℕ → ℕ → ℕ → Account → Option Miss
by_tick b u k a = if nat_le (max b k) u then Some (miss (max b k) a) else None

up-to : (b u k : ℕ) → nat_lt (max b k) (b + (u + 1 - b)) ≡ nat_le (max b k) u
up-to b u k =
    elim (cases_lt u (max b k)) [
      | inl later ↦
          let lt : nat_lt (max b k) (b + (u + 1 - b)) ≡ false = grind (arith, nat_tests) in
          let le : nat_le (max b k) u ≡ false = grind (arith, nat_tests) in
          lt ∙ sym le
      | inr here ↦
          let lt : nat_lt (max b k) (b + (u + 1 - b)) ≡ true = grind (arith, nat_tests) in
          let le : nat_le (max b k) u ≡ true = grind (arith, nat_tests) in
          lt ∙ sym le
    ]

by-first : (b u k : ℕ) (a : Account) → (if nat_lt (max b k) (b + (u + 1 - b)) then Some (miss (max b k) a) else None) ≡ by_tick b u k a
by-first b u k a = ap (λ c. if c then Some (miss (max b k) a) else None) (up-to b u k)

pub miss-active : (b u : ℕ) (a : Account) → miss_by b u (record { account = a; mode = Active }) ≡ by_tick b u a.d a
miss-active b u a =
    first-from (λ t. record { account = a; mode = Active }) a a.d b (u + 1 - b)
    (λ t early. grind (arith, nat_tests, early)) (λ t late. refl) (omega arith)
    ∙ by-first b u a.d a

miss-asleep : (b u w : ℕ) (a : Account) → miss_by b u (record { account = a; mode = Asleep w }) ≡ by_tick b u (max w (woken w a).d) (woken w a)
miss-asleep b u w a =
    first-from (λ t. due_in t (Asleep w) a) (woken w a) (max w (woken w a).d) b (u + 1 - b) early late (omega arith)
    ∙ by-first b u (max w (woken w a).d) (woken w a)
  where
    early : (t : ℕ) → t < max w (woken w a).d → misses t (due_in t (Asleep w) a) ≡ false
    early t below = at (cases_lt t w)
      where
        at : (t < w) ⊎ (w ≤ t) → misses t (due_in t (Asleep w) a) ≡ false
        at (inl sleeps) =
            let no : nat_le w t ≡ false = grind (arith, nat_tests) in
            rw no refl
        at (inr wakes) =
            let yes : nat_le w t ≡ true = grind (arith, nat_tests) in
            let before : nat_le (woken w a).d t ≡ false = grind (arith, nat_tests, below, wakes) in
            rw (yes, before) refl

    late : (t : ℕ) → max w (woken w a).d ≤ t → due_in t (Asleep w) a ≡ record { account = woken w a; mode = Active }
    late t above =
        let yes : nat_le w t ≡ true = grind (arith, nat_tests, above) in
        rw yes refl

-- by when it is active, and its account at tick u
from-in : (b u : ℕ) (mode : Mode) (a : Account) → miss_from (active_from b mode) u (due_in u mode a).account ≡ miss_by b u (record { account = a; mode = mode })
from-in b u Active a = sym (miss-active b u a)
from-in b u (Asleep w) a = at (cases_lt u w) ∙ sym (miss-asleep b u w a)
  where
    at : (u < w) ⊎ (w ≤ u) → miss_from (Some (max b w)) u (due_in u (Asleep w) a).account ≡ by_tick b u (max w (woken w a).d) (woken w a)
    at (inl sleeps) =
        let no : nat_le w u ≡ false = grind (arith, nat_tests) in
        let first : nat_le (max (max b w) a.d) u ≡ false = grind (arith, nat_tests) in
        let last : nat_le (max b (max w (woken w a).d)) u ≡ false = grind (arith, nat_tests) in
        rw (no, first, last) refl
    at (inr wakes) =
        let yes : nat_le w u ≡ true = grind (arith, nat_tests) in
        let same : max (max b w) (woken w a).d ≡ max b (max w (woken w a).d) = omega arith in
        rw (yes, same) refl
from-in b u Ended a = sym (first-none (λ t. record { account = a; mode = Ended }) b (u + 1 - b) (λ t from below. refl))
from-in b u (Faulted fault) a = sym (first-none (λ t. record { account = a; mode = Faulted fault }) b (u + 1 - b) (λ t from below. refl))

pub miss_from_is : (b u : ℕ) (s : Serving) → miss_from (active_from b s.mode) u (due u s).account ≡ miss_by b u s
miss_from_is b u s = from-in b u s.mode s.account

-- ---- along a task's own records

-- one record more
pub told_miss-more : (b : ℕ) (s : Serving) (es : List (ℕ × AttemptOutcome)) (u : ℕ) (o : AttemptOutcome)
    → told_miss b s (es ++ (u, o) ∷ []) ≡ option_or (told_miss b s es) (miss_by (behind b es) u (serving_after s es))
told_miss-more b s [] u o = or-none (miss_by b u s)
told_miss-more b s (e ∷ es) u o =
    let next = after e.0 e.1 (due e.0 s).account in
    ap (option_or (miss_by b e.0 s)) (told_miss-more (e.0 + 1) next es u o)
    ∙ sym (or-assoc (miss_by b e.0 s) (told_miss (e.0 + 1) next es) (miss_by (behind (e.0 + 1) es) u (serving_after next es)))

range-parts : (a m n : ℕ) → range_with_len a (m + n) ≡ range_with_len a m ++ range_with_len (a + m) n
range-parts a zero n =
    let none : zero + n ≡ n = omega arith in
    let same : a + zero ≡ a = omega arith in
    rw (none, same) refl
range-parts a (suc m) n =
    let more : suc m + n ≡ suc (m + n) = omega arith in
    let next : a + 1 + m ≡ a + suc m = omega arith in
    rw more (ap (λ (ts : List ℕ). a ∷ ts) (range-parts (a + 1) m n ∙ ap (λ (k : ℕ). range_with_len (a + 1) m ++ range_with_len k n) next))

-- how the server stands at each tick, the records before it told
abbrev stands : Serving → List (ℕ × AttemptOutcome) → ℕ → Serving
stands s es t = due t (serving_after s (before t es))

stands-first : (s : Serving) (e : ℕ × AttemptOutcome) (es : List (ℕ × AttemptOutcome)) (t : ℕ) → t < e.0 + 1 → stands s (e ∷ es) t ≡ due t s
stands-first s e es t early =
    let no : nat_lt e.0 t ≡ false = grind (arith, nat_tests, early) in
    rw no refl

stands-later : (s : Serving) (e : ℕ × AttemptOutcome) (es : List (ℕ × AttemptOutcome)) (t : ℕ) → e.0 + 1 ≤ t
    → stands s (e ∷ es) t ≡ stands (after e.0 e.1 (due e.0 s).account) es t
stands-later s e es t late =
    let yes : nat_lt e.0 t ≡ true = grind (arith, nat_tests, late) in
    let more : 1 + prefix_len (λ (x : ℕ × AttemptOutcome). nat_lt x.0 t) es ≡ suc (prefix_len (λ (x : ℕ × AttemptOutcome). nat_lt x.0 t) es) = omega arith in
    rw (yes, more) refl

-- records of rising ticks up to a tick, and the ticks behind the last of them
pub told_miss-whole : (b to : ℕ) (s : Serving) (es : List (ℕ × AttemptOutcome)) → 1 ≤ to → RisesFrom b es → behind b es ≤ to
    → option_or (told_miss b s es) (miss_by (behind b es) (to - 1) (serving_after s es)) ≡ first_of (stands s es) (range_with_len b (to - b))
told_miss-whole b to s [] some rises within =
    let last : to - 1 + 1 - b ≡ to - b = omega (arith, some) in
    ap (λ (n : ℕ). first_of (λ t. due t s) (range_with_len b n)) last
told_miss-whole b to s (e ∷ es) some (first, later) within =
    let next = after e.0 e.1 (due e.0 s).account in
    let all = stands s (e ∷ es) in
    let above : e.0 + 1 ≤ behind (e.0 + 1) es = behind-above (e.0 + 1) es later in
    let m : ℕ = e.0 + 1 - b in
    let n : ℕ = to - (e.0 + 1) in
    let sum : to - b ≡ m + n = omega (arith, first, above, within) in
    let at : b + m ≡ e.0 + 1 = omega (arith, first) in
    let rest : first_of all (range_with_len (e.0 + 1) n) ≡ first_of (stands next es) (range_with_len (e.0 + 1) n) =
    first-same all (stands next es) (e.0 + 1) n (λ t from below. stands-later s e es t from) in
    let front : first_of all (range_with_len b m) ≡ miss_by b e.0 s =
    first-same all (λ t. due t s) b m (λ t from below. stands-first s e es t (omega (arith, below, at))) in
    or-assoc (miss_by b e.0 s) (told_miss (e.0 + 1) next es) (miss_by (behind (e.0 + 1) es) (to - 1) (serving_after next es))
    ∙ ap (option_or (miss_by b e.0 s)) (told_miss-whole (e.0 + 1) to next es some later within ∙ sym rest)
    ∙ ap (λ (x : Option Miss). option_or x (first_of all (range_with_len (e.0 + 1) n))) (sym front)
    ∙ sym (ap (λ (k : ℕ). first_of all (range_with_len b k)) sum ∙ ap (first_of all) (range-parts b m n) ∙ first-append all (range_with_len b m) (range_with_len (b + m) n)
    ∙ ap (λ (k : ℕ). option_or (first_of all (range_with_len b m)) (first_of all (range_with_len k n))) at)
