-- Supply: after a fresh wake at r, while the task goes on, its deadline is r and some periods, and its own records since r and its current
-- budget make as many budgets. As the current budget fits before the deadline, k periods have held k budgets.
use Rattle.rt_laws.proofs.Common.{◌≡◌, ℕ, suc, ◌+◌, ◌-◌, ◌*◌, ◌<◌, ◌≤◌, nat_le, nat_lt, Bool, true, false, ◌&&◌, List, [], ◌∷◌, ◌++◌, length, slice_get, All, Some, refl, sym, ap, subst, ◌∙◌, append-nil, arith, mul-le-mul_right, cond-true, le-leb, and_from, All-head, All-tail, Account, coming, wakes_fresh, spent, reserved, Fits, SetTask, TaskSet, Active, Asleep, AttemptOutcome, End, Sleep, Yield, Reserve, Fault, IsAdmittedSet, TaskFits, Serving, first_serving, due, mode_after, charged, after, own, serving_after, task_state, legal, state_at, serving_after-append, state-of}
use Rattle.std.proofs.Common.{filter}
use Rattle.std.proofs.Math.Nat.{lt_of_mul-lt-mul_right}
use Rattle.std.proofs.lemmas.Bool.{lt-ltb, lt-leb, le-ltb, and_left, and_right}
use Rattle.std.proofs.lemmas.List.Elements.{filter-append}
use Rattle.rt_history.proofs.ServingLaws.{asleep_is_not_active, period-stays, due-active, due-fresh}
use Rattle.rt_laws.specs.Supply.{serving_before, WakesFresh, records_at, goes_on, CompetesFor, budget_from, IsSupplied}
use Rattle.rt_laws.proofs.Accounts.{spent_cases}
use Rattle.rt_laws.proofs.Totals.{Each, Each-more, Each-at}
use Rattle.rt_laws.proofs.Fitting.{each_fits}
use Rattle.rt_laws.proofs.OwnParts.{FitsAlong, fits_along, comes-at, AreWithin, Grown, grown, own-within}

-- ---- one server

-- after n records since a fresh wake at r
pub record Supplied (r q p n : ℕ) (v : Serving) : Type 0 where
  pub periods : ℕ
  pub active : v.mode ≡ Active
  pub budget : v.account.q ≡ q
  pub period : v.account.p ≡ p
  pub deadline : v.account.d ≡ r + (periods + 1) * p
  pub count : n + v.account.c ≡ (periods + 1) * q
  pub some : 1 ≤ v.account.c
  pub within : v.account.c ≤ q

-- a record with which a task goes on leaves it active
goes-active : (u : ℕ) (outcome : AttemptOutcome) → goes_on (u, outcome) ≡ true → mode_after u outcome ≡ Active
goes-active u Yield on = absurd cc
goes-active u End on = absurd cc
goes-active u (Fault fault) on = absurd cc
goes-active u (Sleep w) on = cond-true (nat_le w u) Active (Asleep w) on
goes-active u _ on = refl

-- and takes a tick of its budget, whether it reserves another or not
goes-charged : (P : Account → Type 0) (u : ℕ) (outcome : AttemptOutcome) (a : Account) → goes_on (u, outcome) ≡ true → P (spent a)
    → ((x : ℕ) → P (reserved x (spent a))) → P (charged outcome a)
goes-charged P u Yield a on spends reserves = absurd cc
goes-charged P u (Reserve x) a on spends reserves = reserves x
goes-charged P u _ a on spends reserves = spends

supplied-spent : (r q p n : ℕ) (v : Serving) → 1 ≤ q → Supplied r q p n v → Supplied r q p (n + 1) (record { account = spent v.account; mode = Active })
supplied-spent r q p n v positive now =
    spent_cases (λ b. Supplied r q p (n + 1) (record { account = b; mode = Active })) v.account
    (λ more. record {
      periods = now.periods;
      active = refl;
      budget = now.budget;
      period = now.period;
      deadline = now.deadline;
      count = omega (arith, now.count, more);
      some = omega (arith, more);
      within = omega (arith, now.within);
    })
    (λ last. record {
      periods = now.periods + 1;
      active = refl;
      budget = now.budget;
      period = now.period;
      deadline = omega (arith, now.deadline, now.period);
      count = omega (arith, now.count, now.some, last, now.budget);
      some = omega (arith, now.budget, positive);
      within = omega (arith, now.budget);
    })

-- what is pending is not counted
supplied-reserved : (r q p n x : ℕ) (a : Account) → Supplied r q p n (record { account = a; mode = Active })
    → Supplied r q p n (record { account = reserved x a; mode = Active })
supplied-reserved r q p n x a now = record {
  periods = now.periods;
  active = refl;
  budget = now.budget;
  period = now.period;
  deadline = now.deadline;
  count = now.count;
  some = now.some;
  within = now.within;
}

supplied-next : (r q p n : ℕ) (v : Serving) (e : ℕ × AttemptOutcome) → 1 ≤ q → goes_on e ≡ true → Supplied r q p n v → Supplied r q p (n + 1) (after e.0 e.1 v.account)
supplied-next r q p n v e positive on now =
    let next = supplied-spent r q p n v positive now in
    rw (goes-active e.0 e.1 on)
    (goes-charged (λ b. Supplied r q p (n + 1) (record { account = b; mode = Active })) e.0 e.1 v.account on next
    (λ x. supplied-reserved r q p (n + 1) x (spent v.account) next))

supplied-along : (r q p n : ℕ) (v : Serving) (es : List (ℕ × AttemptOutcome)) → 1 ≤ q → All (λ e. goes_on e ≡ true) es → Supplied r q p n v
    → Supplied r q p (n + length es) (serving_after v es)
supplied-along r q p n v [] positive on now = let none : n ≡ n + 0 = omega arith in subst (λ k. Supplied r q p k v) none now
supplied-along r q p n v (e ∷ es) positive on now =
    let here : Supplied r q p n (due e.0 v) = rw (due-active e.0 v now.active) now in
    let next = supplied-next r q p n (due e.0 v) e positive (All-head (λ f. goes_on f ≡ true) e es on) here in
    let count : n + 1 + length es ≡ n + suc (length es) = omega arith in
    subst (λ k. Supplied r q p k (serving_after (after e.0 e.1 (due e.0 v).account) es)) count
    (supplied-along r q p (n + 1) (after e.0 e.1 (due e.0 v).account) es positive (All-tail (λ f. goes_on f ≡ true) e es on) next)

supplied-first : (r q p u : ℕ) (v : Serving) → 1 ≤ q → coming v.account ≡ q → v.account.p ≡ p → v.mode ≡ Asleep r → wakes_fresh r v.account ≡ true → r ≤ u
    → Supplied r q p 0 (due u v)
supplied-first r q p u v positive budget period asleep fresh past =
    rw (due-fresh r u v asleep fresh past) (record {
      periods = 0;
      active = refl;
      budget = budget;
      period = period;
      deadline = omega (arith, period);
      count = omega (arith, budget);
      some = omega (arith, budget, positive);
      within = omega (arith, budget);
    })

supplied-at : (r q p u : ℕ) (v : Serving) (es : List (ℕ × AttemptOutcome)) → 1 ≤ q → coming v.account ≡ q → v.account.p ≡ p → v.mode ≡ Asleep r
    → wakes_fresh r v.account ≡ true → r ≤ u → AreWithin r u es → All (λ e. goes_on e ≡ true) es → Supplied r q p (length es) (due u (serving_after v es))
supplied-at r q p u v [] positive budget period asleep fresh past within on = supplied-first r q p u v positive budget period asleep fresh past
supplied-at r q p u v (e ∷ es) positive budget period asleep fresh past within on =
    let here = supplied-first r q p e.0 v positive budget period asleep fresh within.0.0 in
    let next = supplied-next r q p 0 (due e.0 v) e positive (All-head (λ f. goes_on f ≡ true) e es on) here in
    let all : Supplied r q p (1 + length es) (serving_after v (e ∷ es)) = supplied-along r q p 1 (after e.0 e.1 (due e.0 v).account) es positive (All-tail (λ f. goes_on f ≡ true) e es on) next in
    let count : 1 + length es ≡ suc (length es) = omega arith in
    rw (due-active u (serving_after v (e ∷ es)) all.active) (subst (λ n. Supplied r q p n (serving_after v (e ∷ es))) count all)

-- k periods have passed with a budget that fits before r and m + 1 periods
enough : (r k m p q c n : ℕ) → r + k * p + c ≤ r + (m + 1) * p → 1 ≤ c → c ≤ q → n + c ≡ (m + 1) * q → k * q ≤ n
enough r k m p q c n fit some within count =
    let passed : k * p < (m + 1) * p = omega arith in
    let fewer : k < m + 1 = lt_of_mul-lt-mul_right p passed in
    let most : k ≤ m = omega arith in
    omega (arith, mul-le-mul_right q most)

-- ---- the records at the ticks from a to b - 1

filter-each : (test : ℕ × AttemptOutcome → Bool) (es : List (ℕ × AttemptOutcome)) → Each (λ e. test e ≡ true) es → filter test es ≡ es
filter-each test [] each = refl
filter-each test (e ∷ es) each = rw (each.0, filter-each test es each.1) refl

filter-none : (test : ℕ × AttemptOutcome → Bool) (es : List (ℕ × AttemptOutcome)) → Each (λ e. test e ≡ false) es → filter test es ≡ []
filter-none test [] each = refl
filter-none test (e ∷ es) each = rw (each.0, filter-none test es each.1) refl

abbrev is_at : ℕ → ℕ → ℕ × AttemptOutcome → Bool
is_at a b e = nat_le a e.0 && nat_lt e.0 b

filter-parts : (a b t : ℕ) (before those later : List (ℕ × AttemptOutcome)) → AreWithin 0 a before → AreWithin a b those → AreWithin b t later
    → filter (is_at a b) ((before ++ those) ++ later) ≡ those
filter-parts a b t before those later low mid high =
    let first : filter (is_at a b) before ≡ [] = filter-none (is_at a b) before
    (Each-more (λ e. (0 ≤ e.0) × (e.0 < a)) (λ e. is_at a b e ≡ false) (λ e at. and_left (nat_le a e.0) (nat_lt e.0 b) (lt-leb a e.0 at.1)) before low) in
    let second : filter (is_at a b) those ≡ those = filter-each (is_at a b) those
    (Each-more (λ e. (a ≤ e.0) × (e.0 < b)) (λ e. is_at a b e ≡ true) (λ e at. and_from (nat_le a e.0) (nat_lt e.0 b) (le-leb a e.0 at.0) (lt-ltb e.0 b at.1)) those mid) in
    let third : filter (is_at a b) later ≡ [] = filter-none (is_at a b) later
    (Each-more (λ e. (b ≤ e.0) × (e.0 < t)) (λ e. is_at a b e ≡ false) (λ e at. and_right (nat_le a e.0) (nat_lt e.0 b) (le-ltb e.0 b at.0)) later high) in
    filter-append (is_at a b) (before ++ those) later ∙ ap (λ es. filter (is_at a b) (before ++ those) ++ es) third ∙ append-nil (filter (is_at a b) (before ++ those))
    ∙ filter-append (is_at a b) before those ∙ ap (λ es. es ++ filter (is_at a b) those) first ∙ second

records-are : (set : TaskSet) (i a b t : ℕ) (those : Grown set i a b) → Grown set i b t → records_at set t i a b ≡ those.more
records-are set i a b t those later =
    ap (filter (is_at a b)) (later.is ∙ ap (λ es. es ++ later.more) those.is)
    ∙ filter-parts a b t (own i (legal set a)) those.more later.more (own-within set i a) those.within later.within

-- ---- the law

supplied-by : (set : TaskSet) (i r k : ℕ) (s : SetTask) → IsAdmittedSet set → slice_get set.tasks i ≡ Some s → WakesFresh set i s r
    → (those : Grown set i r (r + k * s.period)) → All (λ e. goes_on e ≡ true) those.more → k * budget_from set i s r ≤ length those.more
supplied-by set i r k s ok there wakes those on =
    let u = r + k * s.period in
    let v = serving_before set i s r in
    let q = budget_from set i s r in
    let positive : 1 ≤ q = comes-at set r i s ok there wakes.asleep wakes.fresh in
    let period : v.account.p ≡ s.period = period-stays (first_serving s) (own i (legal set r)) in
    let all = supplied-at r q s.period u v those.more positive refl period wakes.asleep wakes.fresh (omega arith) those.within on in
    let same : serving_after (first_serving s) (own i (legal set u)) ≡ serving_after v those.more =
    ap (serving_after (first_serving s)) those.is ∙ serving_after-append (first_serving s) (own i (legal set r)) those.more in
    let now : Supplied r q s.period (length those.more) (task_state u (legal set u) i s).serving =
    subst (λ (w : Serving). Supplied r q s.period (length those.more) (due u w)) (sym same) all in
    let fit : Fits u (task_state u (legal set u) i s).serving.account =
    Each-at (TaskFits u) (state_at set u).tasks i (task_state u (legal set u) i s) (state-of set u i s there) (each_fits set u ok) now.active in
    enough r k now.periods s.period q _ (length those.more) (omega (arith, fit, now.deadline)) now.some now.within now.count

pub supplied : (set : TaskSet) (t i r k : ℕ) (s : SetTask) → IsAdmittedSet set → slice_get set.tasks i ≡ Some s → CompetesFor k set t i s r → IsSupplied k set t i s r
supplied set t i r k s ok there competes =
    let u = r + k * s.period in
    let rest : u + (t - u) ≡ t = omega (arith, competes.within) in
    let those = grown set i r (k * s.period) in
    let later = subst (Grown set i u) rest (grown set i u (t - u)) in
    let are : records_at set t i r u ≡ those.more = records-are set i r u t those later in
    rw are (supplied-by set i r k s ok there competes.wakes those (subst (All (λ e. goes_on e ≡ true)) are competes.unbroken))

-- ---- the first wake

-- before its start tick a task has no record
none-before : (s : SetTask) (es : List (ℕ × AttemptOutcome)) → AreWithin 0 s.start es → FitsAlong (first_serving s) es → es ≡ []
none-before s [] within along = refl
none-before s (e ∷ es) within along =
    let early : nat_le s.start e.0 ≡ false = lt-leb s.start e.0 within.0.1 in
    let asleep : (due e.0 (first_serving s)).mode ≡ Asleep s.start = rw early refl in
    absurd (asleep_is_not_active s.start (sym asleep ∙ along.0))

pub first_fresh : (set : TaskSet) (i : ℕ) (s : SetTask) → IsAdmittedSet set → slice_get set.tasks i ≡ Some s → WakesFresh set i s s.start
first_fresh set i s ok there =
    let none : own i (legal set s.start) ≡ [] = none-before s (own i (legal set s.start)) (own-within set i s.start) (fits_along set s.start i s ok there) in
    let first : serving_before set i s s.start ≡ first_serving s = ap (serving_after (first_serving s)) none in
    record {
      asleep = ap (λ (v : Serving). v.mode) first;
      fresh = ap (λ (v : Serving). wakes_fresh s.start v.account) first ∙ le-leb (0 * s.budget) (0 * s.period + s.start * s.budget) (omega arith);
    }
