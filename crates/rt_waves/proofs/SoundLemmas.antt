-- What holds of all waves stays so over a time: tasks that neither wake nor run keep their signals.
use Rattle.rt_waves.proofs.Common.{◌≡◌, ℕ, zero, suc, ◌+◌, ◌<◌, ◌≤◌, ◌==◌, nat_le, Bool, false, List, [], ◌∷◌, length, map, All, slice_get, slice_set, Option, Some, None, inl, inr, refl, sym, ap, subst, ◌∙◌, arith, enumerate_from, option_map_or, cases_Bool, eqb-true, nat_tests, All-nil, All-cons, All-head, All-tail, length-map, length-set, length-enumerate_from, tick_limit, Account, Mode, Active, Asleep, Ended, Faulted, AttemptOutcome, Record, Idle, Busy, Serving, due, after, fresh_in, kept_in, outcome_of, TaskStanding, seen, visited, visited_all, WakesFrom, IsSoundWaves}
use Rattle.std.proofs.Common.{min}
use Rattle.std.proofs.lemmas.List.Elements.{All-set}
use Rattle.rt_history.specs.Serving.{mode_after}
use Rattle.rt_history.specs.Working.Bounded.{IsBounded}
use Rattle.rt_history.proofs.ServingLaws.{due_cases, mode_after_cases, due-kept, IsBounded-due, IsBounded-later}
use Rattle.rt_waves.specs.Working.Stepped.{rest, AreSettled}
use Rattle.rt_waves.specs.Working.Visiting.{runs, Stays}

-- ---- one task

abbrev pub Later : ℕ → Mode → Type 0
Later u m = (w : ℕ) → m ≡ Asleep w → u < w

fresh-none : (u : ℕ) (m : Mode) (a : Account) → Later u m → fresh_in u m a ≡ false
fresh-none u (Asleep w) a later = let early = later w refl in let no : nat_le w u ≡ false = grind (arith, nat_tests) in rw no refl
fresh-none u Active a later = refl
fresh-none u Ended a later = refl
fresh-none u (Faulted fault) a later = refl

kept-none : (u : ℕ) (m : Mode) (a : Account) → Later u m → kept_in u m a ≡ false
kept-none u (Asleep w) a later = let early = later w refl in let no : nat_le w u ≡ false = grind (arith, nat_tests) in rw no refl
kept-none u Active a later = refl
kept-none u Ended a later = refl
kept-none u (Faulted fault) a later = refl

-- a task that doesn't wake by tick u
pub unwoken : (u : ℕ) (x : TaskStanding) → Later u x.serving.mode → due u x.serving ≡ x.serving
unwoken u x later = due-kept u x.serving.mode x.serving.account later

pub seen-rest : (u : ℕ) (x : TaskStanding) → Later u x.serving.mode → seen u None x ≡ rest x
seen-rest u x later =
    let same = unwoken u x later in
    let fresh = fresh-none u x.serving.mode x.serving.account later in
    let kept = kept-none u x.serving.mode x.serving.account later in
    rw (same, fresh, kept) refl

pub later-from : (u : ℕ) (x : TaskStanding) → WakesFrom (u + 1) x → Later u x.serving.mode
later-from u x from = λ w is. omega (arith, from w is)

-- is left as it is, where its signals are told as they stay
pub stays : (u : ℕ) (x : TaskStanding) → Later u x.serving.mode → x.told ≡ rest x → visited u None x ≡ x
stays u x later told =
    ap (λ (s : Serving). record x { serving = s; told = seen u None x }) (unwoken u x later)
    ∙ ap (λ w. record x { told = w }) (seen-rest u x later ∙ sym told)

pub told-rest : (u : ℕ) (x : TaskStanding) → Later u x.serving.mode → (visited u None x).told ≡ rest (visited u None x)
told-rest u x later =
    seen-rest u x later ∙ ap (λ (s : Serving). rest (record x { serving = s; told = seen u None x })) (sym (unwoken u x later))

pub outcome-none : (i : ℕ) (r : Record) → (runs r ≡ Some i → ⊥) → outcome_of i r ≡ None
outcome-none i Idle other = refl
outcome-none i (Busy a) other =
    elim (cases_Bool (a.task == i)) [
      | inl is ↦ absurd (other (ap (λ (k : ℕ). Some k) (eqb-true a.task i is)))
      | inr no_one ↦ rw no_one refl
    ]

pub stays-by : (u i : ℕ) (r : Record) (x : TaskStanding) → WakesFrom (u + 1) x → (runs r ≡ Some i → ⊥) → x.told ≡ rest x → Stays u r i x
stays-by u i r x from other told = rw (outcome-none i r other) (stays u x (later-from u x from) told)

-- a visit wakes no task later
pub wakes-visited : (w u : ℕ) (o : Option AttemptOutcome) (x : TaskStanding) → WakesFrom w x → WakesFrom w (visited u o x)
wakes-visited w u o x from =
    due_cases (λ (s : Serving). (v : ℕ) → s.mode ≡ Asleep v → w ≤ v) u x.serving.mode x.serving.account (λ z asleep come. λ v is. absurd cc) (λ _. from)

-- a record leaves its task awake or asleep until a later tick
pub later-after : (u : ℕ) (o : AttemptOutcome) → Later u (mode_after u o)
later-after u o =
    mode_after_cases (λ (m : Mode). Later u m) u o
    (λ w is. absurd cc) (λ v slept later. λ w is. let same : v ≡ w = cc in omega (arith, later, same)) (λ w is. absurd cc) (λ fault. λ w is. absurd cc)

pub due-after : (u : ℕ) (o : AttemptOutcome) (a : Account) → due u (after u o a) ≡ after u o a
due-after u o a = due-kept u (mode_after u o) (after u o a).account (later-after u o)

-- ---- all tasks

pub all-found : (P : TaskStanding → Type 0) (xs : List TaskStanding) (k : ℕ) (x : TaskStanding) → All P xs → slice_get xs k ≡ Some x → P x
all-found P [] k x all there = absurd cc
all-found P (y ∷ xs) zero x all there = let same : y ≡ x = cc in subst P same (All-head P y xs all)
all-found P (y ∷ xs) (suc k) x all there = all-found P xs k x (All-tail P y xs all) there

abbrev pub Bounded : ℕ → TaskStanding → Type 0
Bounded u x = IsBounded u x.serving.account

pub bounded-visited : (u : ℕ) (o : Option AttemptOutcome) (x : TaskStanding) → Bounded u x → Bounded u (visited u o x)
bounded-visited u o x b = IsBounded-due u x.serving.mode x.serving.account b

-- each task's visit keeps P
pub all-visited : (P Q : TaskStanding → Type 0) (u : ℕ) (r : Record) → ((i : ℕ) (x : TaskStanding) → P x → Q (visited u (outcome_of i r) x)) → (i : ℕ) (xs : List TaskStanding)
    → All P xs → All Q (map (λ n. visited u (outcome_of n.0 r) n.1) (enumerate_from i xs))
all-visited P Q u r keeps i [] all = All-nil Q
all-visited P Q u r keeps i (x ∷ xs) all =
    All-cons Q (visited u (outcome_of i r) x) (map (λ n. visited u (outcome_of n.0 r) n.1) (enumerate_from (i + 1) xs))
    (keeps i x (All-head P x xs all)) (all-visited P Q u r keeps (i + 1) xs (All-tail P x xs all))

-- a visit of one task keeps the bounds of all
pub bounded-place : (u : ℕ) (r : Record) (k : ℕ) (xs : List TaskStanding) → All (Bounded u) xs
    → All (Bounded u) (option_map_or (λ x. slice_set xs k (visited u (outcome_of k r) x)) (slice_get xs k) xs)
bounded-place u r k xs all = by (slice_get xs k) refl
  where
    by : (found : Option TaskStanding) → slice_get xs k ≡ found → All (Bounded u) (option_map_or (λ x. slice_set xs k (visited u (outcome_of k r) x)) found xs)
    by None there = all
    by (Some x) there = All-set (Bounded u) xs k (visited u (outcome_of k r) x) (bounded-visited u (outcome_of k r) x (all-found (Bounded u) xs k x all there)) all

pub bounded-later : (t u : ℕ) (xs : List TaskStanding) → t ≤ u → All (Bounded t) xs → All (Bounded u) xs
bounded-later t u xs le all = λ k d below. IsBounded-later t u _ le (all k d below)

pub length-visited : (u : ℕ) (r : Record) (xs : List TaskStanding) → length (visited_all u r xs) ≡ length xs
length-visited u r xs = length-map (enumerate_from 0 xs) (λ n. visited u (outcome_of n.0 r) n.1) ∙ length-enumerate_from 0 xs

-- a visited task is one of those before
pub record WasVisited (u : ℕ) (r : Record) (i : ℕ) (xs : List TaskStanding) (k : ℕ) (y : TaskStanding) : Type 0 where
  pub before : TaskStanding
  pub there : slice_get xs k ≡ Some before
  pub is : visited u (outcome_of (i + k) r) before ≡ y

pub found-visited : (u : ℕ) (r : Record) (i : ℕ) (xs : List TaskStanding) (k : ℕ) (y : TaskStanding)
    → slice_get (map (λ n. visited u (outcome_of n.0 r) n.1) (enumerate_from i xs)) k ≡ Some y → WasVisited u r i xs k y
found-visited u r i [] k y there = absurd cc
found-visited u r i (x ∷ xs) zero y there =
    let at : i + zero ≡ i = omega arith in
    let same : visited u (outcome_of i r) x ≡ y = cc in
    record { before = x; there = refl; is = ap (λ (n : ℕ). visited u (outcome_of n r) x) at ∙ same }
found-visited u r i (x ∷ xs) (suc k) y there =
    let f = found-visited u r (i + 1) xs k y there in
    let at : i + suc k ≡ (i + 1) + k = omega arith in
    record { before = f.before; there = f.there; is = ap (λ (n : ℕ). visited u (outcome_of n r) f.before) at ∙ f.is }

-- where no task wakes at time u, the signals of all but the one that runs are told as they stay
pub settled-visited : (u w : ℕ) (r : Record) (xs : List TaskStanding) → u < w → All (WakesFrom w) xs → AreSettled (runs r) (visited_all u r xs)
settled-visited u w r xs before all = λ i y there other.
    let f = found-visited u r 0 xs i y there in
    let at : 0 + i ≡ i = omega arith in
    let from : WakesFrom w f.before = all-found (WakesFrom w) xs i f.before all f.there in
    let later : Later u f.before.serving.mode = λ v is. omega (arith, from v is, before) in
    let none : outcome_of (0 + i) r ≡ None = ap (λ (n : ℕ). outcome_of n r) at ∙ outcome-none i r other in
    let is : visited u None f.before ≡ y = ap (λ o. visited u o f.before) (sym none) ∙ f.is in
    subst (λ (z : TaskStanding). z.told ≡ rest z) is (told-rest u f.before later)

-- ---- what holds of all waves

get-other : (xs : List TaskStanding) (k i : ℕ) (y : TaskStanding) → (i ≡ k → ⊥) → slice_get (slice_set xs k y) i ≡ slice_get xs i
get-other [] k i y other = refl
get-other (x ∷ xs) zero zero y other = absurd (other refl)
get-other (x ∷ xs) zero (suc i) y other = refl
get-other (x ∷ xs) (suc k) zero y other = refl
get-other (x ∷ xs) (suc k) (suc i) y other = get-other xs k i y (λ same. other (ap suc same))

pub wakes-lower : (v w : ℕ) (xs : List TaskStanding) → v ≤ w → All (WakesFrom w) xs → All (WakesFrom v) xs
wakes-lower v w xs le all = λ k d below. λ z is. let from = all k d below z is in omega (arith, from, le)

-- behind a record of task k, which now stands so
pub sound-gone : (t w wake least : ℕ) (unsettled after : Bool) (last : Option ℕ) (xs : List TaskStanding) (k : ℕ) (y : TaskStanding) → IsSoundWaves t w unsettled last xs → t < tick_limit
    → k < length xs → Bounded (t + 1) y → WakesFrom wake y → least ≡ min w wake → (after ≡ false → (unsettled ≡ false) × (last ≡ Some k))
    → IsSoundWaves (t + 1) least after (Some k) (slice_set xs k y)
sound-gone t w wake least unsettled after last xs k y sound early below bounded from is settles = record {
  limit = omega (arith, early);
  count = omega (arith, length-set xs k y, sound.count);
  tasks = All-set (Bounded (t + 1)) xs k y bounded (bounded-later t (t + 1) xs (omega arith) sound.tasks);
  wakes = All-set (WakesFrom least) xs k y (λ v asleep. let f = from v asleep in omega (arith, f, is)) (wakes-lower least w xs (omega (arith, is)) sound.wakes);
  settled = λ calm. λ i x there other.
      let s = settles calm in
      let apart : i ≡ k → ⊥ = λ same. other (ap (λ (j : ℕ). Some j) (sym same)) in
      sound.settled s.0 i x (sym (get-other xs k i y apart) ∙ there) (λ was. other (sym s.1 ∙ was));
  there = λ i same. let is : k ≡ i = cc in omega (arith, length-set xs k y, is, below);
}

-- behind the visits of time t
pub sound-visited : (t w least : ℕ) (unsettled : Bool) (last : Option ℕ) (r : Record) (xs : List TaskStanding) (calm : Bool) → IsSoundWaves t w unsettled last xs
    → All (WakesFrom least) (visited_all t r xs) → (calm ≡ false → t < w) → ((i : ℕ) → runs r ≡ Some i → i < length xs)
    → IsSoundWaves t least calm (runs r) (visited_all t r xs)
sound-visited t w least unsettled last r xs calm sound wakes before below = record {
  limit = sound.limit;
  count = omega (arith, length-visited t r xs, sound.count);
  tasks = all-visited (Bounded t) (Bounded t) t r (λ i x b. bounded-visited t (outcome_of i r) x b) 0 xs sound.tasks;
  wakes = wakes;
  settled = λ is. settled-visited t w r xs (before is) sound.wakes;
  there = λ i is. let b = below i is in omega (arith, b, length-visited t r xs);
}

-- ticks that pass
pub sound-passed : (t v w : ℕ) (unsettled : Bool) (last : Option ℕ) (xs : List TaskStanding) → IsSoundWaves t w unsettled last xs → t ≤ v → v ≤ tick_limit → IsSoundWaves v w unsettled last xs
sound-passed t v w unsettled last xs sound le limit = record {
  limit = limit;
  count = sound.count;
  tasks = bounded-later t v xs le sound.tasks;
  wakes = sound.wakes;
  settled = sound.settled;
  there = sound.there;
}

-- no visit but that of the task that ran last and of the one that runs changes anything
pub stays-but : (t w : ℕ) (unsettled : Bool) (last : Option ℕ) (r : Record) (xs : List TaskStanding) → IsSoundWaves t w unsettled last xs → unsettled ≡ false → t < w
    → (i : ℕ) (x : TaskStanding) → slice_get xs i ≡ Some x → (last ≡ Some i → ⊥) → (runs r ≡ Some i → ⊥) → Stays t r i x
stays-but t w unsettled last r xs sound calm before i x there not_last not_now =
    let from : WakesFrom w x = all-found (WakesFrom w) xs i x sound.wakes there in
    stays-by t i r x (λ v is. let f = from v is in omega (arith, f, before)) not_now (sound.settled calm i x there not_last)

pub wakes-all-visited : (w u : ℕ) (r : Record) (xs : List TaskStanding) → All (WakesFrom w) xs → All (WakesFrom w) (visited_all u r xs)
wakes-all-visited w u r xs all = all-visited (WakesFrom w) (WakesFrom w) u r (λ i x from. wakes-visited w u (outcome_of i r) x from) 0 xs all
