-- Where each tick of the legal history is plain, the servers are those of the history in which each task is busy.
use Rattle.rt_laws.proofs.Common.{◌≡◌, ℕ, zero, suc, ◌+◌, ◌==◌, true, false, cond, List, [], ◌∷◌, ◌++◌, map, length, length-append, All, Some, None, refl, sym, ap, subst, ◌∙◌, arith, option_map_or, All-nil, All-cons, All-head, All-tail, IsOverloaded, Fits, least_from, SetTask, TaskSet, Active, AttemptOutcome, Next, Record, Idle, Busy, task_params, TaskFits, AllFit, Serving, first_serving, due, after, own, serving_after, TaskState, task_state, deadline_in, named, MachineState, grants, attempt_of, record_at, legal, state_at, all_at_once, busy, busy_at, named_cases, serving_after-append}
use Rattle.std.specs.List.{enumerate_from}
use Rattle.rt_history.specs.declared.record.Attempt.{Attempt}
use Rattle.rt_history.specs.Named.{deadline}
use Rattle.rt_history.specs.Legal.{stands_after}
use Rattle.rt_history.specs.Plain.{IsPlain, AreTurns}
use Rattle.rt_history.specs.Busy.{busy_record}
use Rattle.rt_history.proofs.OwnPartLaws.{added, own-append}
use Rattle.rt_history.proofs.ServingLaws.{due_later}
use Rattle.rt_history.proofs.Steps.{length-legal}
use Rattle.rt_laws.proofs.BusyTasks.{one_misses}

-- ---- one server

-- one record more, where the servers stood alike
step-alike : (t i : ℕ) (r : Record) (v w : Serving) → due t v ≡ due t w → due (t + 1) (serving_after v (added t i r)) ≡ due (t + 1) (serving_after w (added t i r))
step-alike t i Idle v w alike = sym (due_later t v) ∙ ap (due (t + 1)) alike ∙ due_later t w
step-alike t i (Busy a) v w alike =
    let same : due (t + 1) v ≡ due (t + 1) w = sym (due_later t v) ∙ ap (due (t + 1)) alike ∙ due_later t w in
    let ran : due (t + 1) (after t a.outcome (due t v).account) ≡ due (t + 1) (after t a.outcome (due t w).account) =
    ap (λ (x : Serving). due (t + 1) (after t a.outcome x.account)) alike in
    elim (a.task == i) as (λ b. due (t + 1) (serving_after v (cond b ((t, a.outcome) ∷ []) [])) ≡ due (t + 1) (serving_after w (cond b ((t, a.outcome) ∷ []) []))) [
      | true ↦ ran
      | false ↦ same
    ]

-- how task i's server stands after a history of t records
abbrev standing : ℕ → List Record → ℕ → SetTask → Serving
standing t h i s = due t (serving_after (first_serving s) (own i h))

-- and after one record more
standing-more : (t i : ℕ) (h : List Record) (r : Record) (s : SetTask) → length h ≡ t
    → standing (t + 1) (h ++ r ∷ []) i s ≡ due (t + 1) (serving_after (serving_after (first_serving s) (own i h)) (added t i r))
standing-more t i h r s len =
    ap (λ (es : List (ℕ × AttemptOutcome)). due (t + 1) (serving_after (first_serving s) es)) (own-append t i h (r ∷ []) len)
    ∙ ap (due (t + 1)) (serving_after-append (first_serving s) (own i h) (added t i r))

-- two records that say the same to each server
abbrev SayTheSame : ℕ → Record → Record → Type 0
SayTheSame t r q = (i : ℕ) → added t i r ≡ added t i q

standing-alike : (t i : ℕ) (h b : List Record) (r q : Record) (s : SetTask) → length h ≡ t → length b ≡ t → SayTheSame t r q
    → standing t h i s ≡ standing t b i s → standing (t + 1) (h ++ r ∷ []) i s ≡ standing (t + 1) (b ++ q ∷ []) i s
standing-alike t i h b r q s first second say alike =
    standing-more t i h r s first
    ∙ step-alike t i r (serving_after (first_serving s) (own i h)) (serving_after (first_serving s) (own i b)) alike
    ∙ ap (λ (es : List (ℕ × AttemptOutcome)). due (t + 1) (serving_after (serving_after (first_serving s) (own i b)) es)) (say i)
    ∙ sym (standing-more t i b q s second)

-- ---- all of them

-- tasks of which the first is task i
abbrev states_from : ℕ → List Record → ℕ → List SetTask → List TaskState
states_from t h i ss = map (λ n. task_state t h n.0 n.1) (enumerate_from i ss)

abbrev servings : List TaskState → List Serving
servings xs = map (λ x. x.serving) xs

cons-same : (a b : Serving) (x y : List Serving) → a ∷ x ≡ b ∷ y → (a ≡ b) × (x ≡ y)
cons-same a b x y same = (cc, cc)

servings-alike : (t i : ℕ) (h b : List Record) (r q : Record) (ss : List SetTask) → length h ≡ t → length b ≡ t → SayTheSame t r q
    → servings (states_from t h i ss) ≡ servings (states_from t b i ss)
    → servings (states_from (t + 1) (h ++ r ∷ []) i ss) ≡ servings (states_from (t + 1) (b ++ q ∷ []) i ss)
servings-alike t i h b r q [] first second say alike = refl
servings-alike t i h b r q (s ∷ ss) first second say alike =
    let parts = cons-same (standing t h i s) (standing t b i s) (servings (states_from t h (i + 1) ss)) (servings (states_from t b (i + 1) ss)) alike in
    let one = standing-alike t i h b r q s first second say parts.0 in
    let others = servings-alike t (i + 1) h b r q ss first second say parts.1 in
    rw (one, others) refl

-- ---- who is named

keys-of : (xs : List TaskState) → map deadline xs ≡ map (λ (v : Serving). deadline_in v.mode v.account.d) (servings xs)
keys-of [] = refl
keys-of (x ∷ xs) = ap (λ ks. deadline x ∷ ks) (keys-of xs)

-- servings that are alike name the same task
named-alike : (xs ys : List TaskState) → servings xs ≡ servings ys → named xs ≡ named ys
named-alike xs ys alike =
    ap (least_from 0) (keys-of xs ∙ ap (map (λ (v : Serving). deadline_in v.mode v.account.d)) alike ∙ sym (keys-of ys))

place-same : (p q : ℕ × ℕ) → Some p ≡ Some q → p.1 ≡ q.1
place-same p q same = let pair : p ≡ q = cc in ap (λ (x : ℕ × ℕ). x.1) pair

none-some : (p : ℕ × ℕ) → None ≡ Some p → ⊥
none-some p same = cc

say-same : (t : ℕ) (a c : Attempt) → a.task ≡ c.task → a.outcome ≡ c.outcome → SayTheSame t (Busy a) (Busy c)
say-same t a c task outcome i = rw (task, outcome) refl

-- the record of a plain tick says the same to each server as the busy one of a machine whose servings are alike
records-say : (m n : MachineState) (i : ℕ) → servings m.tasks ≡ servings n.tasks → IsPlain i (record_at m) → SayTheSame m.tick (record_at m) (busy_record n)
records-say m n i alike =
    let same = named-alike m.tasks n.tasks alike in
    named_cases
    (λ r. IsPlain i (option_map_or (λ x. Busy (attempt_of m.tick x.0 (grants m x.0) x.1.program)) r Idle)
    → SayTheSame m.tick (option_map_or (λ x. Busy (attempt_of m.tick x.0 (grants m x.0) x.1.program)) r Idle) (busy_record n))
    m.tasks
    (λ none plain. absurd plain)
    (λ j x is plain.
    named_cases
    (λ r. SayTheSame m.tick (Busy (attempt_of m.tick j (grants m j) x.program)) (option_map_or (λ k. Busy (record { task = k.0; pc = 0; word = None; outcome = Next })) r Idle))
    n.tasks
    (λ none. absurd (none-some (x.serving.account.d, j) (sym none ∙ sym same ∙ is.name)))
    (λ k y named.
    say-same m.tick (attempt_of m.tick j (grants m j) x.program) (record { task = k; pc = 0; word = None; outcome = Next })
    (place-same (x.serving.account.d, j) (y.serving.account.d, k) (sym is.name ∙ same ∙ named.name)) plain.1))

-- ---- the history

length-busy : (set : TaskSet) (t : ℕ) → length (busy set t) ≡ t
unfolding busy
length-busy set zero = refl
length-busy set (suc t) = omega (arith, length-append (busy set t) (busy_record (stands_after (all_at_once set) t (busy set t)) ∷ []), length-busy set t)

pub plain_servers : (set : TaskSet) (t : ℕ) → AreTurns (all_at_once set) 0 t
    → servings (state_at (all_at_once set) t).tasks ≡ servings (busy_at set t).tasks
unfolding legal state_at busy busy_at
plain_servers set zero turns = refl
plain_servers set (suc t) turns =
    let s = all_at_once set in
    let before = plain_servers set t (λ k below. turns k (omega (arith, below))) in
    let at : t + 1 ≡ suc t = omega arith in
    let start : 0 + t ≡ t = omega arith in
    let here = turns t (omega arith) in
    let plain : IsPlain here.0 (record_at (stands_after s t (legal s t))) = subst (λ (u : ℕ). IsPlain here.0 (record_at (stands_after s u (legal s u)))) start here.1 in
    let say = records-say (stands_after s t (legal s t)) (stands_after s t (busy set t)) here.0 before plain in
    subst (λ (u : ℕ). servings (states_from u (legal s t ++ record_at (stands_after s t (legal s t)) ∷ []) 0 s.tasks)
    ≡ servings (states_from u (busy set t ++ busy_record (stands_after s t (busy set t)) ∷ []) 0 s.tasks)) at
    (servings-alike t 0 (legal s t) (busy set t) (record_at (stands_after s t (legal s t))) (busy_record (stands_after s t (busy set t))) s.tasks (length-legal s t)
    (length-busy set t) say before)

-- ---- an overloaded set

-- whether tasks fit depends on their servings alone
fits-alike : (t : ℕ) (xs ys : List TaskState) → servings xs ≡ servings ys → All (TaskFits t) xs → All (TaskFits t) ys
fits-alike t xs [] alike fits = All-nil (TaskFits t)
fits-alike t [] (y ∷ ys) alike fits = absurd cc
fits-alike t (x ∷ xs) (y ∷ ys) alike fits =
    let parts = cons-same x.serving y.serving (servings xs) (servings ys) alike in
    All-cons (TaskFits t) y ys (subst (λ (v : Serving). v.mode ≡ Active → Fits t v.account) parts.0 (All-head (TaskFits t) x xs fits))
    (fits-alike t xs ys parts.1 (All-tail (TaskFits t) x xs fits))

pub plain_misses : (set : TaskSet) → IsOverloaded set.hyper (task_params set.tasks) → AreTurns (all_at_once set) 0 set.hyper
    → AllFit (state_at (all_at_once set) set.hyper) → ⊥
unfolding state_at busy_at
plain_misses set over turns fits =
    one_misses set over (fits-alike set.hyper (state_at (all_at_once set) set.hyper).tasks (busy_at set set.hyper).tasks (plain_servers set set.hyper turns) fits)
