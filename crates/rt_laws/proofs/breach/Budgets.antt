-- A server of the least deadline spends its whole budget before another runs.
use Rattle.rt_laws.proofs.Common.{◌≡◌, ℕ, zero, suc, ◌+◌, ◌-◌, ◌<◌, ◌≤◌, List, [], ◌∷◌, map, slice_get, slice_set, Option, Some, refl, sym, ap, ◌∙◌, arith, Account, spent, least_from, deadline, next_server, after_tick, after_ticks, spent_times}
use Rattle.rt_laws.proofs.Accounts.{one_less, postponed, spent_cases}
use Rattle.rt_laws.proofs.BusyRuns.{tick-is}

-- ---- lists

pub set-same : (accounts : List Account) (i : ℕ) (a : Account) → slice_get accounts i ≡ Some a → slice_set accounts i a ≡ accounts
set-same [] i a there = refl
set-same (x ∷ accounts) zero a there = let same : a ≡ x = cc in ap (λ y. y ∷ accounts) same
set-same (x ∷ accounts) (suc i) a there = ap (λ xs. x ∷ xs) (set-same accounts i a there)

set-twice : (accounts : List Account) (i : ℕ) (a b : Account) → slice_set (slice_set accounts i a) i b ≡ slice_set accounts i b
set-twice [] i a b = refl
set-twice (x ∷ accounts) zero a b = refl
set-twice (x ∷ accounts) (suc i) a b = ap (λ xs. x ∷ xs) (set-twice accounts i a b)

set-there : (accounts : List Account) (i : ℕ) (a b : Account) → slice_get accounts i ≡ Some a → slice_get (slice_set accounts i b) i ≡ Some b
set-there [] i a b there = absurd cc
set-there (x ∷ accounts) zero a b there = refl
set-there (x ∷ accounts) (suc i) a b there = set-there accounts i a b there

deadlines-stay : (accounts : List Account) (i : ℕ) (a b : Account) → slice_get accounts i ≡ Some a → b.d ≡ a.d
    → map deadline (slice_set accounts i b) ≡ map deadline accounts
deadlines-stay [] i a b there same = refl
deadlines-stay (x ∷ accounts) zero a b there same =
    let it : x ≡ a = cc in
    let d : b.d ≡ x.d = same ∙ sym (ap (λ (y : Account). y.d) it) in
    ap (λ (n : ℕ). Some n ∷ map deadline accounts) d
deadlines-stay (x ∷ accounts) (suc i) a b there same = ap (λ (ds : List (Option ℕ)). deadline x ∷ ds) (deadlines-stay accounts i a b there same)

-- ---- several ticks of one server

spent-more : (a : Account) → 2 ≤ a.c → spent a ≡ one_less a
spent-more a more = spent_cases (λ x. x ≡ one_less a) a (λ left. refl) (λ last. absurd (omega arith))

spent-last : (a : Account) → a.c ≡ 1 → spent a ≡ postponed a
spent-last a one = spent_cases (λ b. b ≡ postponed a) a (λ more. absurd (omega arith)) (λ last. refl)

-- less than is left
pub times-less : (k : ℕ) (a : Account) → k < a.c → spent_times k a ≡ record a { c = a.c - k }
times-less zero a below = ap (λ (n : ℕ). record a { c = n }) (let same : a.c ≡ a.c - 0 = omega arith in same)
times-less (suc k) a below =
    let before = times-less k a (omega arith) in
    let next = spent-more (record a { c = a.c - k }) (omega arith) in
    let same : (a.c - k) - 1 ≡ a.c - suc k = omega arith in
    ap spent before ∙ next ∙ ap (λ (n : ℕ). record a { c = n }) same

-- all that is left
pub times-all : (k : ℕ) (a : Account) → a.c ≡ k → 1 ≤ k → spent_times k a ≡ postponed a
times-all zero a is some = absurd (omega arith)
times-all (suc k) a is some =
    let one : a.c - k ≡ 1 = omega arith in
    ap spent (times-less k a (omega arith)) ∙ spent-last (record a { c = a.c - k }) one

times-deadline : (k : ℕ) (a : Account) → k < a.c → (spent_times k a).d ≡ a.d
times-deadline k a below = ap (λ (b : Account). b.d) (times-less k a below)

-- the first k ticks go to the server that runs, where its budget holds them
pub after-times : (k : ℕ) (accounts : List Account) (least : ℕ × ℕ) (a : Account) → next_server accounts ≡ Some least → slice_get accounts least.1 ≡ Some a → k ≤ a.c
    → after_ticks k accounts ≡ slice_set accounts least.1 (spent_times k a)
unfolding after_ticks
after-times zero accounts least a is there within = sym (set-same accounts least.1 a there)
after-times (suc k) accounts least a is there within =
    let b = spent_times k a in
    let row = slice_set accounts least.1 b in
    let before = after-times k accounts least a is there (omega arith) in
    let still : next_server row ≡ Some least = ap (λ ds. least_from 0 ds) (deadlines-stay accounts least.1 a b there (times-deadline k a (omega arith))) ∙ is in
    ap after_tick before ∙ tick-is row least b still (set-there accounts least.1 a b there) ∙ set-twice accounts least.1 b (spent b)

pub after-add : (m n : ℕ) (accounts : List Account) → after_ticks (m + n) accounts ≡ after_ticks m (after_ticks n accounts)
unfolding after_ticks
after-add zero n accounts = let same : zero + n ≡ n = omega arith in ap (λ k. after_ticks k accounts) same
after-add (suc m) n accounts =
    let same : suc m + n ≡ suc (m + n) = omega arith in
    ap (λ k. after_ticks k accounts) same ∙ ap after_tick (after-add m n accounts)

pub after-none : (accounts : List Account) → after_ticks 0 accounts ≡ accounts
unfolding after_ticks
after-none accounts = refl
