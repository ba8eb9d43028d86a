-- A profile over an entry stands where the legal history stands.
use Rattle.rt_profile.proofs.Common.{◌≡◌, ℕ, zero, suc, ◌+◌, ◌<◌, ◌==◌, true, false, cond, List, [], ◌∷◌, ◌++◌, map, replicate, slice_get, slice_set, Option, Some, None, refl, sym, ap, ◌∙◌, arith, option_map_or, nat_tests, sum_by-cons, SetTask, TaskSet, Attempt, Record, Idle, Busy, legal, is_idle, idle_ticks, attempts, ProfileState, TaskCounts, counted, counted_at, counted_all, word_count}
use Rattle.std.proofs.lemmas.List.{append-nil}
use Rattle.std.proofs.lemmas.List.Sums.{sum_by-append}
use Rattle.rt_history.specs.declared.record.Entry.{Entry}
use Rattle.rt_history.specs.declared.record.Entry.TheVariants as entries
use Rattle.rt_history.specs.Entries.{ticks_of, records_of, GoesOnBy}
use Rattle.rt_profile.specs.Standing.{counts_from, profile_at, added}
use Rattle.rt_profile.specs.Counted.{first_counts, counts_of}

-- ---- own records

pub attempts-append : (i : ℕ) (h k : List Record) → attempts i (h ++ k) ≡ attempts i h ++ attempts i k
attempts-append i [] k = refl
attempts-append i (Idle ∷ h) k = attempts-append i h k
attempts-append i (Busy a ∷ h) k =
    elim (a.task == i) as (λ b. cond b (a ∷ attempts i (h ++ k)) (attempts i (h ++ k)) ≡ cond b (a ∷ attempts i h) (attempts i h) ++ attempts i k) [
      | true ↦ ap (λ (rs : List Attempt). a ∷ rs) (attempts-append i h k)
      | false ↦ attempts-append i h k
    ]

attempts-of_idle : (i n : ℕ) → attempts i (replicate n Idle) ≡ []
attempts-of_idle i zero = refl
attempts-of_idle i (suc n) = attempts-of_idle i n

pub attempts-idle : (i n : ℕ) (h : List Record) → attempts i (h ++ replicate n Idle) ≡ attempts i h
attempts-idle i n h = attempts-append i h (replicate n Idle) ∙ ap (λ (rs : List Attempt). attempts i h ++ rs) (attempts-of_idle i n) ∙ append-nil (attempts i h)

pub attempts-other : (i : ℕ) (h : List Record) (a : Attempt) → (a.task == i) ≡ false → attempts i (h ++ Busy a ∷ []) ≡ attempts i h
attempts-other i h a other =
    let none : attempts i (Busy a ∷ []) ≡ [] = rw other refl in
    attempts-append i h (Busy a ∷ []) ∙ ap (λ (rs : List Attempt). attempts i h ++ rs) none ∙ append-nil (attempts i h)

pub attempts-own : (i : ℕ) (h : List Record) (a : Attempt) → (a.task == i) ≡ true → attempts i (h ++ Busy a ∷ []) ≡ attempts i h ++ a ∷ []
attempts-own i h a own =
    let one : attempts i (Busy a ∷ []) ≡ a ∷ [] = rw own refl in
    attempts-append i h (Busy a ∷ []) ∙ ap (λ (rs : List Attempt). attempts i h ++ rs) one

counted-append : (x : TaskCounts) (rs qs : List Attempt) → counted_all x (rs ++ qs) ≡ counted_all (counted_all x rs) qs
counted-append x [] qs = refl
counted-append x (r ∷ rs) qs = counted-append (counted r x) rs qs

-- ---- tasks

from-idle : (i n : ℕ) (h : List Record) (ss : List SetTask) → counts_from (h ++ replicate n Idle) i ss ≡ counts_from h i ss
from-idle i n h [] = refl
from-idle i n h (s ∷ ss) =
    let same : counts_of s (attempts i (h ++ replicate n Idle)) ≡ counts_of s (attempts i h) = ap (counts_of s) (attempts-idle i n h) in
    let others = from-idle (i + 1) n h ss in
    rw (same, others) refl

from-behind : (i : ℕ) (h : List Record) (a : Attempt) (ss : List SetTask) → a.task < i → counts_from (h ++ Busy a ∷ []) i ss ≡ counts_from h i ss
from-behind i h a [] below = refl
from-behind i h a (s ∷ ss) below =
    let differs : (a.task == i) ≡ false = grind (arith, nat_tests) in
    let same : counts_of s (attempts i (h ++ Busy a ∷ [])) ≡ counts_of s (attempts i h) = ap (counts_of s) (attempts-other i h a differs) in
    let others = from-behind (i + 1) h a ss (omega arith) in
    rw (same, others) refl

behind : (r : Attempt) (x : TaskCounts) (xs : List TaskCounts) (k : ℕ) (found : Option TaskCounts)
    → option_map_or (λ y. slice_set (x ∷ xs) (suc k) (counted r y)) found (x ∷ xs) ≡ x ∷ option_map_or (λ y. slice_set xs k (counted r y)) found xs
behind r x xs k None = refl
behind r x xs k (Some y) = refl

-- the task of the record is k places behind the first of these
from-busy : (i k : ℕ) (h : List Record) (a : Attempt) (ss : List SetTask) → a.task ≡ i + k → counts_from (h ++ Busy a ∷ []) i ss ≡ counted_at a (counts_from h i ss) k
from-busy i zero h a [] place = refl
from-busy i (suc k) h a [] place = refl
from-busy i zero h a (s ∷ ss) place =
    let hits : (a.task == i) ≡ true = grind (arith, nat_tests) in
    let first : counts_of s (attempts i (h ++ Busy a ∷ [])) ≡ counted a (counts_of s (attempts i h)) =
    ap (counts_of s) (attempts-own i h a hits) ∙ counted-append (first_counts s.object.labels (word_count s)) (attempts i h) (a ∷ []) in
    let others = from-behind (i + 1) h a ss (omega arith) in
    rw (first, others) refl
from-busy i (suc k) h a (s ∷ ss) place =
    let differs : (a.task == i) ≡ false = grind (arith, nat_tests) in
    let same : counts_of s (attempts i (h ++ Busy a ∷ [])) ≡ counts_of s (attempts i h) = ap (counts_of s) (attempts-other i h a differs) in
    let others = from-busy (i + 1) k h a ss (omega arith) in
    let xs = counts_from h (i + 1) ss in
    ap (λ (x : TaskCounts). x ∷ counts_from (h ++ Busy a ∷ []) (i + 1) ss) same
    ∙ ap (λ (ys : List TaskCounts). counts_of s (attempts i h) ∷ ys) others
    ∙ sym (behind a (counts_of s (attempts i h)) xs k (slice_get xs k))

-- ---- idle ticks

idle_all : (n : ℕ) → idle_ticks (replicate n Idle) ≡ n
idle_all zero = refl
idle_all (suc n) = omega (arith, sum_by-cons (λ r. cond (is_idle r) 1 0) Idle (replicate n Idle), idle_all n)

idle_more : (h : List Record) (n : ℕ) → idle_ticks (h ++ replicate n Idle) ≡ idle_ticks h + n
idle_more h n = sum_by-append (λ r. cond (is_idle r) 1 0) h (replicate n Idle) ∙ ap (λ (k : ℕ). idle_ticks h + k) (idle_all n)

idle_busy : (h : List Record) (a : Attempt) → idle_ticks (h ++ Busy a ∷ []) ≡ idle_ticks h
idle_busy h a = sum_by-append (λ r. cond (is_idle r) 1 0) h (Busy a ∷ []) ∙ omega arith

-- ---- the profile

-- how a profile stands after any history of t ticks
abbrev standing : TaskSet → ℕ → List Record → ProfileState
standing set t h = record { tick = t; idle = idle_ticks h; tasks = counts_from h 0 set.tasks }

standing-more : (set : TaskSet) (t : ℕ) (h : List Record) (e : Entry) → standing set (t + ticks_of e) (h ++ records_of e) ≡ added e (standing set t h)
standing-more set t h (entries.Busy u a) = rw (from-busy 0 a.task h a set.tasks (omega arith), idle_busy h a) refl
standing-more set t h (entries.Idle u n) = rw (from-idle 0 n h set.tasks, idle_more h n) refl

pub profile_next : (set : TaskSet) (t : ℕ) (e : Entry) → GoesOnBy set t e → profile_at set (t + ticks_of e) ≡ added e (profile_at set t)
unfolding profile_at
profile_next set t e goes = ap (standing set (t + ticks_of e)) goes ∙ standing-more set t (legal set t) e

-- ---- at first

abbrev pub first_of : SetTask → TaskCounts
first_of s = first_counts s.object.labels (word_count s)

from-first : (i : ℕ) (ss : List SetTask) → counts_from [] i ss ≡ map first_of ss
from-first i [] = refl
from-first i (s ∷ ss) = ap (λ (xs : List TaskCounts). first_of s ∷ xs) (from-first (i + 1) ss)

pub profile_first : (set : TaskSet) → profile_at set 0 ≡ record { tick = 0; idle = 0; tasks = map first_of set.tasks }
unfolding profile_at legal
profile_first set = ap (λ (xs : List TaskCounts). record { tick = 0; idle = 0; tasks = xs }) (from-first 0 set.tasks)
