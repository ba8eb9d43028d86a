-- No two signals have one code: its letter is the signal's, and its number the task's.
use Rattle.rt_waves.proofs.Common.{◌≡◌, ℕ, zero, suc, ◌+◌, ◌^◌, ◌<◌, ◌≤◌, Bool, true, false, not, ◌&&◌, List, [], ◌∷◌, ◌++◌, length, map, codes, decimal, inl, inr, refl, sym, ap, subst, ◌∙◌, arith, flat_map, enumerate_from, AllByRecursion, cases_Bool, length-map, length-enumerate_from, TaskSet, TaskWaves, task_waves, waves, Wave, task_values, values}
use Rattle.std.proofs.Common.{nat_eq, bytes_eq}
use Rattle.std.specs.List.{list_all, IsDistinct}
use Rattle.std.proofs.lemmas.Bool.{and_parts}
use Rattle.std.proofs.lemmas.Fmt.{decimal_injective}
use Rattle.std.proofs.lemmas.List.{map-append}
use Rattle.std.proofs.lemmas.Slice.Eq.{bytes_eq-Decides}

-- ---- the codes

abbrev pub codes_of : List Wave → List (List ℕ)
codes_of ws = map (λ w. w.code) ws

-- those of a task's signals begin by these letters
abbrev letters : List ℕ
letters = codes "rmpscdofkxj"

abbrev of_task : ℕ → List ℕ → List (List ℕ)
of_task i ls = map (λ l. l ∷ decimal i) ls

abbrev of_tasks : ℕ → ℕ → List (List ℕ)
of_tasks i zero = []
of_tasks i (suc n) = of_task i letters ++ of_tasks (i + 1) n

codes-from : (i : ℕ) (ws : List TaskWaves) → codes_of (flat_map (λ n. task_values n.0 n.1) (enumerate_from i ws)) ≡ of_tasks i (length ws)
codes-from i [] = refl
codes-from i (w ∷ ws) =
    map-append (λ (x : Wave). x.code) (task_values i w) (flat_map (λ n. task_values n.0 n.1) (enumerate_from (i + 1) ws))
    ∙ ap (λ (cs : List (List ℕ)). of_task i letters ++ cs) (codes-from (i + 1) ws)

pub codes-are : (set : TaskSet) (u : ℕ) → codes_of (values (waves set u)) ≡ codes "i" ∷ of_tasks 0 (length set.tasks)
codes-are set u =
    let count : length (waves set u).tasks ≡ length set.tasks = length-map (enumerate_from 0 set.tasks) (λ n. task_waves set u n.0 n.1) ∙ length-enumerate_from 0 set.tasks in
    ap (λ (cs : List (List ℕ)). codes "i" ∷ cs) (codes-from 0 (waves set u).tasks ∙ ap (of_tasks 0) count)

-- ---- lists that differ

abbrev pub Apart : List ℕ → List (List ℕ) → Type 0
Apart c ds = AllByRecursion (λ d. bytes_eq c d ≡ false) ds

apart-append : (c : List ℕ) (ds es : List (List ℕ)) → Apart c ds → Apart c es → Apart c (ds ++ es)
apart-append c [] es first second = second
apart-append c (d ∷ ds) es first second = (first.0, apart-append c ds es first.1 second)

distinct-append : (ds es : List (List ℕ)) → IsDistinct bytes_eq ds → IsDistinct bytes_eq es → AllByRecursion (λ d. Apart d es) ds → IsDistinct bytes_eq (ds ++ es)
unfolding IsDistinct
distinct-append [] es first second apart = second
distinct-append (d ∷ ds) es first second apart = (apart-append d ds es first.0 apart.0, distinct-append ds es first.1 second apart.1)

pub differ-bytes : (c d : List ℕ) → (c ≡ d → ⊥) → bytes_eq c d ≡ false
differ-bytes c d other =
    elim (cases_Bool (bytes_eq c d)) [
      | inl is ↦ absurd (other ((bytes_eq-Decides c d).0 is))
      | inr no_is ↦ no_is
    ]

-- ---- letters that differ

abbrev all_differ : List ℕ → Bool
all_differ [] = true
all_differ (x ∷ xs) = list_all (λ y. not (nat_eq x y)) xs && all_differ xs

not_false : (b : Bool) → not b ≡ true → b ≡ false
not_false true is = absurd cc
not_false false is = refl

letter-apart : (l k : ℕ) (ds es : List ℕ) → nat_eq l k ≡ false → bytes_eq (l ∷ ds) (k ∷ es) ≡ false
letter-apart l k ds es other = rw other refl

letters-apart : (i l : ℕ) (ds ls : List ℕ) → list_all (λ k. not (nat_eq l k)) ls ≡ true → Apart (l ∷ ds) (of_task i ls)
letters-apart i l ds [] all = tt
letters-apart i l ds (k ∷ ls) all =
    let parts = and_parts (not (nat_eq l k)) (list_all (λ k. not (nat_eq l k)) ls) all in
    (letter-apart l k ds (decimal i) (not_false (nat_eq l k) parts.0), letters-apart i l ds ls parts.1)

distinct-task : (i : ℕ) (ls : List ℕ) → all_differ ls ≡ true → IsDistinct bytes_eq (of_task i ls)
unfolding IsDistinct
distinct-task i [] all = tt
distinct-task i (l ∷ ls) all =
    let parts = and_parts (list_all (λ k. not (nat_eq l k)) ls) (all_differ ls) all in
    (letters-apart i l (decimal i) ls parts.0, distinct-task i ls parts.1)

idle-apart : (i n : ℕ) → Apart (codes "i") (of_tasks i n)
idle-apart i zero = tt
idle-apart i (suc n) = apart-append (codes "i") (of_task i letters) (of_tasks (i + 1) n) (letters-apart i 105 [] letters refl) (idle-apart (i + 1) n)

-- ---- numbers that differ

numbers-apart : (i j l : ℕ) (ls : List ℕ) → i < 2 ^ 64 → j < 2 ^ 64 → i < j → Apart (l ∷ decimal i) (of_task j ls)
numbers-apart i j l [] one two less = tt
numbers-apart i j l (k ∷ ls) one two less =
    let other : l ∷ decimal i ≡ k ∷ decimal j → ⊥ =
    λ is. let same : decimal i ≡ decimal j = cc in let equal = decimal_injective i j one two same in absurd (omega (arith, less, equal)) in
    (differ-bytes (l ∷ decimal i) (k ∷ decimal j) other, numbers-apart i j l ls one two less)

later-apart : (i j l n : ℕ) → i < j → j + n ≤ 2 ^ 64 → Apart (l ∷ decimal i) (of_tasks j n)
later-apart i j l zero less limit = tt
later-apart i j l (suc n) less limit =
    apart-append (l ∷ decimal i) (of_task j letters) (of_tasks (j + 1) n) (numbers-apart i j l letters (omega (arith, less, limit)) (omega (arith, limit)) less)
    (later-apart i (j + 1) l n (omega (arith, less)) (omega (arith, limit)))

each-apart : (i n : ℕ) (ls : List ℕ) → i + 1 + n ≤ 2 ^ 64 → AllByRecursion (λ c. Apart c (of_tasks (i + 1) n)) (of_task i ls)
each-apart i n [] limit = tt
each-apart i n (l ∷ ls) limit = (later-apart i (i + 1) l n (omega arith) limit, each-apart i n ls limit)

distinct-tasks : (i n : ℕ) → i + n ≤ 2 ^ 64 → IsDistinct bytes_eq (of_tasks i n)
unfolding IsDistinct
distinct-tasks i zero limit = tt
distinct-tasks i (suc n) limit =
    let more : i + 1 + n ≤ 2 ^ 64 = omega (arith, limit) in
    distinct-append (of_task i letters) (of_tasks (i + 1) n) (distinct-task i letters refl) (distinct-tasks (i + 1) n more) (each-apart i n letters more)

pub codes-distinct : (set : TaskSet) (u : ℕ) → length set.tasks ≤ 2 ^ 64 → IsDistinct bytes_eq (codes_of (values (waves set u)))
unfolding IsDistinct
codes-distinct set u limit =
    let n = length set.tasks in
    let all : IsDistinct bytes_eq (codes "i" ∷ of_tasks 0 n) = (idle-apart 0 n, distinct-tasks 0 n (omega (arith, limit))) in
    subst (IsDistinct bytes_eq) (sym (codes-are set u)) all
