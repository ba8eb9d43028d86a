-- How the texts of windows join.
use Rattle.rt_waves.proofs.Common.{◌≡◌, ℕ, zero, suc, ◌+◌, ◌-◌, ◌<◌, ◌≤◌, ◌==◌, true, false, List, ◌++◌, length, append_assoc, refl, sym, ap, ◌∙◌, arith, flat_map, range_with_len, eq-eqb, nat_tests, TaskSet, waves, values, time_line, block}
use Rattle.rt_names.specs.TaskNames.{task_names}
use Rattle.rt_waves.specs.declared.scale.Scale.{Scale}
use Rattle.rt_waves.specs.WavesText.{first_block, head_text, waves_text}
use Rattle.rt_waves.proofs.BlockLemmas.{range-append}
use Rattle.rt_waves.specs.laws.Windows.{up_to_end, behind_first}

pub text-ends : (scale : Scale) (set : TaskSet) (from n : ℕ) → waves_text scale set from n ≡ up_to_end scale set from n ++ time_line (from + n)
text-ends scale set from n = refl

-- ---- the first block

regrouped : (h a b e : List ℕ) → (h ++ (a ++ b)) ++ e ≡ (h ++ a) ++ (b ++ e)
regrouped h a b e = simp append_assoc refl

begins-with : (h first e : List ℕ) (f : ℕ → List ℕ) (from m : ℕ) → f from ≡ first
    → (h ++ flat_map f (range_with_len from (suc m))) ++ e ≡ (h ++ first) ++ (flat_map f (range_with_len (from + 1) (suc m - 1)) ++ e)
begins-with h first e f from m is =
    let left : suc m - 1 ≡ m = omega arith in
    regrouped h (f from) (flat_map f (range_with_len (from + 1) m)) e
    ∙ ap (λ (zs : List ℕ). (h ++ zs) ++ (flat_map f (range_with_len (from + 1) m) ++ e)) is
    ∙ ap (λ (k : ℕ). (h ++ first) ++ (flat_map f (range_with_len (from + 1) k) ++ e)) (sym left)

first-is : (set : TaskSet) (from : ℕ) → block set from from ≡ first_block from (values (waves set from))
first-is set from = let same : (from == from) ≡ true = eq-eqb from from refl in rw same refl

pub text-begins : (scale : Scale) (set : TaskSet) (from n : ℕ) → 1 ≤ n
    → waves_text scale set from n ≡ head_text scale (task_names set) (length set.tasks) ++ first_block from (values (waves set from)) ++ behind_first set from n
text-begins scale set from zero some = absurd (omega (arith, some))
text-begins scale set from (suc m) some =
    begins-with (head_text scale (task_names set) (length set.tasks)) (first_block from (values (waves set from))) (time_line (from + suc m)) (block set from) from m (first-is set from)

-- ---- two windows

-- behind the first times of both their blocks are the same
later-same : (set : TaskSet) (from v a n : ℕ) → from < a → v < a → flat_map (block set from) (range_with_len a n) ≡ flat_map (block set v) (range_with_len a n)
later-same set from v a zero one two = refl
later-same set from v a (suc n) one two =
    let apart : (a == from) ≡ false = grind (arith, nat_tests) in
    let other : (a == v) ≡ false = grind (arith, nat_tests) in
    let here : block set from a ≡ block set v a = rw (apart, other) refl in
    ap (λ (zs : List ℕ). zs ++ flat_map (block set from) (range_with_len (a + 1) n)) here
    ∙ ap (λ (zs : List ℕ). block set v a ++ zs) (later-same set from v (a + 1) n (omega (arith, one)) (omega (arith, two)))

joined : (h a b c e : List ℕ) → (h ++ (a ++ (b ++ c))) ++ e ≡ ((h ++ a) ++ b) ++ (c ++ e)
joined h a b c e = simp append_assoc refl

meet-at : (h : List ℕ) (end f g : ℕ → List ℕ) (from n k : ℕ) → flat_map f (range_with_len (from + n + 1) k) ≡ flat_map g (range_with_len (from + n + 1) k)
    → (h ++ flat_map f (range_with_len from (n + suc k))) ++ end (from + (n + suc k))
    ≡ ((h ++ flat_map f (range_with_len from n)) ++ f (from + n)) ++ (flat_map g (range_with_len (from + n + 1) (suc k - 1)) ++ end (from + n + suc k))
meet-at h end f g from n k same =
    let front = flat_map f (range_with_len from n) in
    let place : from + (n + suc k) ≡ from + n + suc k = omega arith in
    let left : suc k - 1 ≡ k = omega arith in
    ap (λ (zs : List ℕ). (h ++ zs) ++ end (from + (n + suc k))) (range-append f from n (suc k))
    ∙ joined h front (f (from + n)) (flat_map f (range_with_len (from + n + 1) k)) (end (from + (n + suc k)))
    ∙ ap (λ (zs : List ℕ). ((h ++ front) ++ f (from + n)) ++ (zs ++ end (from + (n + suc k)))) same
    ∙ ap (λ (u : ℕ). ((h ++ front) ++ f (from + n)) ++ (flat_map g (range_with_len (from + n + 1) k) ++ end u)) place
    ∙ ap (λ (j : ℕ). ((h ++ front) ++ f (from + n)) ++ (flat_map g (range_with_len (from + n + 1) j) ++ end (from + n + suc k))) (sym left)

pub texts-meet : (scale : Scale) (set : TaskSet) (from n m : ℕ) → 1 ≤ n → 1 ≤ m
    → waves_text scale set from (n + m) ≡ up_to_end scale set from n ++ block set from (from + n) ++ behind_first set (from + n) m
texts-meet scale set from n zero first some = absurd (omega (arith, some))
texts-meet scale set from n (suc k) first some =
    meet-at (head_text scale (task_names set) (length set.tasks)) time_line (block set from) (block set (from + n)) from n k
    (later-same set from (from + n) (from + n + 1) k (omega (arith, first)) (omega arith))
