-- The lines of a time are those of its block.
use Rattle.rt_waves.proofs.Common.{◌≡◌, ℕ, zero, suc, ◌+◌, ◌-◌, ◌<◌, ◌==◌, nat_lt, true, false, List, [], ◌∷◌, ◌++◌, length, length-append, map, slice_get, Some, inl, inr, refl, sym, ap, subst, ◌∙◌, arith, codes, flat_map, enumerate_from, cases_lt, nat_tests, SetTask, TaskSet, due, record_at, state_at, is_idle, Telling, Changes, TaskWaves, outcome_of, task_waves, Waves, waves, Wave, task_values, idle_value, values, line, time_line, timed, changed_lines, told_before, idle_before, task_standing, waves_at, told_block, telling_at, told_line, block_of, seen, lines_of, lines_at}
use Rattle.rt_waves.specs.declared.block.Telling.TheVariants.{All}
use Rattle.rt_waves.specs.Working.Telling.{told_lines}
use Rattle.rt_waves.proofs.BlockLemmas.{told-all, told-changes, told-append}
use Rattle.rt_waves.proofs.StepLaws.{seen-is, IsTakenBy, behind_of}
use Rattle.rt_waves.proofs.StateLaws.{standing_from}

-- the signals at the time before
abbrev before_from : TaskSet → ℕ → ℕ → List SetTask → List TaskWaves
before_from set t i ss = map (λ n. told_before set t n.0 n.1) (enumerate_from i ss)

abbrev now_from : TaskSet → ℕ → ℕ → List SetTask → List TaskWaves
now_from set t i ss = map (λ n. task_waves set t n.0 n.1) (enumerate_from i ss)

abbrev values_from : ℕ → List TaskWaves → List Wave
values_from i ws = flat_map (λ n. task_values n.0 n.1) (enumerate_from i ws)

-- each server can take the record of tick t, where that is its task's
abbrev pub AreTaken : TaskSet → ℕ → ℕ → List SetTask → Type 0
AreTaken set t i ss = (k : ℕ) (s : SetTask) → slice_get ss k ≡ Some s → IsTakenBy (due t (behind_of set t (i + k) s)).account (outcome_of (i + k) (record_at (state_at set t)))

lines-from : (telling : Telling) (set : TaskSet) (t i : ℕ) (ss : List SetTask) → AreTaken set t i ss
    → flat_map (λ n. lines_of telling n.0 n.1.told (seen t (outcome_of n.0 (record_at (state_at set t))) n.1)) (enumerate_from i (standing_from set t i ss))
    ≡ told_lines telling (values_from i (before_from set t i ss)) (values_from i (now_from set t i ss))
lines-from telling set t i [] taken = refl
lines-from telling set t i (s ∷ ss) taken =
    let r = record_at (state_at set t) in
    let at : i + 0 ≡ i = omega arith in
    let one : IsTakenBy (due t (behind_of set t i s)).account (outcome_of i r) = subst (λ (j : ℕ). IsTakenBy (due t (behind_of set t j s)).account (outcome_of j r)) at (taken 0 s refl) in
    let same : seen t (outcome_of i r) (task_standing set t i s) ≡ task_waves set t i s = sym (seen-is set t i s (outcome_of i r) refl one) in
    let rest = lines-from telling set t (i + 1) ss
    (λ k z there. let on : i + suc k ≡ (i + 1) + k = omega arith in subst (λ (j : ℕ). IsTakenBy (due t (behind_of set t j z)).account (outcome_of j r)) on (taken (suc k) z there)) in
    ap (λ (w : TaskWaves). lines_of telling i (told_before set t i s) w ++ flat_map (λ n. lines_of telling n.0 n.1.told (seen t (outcome_of n.0 r) n.1)) (enumerate_from (i + 1) (standing_from set t (i + 1) ss))) same
    ∙ ap (λ (zs : List ℕ). lines_of telling i (told_before set t i s) (task_waves set t i s) ++ zs) rest
    ∙ sym (told-append telling (task_values i (told_before set t i s)) (task_values i (task_waves set t i s)) (values_from (i + 1) (before_from set t (i + 1) ss)) (values_from (i + 1) (now_from set t (i + 1) ss)) refl)

-- the waves of the time before
abbrev before_waves : TaskSet → ℕ → Waves
before_waves set t = record { idle = idle_before set t; tasks = before_from set t 0 set.tasks }

lines-are : (telling : Telling) (set : TaskSet) (from t : ℕ) → AreTaken set t 0 set.tasks
    → lines_at telling t (record_at (state_at set t)) (waves_at set from t).idle (waves_at set from t).tasks ≡ told_lines telling (values (before_waves set t)) (values (waves set t))
unfolding waves_at
lines-are telling set from t taken =
    ap (λ (zs : List ℕ). told_line telling (idle_value (idle_before set t)).value (idle_value (is_idle (record_at (state_at set t)))) ++ zs) (lines-from telling set t 0 set.tasks taken)

same-length : (i : ℕ) (xs ys : List TaskWaves) → length xs ≡ length ys → length (values_from i xs) ≡ length (values_from i ys)
same-length i [] [] same = refl
same-length i [] (y ∷ ys) same = absurd (omega arith)
same-length i (x ∷ xs) [] same = absurd (omega arith)
same-length i (x ∷ xs) (y ∷ ys) same =
    let rest = same-length (i + 1) xs ys (omega arith) in
    let one : length (task_values i x) ≡ length (task_values i y) = refl in
    length-append (task_values i x) (values_from (i + 1) xs) ∙ ap (λ (n : ℕ). length (task_values i x) + n) rest ∙ ap (λ (n : ℕ). n + length (values_from (i + 1) ys)) one
    ∙ sym (length-append (task_values i y) (values_from (i + 1) ys))

counts : (set : TaskSet) (t i : ℕ) (ss : List SetTask) → length (before_from set t i ss) ≡ length (now_from set t i ss)
counts set t i [] = refl
counts set t i (s ∷ ss) = ap suc (counts set t (i + 1) ss)

all-told : (set : TaskSet) (t : ℕ) → told_lines All (values (before_waves set t)) (values (waves set t)) ≡ flat_map line (values (waves set t))
all-told set t = told-all (values (before_waves set t)) (values (waves set t)) (ap suc (same-length 0 (before_from set t 0 set.tasks) (now_from set t 0 set.tasks) (counts set t 0 set.tasks)))

pub block-is : (set : TaskSet) (from t : ℕ) → AreTaken set t 0 set.tasks
    → block_of (telling_at from t) t (lines_at (telling_at from t) t (record_at (state_at set t)) (waves_at set from t).idle (waves_at set from t).tasks) ≡ told_block set from t
block-is set from t taken =
    elim (cases_lt t from) [
      | inl early ↦ let is : nat_lt t from ≡ true = grind (arith, nat_tests) in rw is refl
      | inr come ↦ let is : nat_lt t from ≡ false = grind (arith, nat_tests) in rw is (elim (cases_lt from t) [
        | inl past ↦ let other : (t == from) ≡ false = grind (arith, nat_tests) in rw other (later set from t taken past)
        | inr first ↦ let same : (t == from) ≡ true = grind (arith, nat_tests) in rw same
            (ap (λ (zs : List ℕ). time_line t ++ codes "$dumpvars\n" ++ zs ++ codes "$end\n") (lines-are All set from t taken ∙ all-told set t))
      ])
    ]
  where
    later : (set : TaskSet) (from t : ℕ) → AreTaken set t 0 set.tasks → from < t
        → timed t (lines_at Changes t (record_at (state_at set t)) (waves_at set from t).idle (waves_at set from t).tasks) ≡ timed t (changed_lines (values (waves set (t - 1))) (values (waves set t)))
    later set from zero taken past = absurd (omega arith)
    later set from (suc u) taken past =
        let at : suc u - 1 ≡ u = omega arith in
        ap (timed (suc u)) (lines-are Changes set from (suc u) taken ∙ told-changes (values (before_waves set (suc u))) (values (waves set (suc u)))
        ∙ ap (λ (v : ℕ). changed_lines (values (waves set v)) (values (waves set (suc u)))) (sym at))
