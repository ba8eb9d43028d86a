-- An idle stretch has a block at its first tick alone.
use Rattle.rt_waves.proofs.Common.{◌≡◌, ◌≢◌, ℕ, ◌+◌, ◌-◌, ◌<◌, ◌≤◌, ◌==◌, nat_lt, Bool, true, false, List, [], ◌∷◌, ◌++◌, append-nil, refl, sym, ap, subst, ◌∙◌, arith, flat_map, enumerate_from, nat_tests, TaskSet, Idle, record_at, legal, state_at, Waves, waves, Wave, task_values, idle_value, values, block, told_block}
use Rattle.std.proofs.Common.{replicate}
use Rattle.std.proofs.lemmas.List.{append_cancel_left}
use Rattle.rt_waves.specs.WavesText.{later_block}
use Rattle.rt_waves.proofs.IdleLaws.{IsIdleFrom, stretch-text, entry-idle}

-- the values of all tasks
abbrev tasks_of : Waves → List Wave
tasks_of w = flat_map (λ n. task_values n.0 n.1) (enumerate_from 0 w.tasks)

-- where the first signal becomes 1, something is reported
not-empty : (u : ℕ) (a b : Bool) (xs ys : List Wave) → a ≡ false → b ≡ true → later_block u (idle_value a ∷ xs) (idle_value b ∷ ys) ≢ []
not-empty u true b xs ys was is none = absurd cc
not-empty u false false xs ys was is none = absurd cc
not-empty u false true xs ys was is none = cc

pub idle-begins : (set : TaskSet) (from u : ℕ) → from ≤ u → (waves set u).idle ≡ false → (waves set (u + 1)).idle ≡ true → block set from (u + 1) ≢ []
idle-begins set from u since was is none =
    let other : (u + 1 == from) ≡ false = grind (arith, nat_tests) in
    let before : u + 1 - 1 ≡ u = omega arith in
    let later : block set from (u + 1) ≡ later_block (u + 1) (values (waves set (u + 1 - 1))) (values (waves set (u + 1))) = rw other refl in
    let shown : block set from (u + 1) ≡ later_block (u + 1) (values (waves set u)) (values (waves set (u + 1))) =
    later ∙ ap (λ (v : ℕ). later_block (u + 1) (values (waves set v)) (values (waves set (u + 1)))) before in
    not-empty (u + 1) (waves set u).idle (waves set (u + 1)).idle (tasks_of (waves set u)) (tasks_of (waves set (u + 1))) was is (sym shown ∙ none)

-- the second of two idle ticks, in a window that has begun by the first
second-silent : (set : TaskSet) (from v : ℕ) → IsIdleFrom set v 2 → (v < from → ⊥) → told_block set from (v + 1) ≡ []
second-silent set from v idle begun =
    let f = told_block set from in
    let both : f v ++ (f (v + 1) ++ []) ≡ f v ++ [] = stretch-text set from v 2 idle (omega arith) (λ after before. begun after) ∙ sym (append-nil (f v)) in
    sym (append-nil (f (v + 1))) ∙ append_cancel_left (f v) (f (v + 1) ++ []) [] both

pub idle-silent : (set : TaskSet) (from a n u : ℕ) → legal set (a + n) ≡ legal set a ++ replicate n Idle → a < u → u < a + n → from < u → block set from u ≡ []
idle-silent set from a n u goes after before since =
    let v : ℕ = u - 1 in
    let place : v + 1 ≡ u = omega (arith, after) in
    let whole = entry-idle set a a n goes in
    let two : IsIdleFrom set v 2 =
    record {
      each = λ k below.
          let at : a + (v - a + k) ≡ v + k = omega (arith, after) in
          subst (λ (t : ℕ). record_at (state_at set t) ≡ Idle) at (whole.each (v - a + k) (omega (arith, after, before, below)));
    } in
    let in_window : nat_lt u from ≡ false = grind (arith, nat_tests) in
    let shown : block set from u ≡ told_block set from u = rw in_window refl in
    shown ∙ ap (told_block set from) (sym place) ∙ second-silent set from v two (λ less. omega (arith, since, less, place))
