-- The budget at the begin of a picture.
use Rattle.rt_drawing.proofs.Common.{◌≡◌, ℕ, zero, suc, ◌+◌, ◌≤◌, ◌==◌, nat_le, nat_lt, inl, inr, true, false, cond, Some, List, [], ◌∷◌, ◌++◌, refl, sym, ap, ◌∙◌, arith, zero-add, cases_lt, nat_tests, SetTask, AttemptOutcome, Record, Idle, Busy, Serving, first_serving, due, after, own, own_from, serving_after, Window, noted}
use Rattle.std.proofs.Common.{unwrap_or, take}
use Rattle.std.specs.List.{prefix_len}
use Rattle.rt_history.specs.OwnPart.{task_state}
use Rattle.rt_drawing.specs.Drawing.{drawing_of}
use Rattle.rt_drawing.specs.Budgets.{before, told_budget}

-- ---- one record more

pub told-more : (t : ℕ) (s : Serving) (es : List (ℕ × AttemptOutcome)) (u : ℕ) (o : AttemptOutcome)
    → told_budget t s (es ++ (u, o) ∷ []) ≡ noted t u (told_budget t s es) (serving_after s es)
told-more t s [] u o = refl
told-more t s (e ∷ es) u o =
    let next = after e.0 e.1 (due e.0 s).account in
    let q = (due t s).account.q in
    elim (nat_le t e.0) as (λ b. cond b (Some q) (told_budget t next (es ++ (u, o) ∷ [])) ≡ noted t u (cond b (Some q) (told_budget t next es)) (serving_after next es)) [
      | true ↦ refl
      | false ↦ told-more t next es u o
    ]

pub told-is : (t : ℕ) (s : Serving) (es : List (ℕ × AttemptOutcome))
    → unwrap_or (told_budget t s es) (due t (serving_after s es)).account.q ≡ (due t (serving_after s (before t es))).account.q
told-is t s [] = refl
told-is t s (e ∷ es) =
    elim (cases_lt e.0 t) [
      | inl early ↦
          let le : nat_le t e.0 ≡ false = grind (arith, nat_tests) in
          let lt : nat_lt e.0 t ≡ true = grind (arith, nat_tests) in
          let more : 1 + prefix_len (λ (x : ℕ × AttemptOutcome). nat_lt x.0 t) es ≡ suc (prefix_len (λ (x : ℕ × AttemptOutcome). nat_lt x.0 t) es) = omega arith in
          rw (le, lt, more) (told-is t (after e.0 e.1 (due e.0 s).account) es)
      | inr here ↦
          let le : nat_le t e.0 ≡ true = grind (arith, nat_tests) in
          let lt : nat_lt e.0 t ≡ false = grind (arith, nat_tests) in
          rw (le, lt) refl
    ]

-- ---- at the begin of a picture

none-before : (t u i : ℕ) (h : List Record) → t ≤ u → before t (own_from u i h) ≡ []
none-before t u i [] late = refl
none-before t u i (Idle ∷ h) late = none-before t (u + 1) i h (omega (arith, late))
none-before t u i (Busy a ∷ h) late =
    let later = own_from (u + 1) i h in
    elim (a.task == i) as (λ b. before t (cond b ((u, a.outcome) ∷ later) later) ≡ []) [
      | true ↦
          let no : nat_lt u t ≡ false = grind (arith, nat_tests, late) in
          rw no refl
      | false ↦ none-before t (u + 1) i h (omega (arith, late))
    ]

-- the own part of the first k records
pub own-before : (u k i : ℕ) (h : List Record) → own_from u i (take k h) ≡ before (u + k) (own_from u i h)
own-before u zero i [] = refl
own-before u (suc k) i [] = refl
own-before u zero i (r ∷ h) = sym (none-before (u + zero) u i (r ∷ h) (omega arith))
own-before u (suc k) i (Idle ∷ h) =
    let at : (u + 1) + k ≡ u + suc k = omega arith in
    own-before (u + 1) k i h ∙ ap (λ (t : ℕ). before t (own_from (u + 1) i h)) at
own-before u (suc k) i (Busy a ∷ h) =
    let at : (u + 1) + k ≡ u + suc k = omega arith in
    let es = own_from (u + 1) i h in
    let fewer = own_from (u + 1) i (take k h) in
    let later : fewer ≡ before (u + suc k) es = own-before (u + 1) k i h ∙ ap (λ (t : ℕ). before t es) at in
    elim (a.task == i) as (λ b. cond b ((u, a.outcome) ∷ fewer) fewer ≡ before (u + suc k) (cond b ((u, a.outcome) ∷ es) es)) [
      | true ↦
          let early : nat_lt u (u + suc k) ≡ true = grind (arith, nat_tests) in
          let more : 1 + prefix_len (λ (x : ℕ × AttemptOutcome). nat_lt x.0 (u + suc k)) es ≡ suc (prefix_len (λ (x : ℕ × AttemptOutcome). nat_lt x.0 (u + suc k)) es) = omega arith in
          ap (λ (xs : List (ℕ × AttemptOutcome)). (u, a.outcome) ∷ xs) later ∙ rw (early, more) refl
      | false ↦ later
    ]

pub begin-told : (w : Window) (allowed : ℕ) (h : List Record) (i : ℕ) (s : SetTask)
    → (drawing_of w allowed h i s).budget ≡ (task_state w.from (take w.from h) i s).serving.account.q
begin-told w allowed h i s =
    ap (λ (es : List (ℕ × AttemptOutcome)). (due w.from (serving_after (first_serving s) es)).account.q)
    (sym (own-before 0 w.from i h ∙ ap (λ (t : ℕ). before t (own i h)) (zero-add w.from)))
