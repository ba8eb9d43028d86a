-- A task's own records in a legal history: where they stand, and how its server stands at each of them.
use Rattle.rt_laws.proofs.Common.{◌≡◌, ℕ, zero, suc, ◌+◌, ◌<◌, ◌≤◌, ◌==◌, Bool, true, false, List, [], ◌∷◌, ◌++◌, slice_get, Some, ◌⊎◌, inl, inr, refl, sym, ap, subst, ◌∙◌, append_assoc, append-nil, arith, option_map_or, cond_both, coming, wakes_fresh, Fits, SetTask, TaskSet, Active, Asleep, AttemptOutcome, Record, Idle, Busy, IsAdmittedSet, attempt_at, TaskFits, Serving, first_serving, due, after, own, serving_after, TaskState, task_state, MachineState, grants, attempt_of, record_at, legal, state_at, named_cases, state-of, tick_is}
use Rattle.std.proofs.lemmas.Bool.{eqb-true}
use Rattle.rt_history.proofs.OwnPartLaws.{added, added-other, added-own}
use Rattle.rt_history.proofs.ServingLaws.{due-fresh}
use Rattle.rt_history.proofs.Steps.{own-next, legal-first}
use Rattle.rt_laws.proofs.Totals.{Each, Each-more, Each-append, Each-at}
use Rattle.rt_laws.proofs.Tasks.{IsSound}
use Rattle.rt_laws.proofs.Fitting.{each_sound, each_fits}

-- ---- one record more

-- a record is not the task's, or it is the attempt of the task, which stands so and is active
abbrev pub IsAdded : ℕ → (ℕ → Bool) → ℕ → TaskState → Record → Type 0
IsAdded t granted i x r = (added t i r ≡ []) ⊎ ((added t i r ≡ (t, (attempt_at t granted x.program).outcome) ∷ []) × (x.serving.mode ≡ Active))

pub added-at : (m : MachineState) (i : ℕ) (x : TaskState) → slice_get m.tasks i ≡ Some x → IsAdded m.tick (grants m i) i x (record_at m)
added-at m i x there =
    let t = m.tick in
    named_cases (λ r. IsAdded t (grants m i) i x (option_map_or (λ n. Busy (attempt_of t n.0 (grants m n.0) n.1.program)) r Idle)) m.tasks (λ none. inl refl)
    (λ j y is. elim (j == i) as (λ b. (j == i) ≡ b → IsAdded t (grants m i) i x (Busy (attempt_of t j (grants m j) y.program))) [
      | true ↦ λ hit.
          let place : j ≡ i = eqb-true j i hit in
          let same : Some y ≡ Some x = sym is.there ∙ ap (slice_get m.tasks) place ∙ there in
          let it : y ≡ x = cc in
          let active : y.serving.mode ≡ Active = is.active in
          let outcome : (attempt_at t (grants m j) y.program).outcome ≡ (attempt_at t (grants m i) x.program).outcome =
          ap (λ (n : ℕ). (attempt_at t (grants m n) y.program).outcome) place ∙ ap (λ (z : TaskState). (attempt_at t (grants m i) z.program).outcome) it in
          inr (
            added-own t i (attempt_of t j (grants m j) y.program) (attempt_at t (grants m i) x.program).outcome hit outcome,
            subst (λ (z : TaskState). z.serving.mode ≡ Active) it active,
          )
      | false ↦ λ miss. inl (added-other t i (attempt_of t j (grants m j) y.program) miss)
    ] refl)

-- ---- at each own record the task is active and its budget fits

abbrev pub FitsAlong : Serving → List (ℕ × AttemptOutcome) → Type 0
FitsAlong v [] = Unit {0}
FitsAlong v (e ∷ es) = ((due e.0 v).mode ≡ Active) × Fits e.0 (due e.0 v).account × FitsAlong (after e.0 e.1 (due e.0 v).account) es

FitsAlong-push : (v : Serving) (es : List (ℕ × AttemptOutcome)) (e : ℕ × AttemptOutcome) → FitsAlong v es
    → (due e.0 (serving_after v es)).mode ≡ Active → Fits e.0 (due e.0 (serving_after v es)).account → FitsAlong v (es ++ e ∷ [])
FitsAlong-push v [] e along active fit = (active, fit, tt)
FitsAlong-push v (f ∷ es) e along active fit = (along.0, along.1, FitsAlong-push (after f.0 f.1 (due f.0 v).account) es e along.2 active fit)

fits_along-next : (set : TaskSet) (t i : ℕ) (s : SetTask) → IsAdmittedSet set → slice_get set.tasks i ≡ Some s
    → FitsAlong (first_serving s) (own i (legal set t)) → FitsAlong (first_serving s) (own i (legal set (t + 1)))
fits_along-next set t i s ok there along =
    let x = task_state t (legal set t) i s in
    let at = state-of set t i s there in
    let v = first_serving s in
    let granted = grants (state_at set t) i in
    let one : IsAdded t granted i x (record_at (state_at set t)) = subst (λ u. IsAdded u granted i x (record_at (state_at set t))) (tick_is set t) (added-at (state_at set t) i x at) in
    elim one [
      | inl none ↦ subst (FitsAlong v) (sym (own-next set t i ∙ ap (λ (es : List (ℕ × AttemptOutcome)). own i (legal set t) ++ es) none ∙ append-nil (own i (legal set t)))) along
      | inr one ↦
          let fit : Fits t x.serving.account = Each-at (TaskFits t) (state_at set t).tasks i x at (each_fits set t ok) one.1 in
          subst (FitsAlong v) (sym (own-next set t i ∙ ap (λ (es : List (ℕ × AttemptOutcome)). own i (legal set t) ++ es) one.0))
          (FitsAlong-push v (own i (legal set t)) (t, (attempt_at t granted x.program).outcome) along one.1 fit)
    ]

pub fits_along : (set : TaskSet) (t i : ℕ) (s : SetTask) → IsAdmittedSet set → slice_get set.tasks i ≡ Some s → FitsAlong (first_serving s) (own i (legal set t))
fits_along set zero i s ok there = rw (legal-first set) tt
fits_along set (suc t) i s ok there =
    let next : t + 1 ≡ suc t = omega arith in
    subst (λ u. FitsAlong (first_serving s) (own i (legal set u))) next (fits_along-next set t i s ok there (fits_along set t i s ok there))

-- ---- the budget that a fresh wake takes

pub comes-at : (set : TaskSet) (r i : ℕ) (s : SetTask) → IsAdmittedSet set → slice_get set.tasks i ≡ Some s
    → (serving_after (first_serving s) (own i (legal set r))).mode ≡ Asleep r → wakes_fresh r (serving_after (first_serving s) (own i (legal set r))).account ≡ true
    → 1 ≤ coming (serving_after (first_serving s) (own i (legal set r))).account
comes-at set r i s ok there asleep fresh =
    let m = state_at set r in
    let v = serving_after (first_serving s) (own i (legal set r)) in
    let x = task_state r (legal set r) i s in
    let sound : IsSound m.hyper m.tick (m.tick + 1) x = Each-at (IsSound m.hyper m.tick (m.tick + 1)) m.tasks i x (state-of set r i s there) (each_sound set r ok) in
    subst (λ (y : Serving). 1 ≤ y.account.q) (due-fresh r r v asleep fresh (omega arith)) sound.granted.asked

-- ---- the ticks of own records

-- records at the ticks from a to b - 1
abbrev pub AreWithin : ℕ → ℕ → List (ℕ × AttemptOutcome) → Type 0
AreWithin a b es = Each (λ e. (a ≤ e.0) × (e.0 < b)) es

added-within : (t i : ℕ) (r : Record) → AreWithin t (t + 1) (added t i r)
added-within t i Idle = tt
added-within t i (Busy a) = cond_both (a.task == i) ((t, a.outcome) ∷ []) [] (AreWithin t (t + 1)) (λ e. ((omega arith, omega arith), tt)) (λ e. tt)

-- what the own part of a history holds beyond that of its first a ticks
pub record Grown (set : TaskSet) (i a b : ℕ) : Type 0 where
  pub more : List (ℕ × AttemptOutcome)
  pub is : own i (legal set b) ≡ own i (legal set a) ++ more
  pub within : AreWithin a b more

grown-next : (set : TaskSet) (i a b : ℕ) → a ≤ b → Grown set i a b → Grown set i a (b + 1)
grown-next set i a b low now =
    let one = added b i (record_at (state_at set b)) in
    record {
      more = now.more ++ one;
      is = own-next set b i ∙ ap (λ (es : List (ℕ × AttemptOutcome)). es ++ one) now.is ∙ append_assoc (own i (legal set a)) now.more one;
      within = Each-append (λ e. (a ≤ e.0) × (e.0 < b + 1)) now.more one
          (Each-more (λ e. (a ≤ e.0) × (e.0 < b)) (λ e. (a ≤ e.0) × (e.0 < b + 1)) (λ e at. (at.0, omega (arith, at.1))) now.more now.within)
          (Each-more (λ e. (b ≤ e.0) × (e.0 < b + 1)) (λ e. (a ≤ e.0) × (e.0 < b + 1)) (λ e at. (omega (arith, at.0, low), at.1)) one (added-within b i (record_at (state_at set b))));
    }

pub grown : (set : TaskSet) (i a n : ℕ) → Grown set i a (a + n)
grown set i a zero =
    let here : a ≡ a + zero = omega arith in
    subst (Grown set i a) here (record { more = []; is = sym (append-nil (own i (legal set a))); within = tt })
grown set i a (suc n) =
    let next : a + n + 1 ≡ a + suc n = omega arith in
    subst (Grown set i a) next (grown-next set i a (a + n) (omega arith) (grown set i a n))

-- each own record is at a tick of the history
pub own-within : (set : TaskSet) (i t : ℕ) → AreWithin 0 t (own i (legal set t))
own-within set i t =
    let at : 0 + t ≡ t = omega arith in
    let all = subst (Grown set i 0) at (grown set i 0 t) in
    let same : own i (legal set t) ≡ all.more = all.is ∙ ap (λ (h : List Record). own i h ++ all.more) (legal-first set) in
    subst (AreWithin 0 t) (sym same) all.within
