-- In an admitted set no task misses a deadline: at each tick of a legal history an active server has budget left, which fits before its
-- deadline.
use Rattle.rt_drawing.proofs.Common.{◌≡◌, ℕ, ◌+◌, ◌-◌, ◌≤◌, false, List, ◌∷◌, Some, None, inl, inr, refl, sym, ap, subst, ◌∙◌, arith, zero-add, cases_lt, nat_tests, Account, SetTask, Mode, Active, Asleep, Ended, Faulted, AttemptOutcome, first_serving, due, own, serving_after}
use Rattle.std.proofs.Common.{slice_get, take}
use Rattle.std.proofs.lemmas.List.{take_all, take_at}
use Rattle.rt_server.specs.Fit.{Fits}
use Rattle.rt_image.specs.SystemFile.{TaskSet}
use Rattle.rt_history.specs.Admitted.{IsAdmittedSet}
use Rattle.rt_history.specs.Fit.{TaskFits}
use Rattle.rt_history.specs.OwnPart.{task_state}
use Rattle.rt_history.specs.Legal.{record_at, legal, state_at}
use Rattle.rt_history.proofs.Steps.{length-legal, legal-then, state-of}
use Rattle.rt_laws.proofs.Tasks.{IsReady, IsSound}
use Rattle.rt_laws.proofs.Totals.{Each-at}
use Rattle.rt_laws.proofs.Fitting.{each_sound, each_fits}
use Rattle.rt_drawing.specs.Budgets.{before, serving_at}
use Rattle.rt_drawing.specs.Misses.{misses_in, misses, first_miss}
use Rattle.rt_drawing.proofs.BudgetLaws.{own-before}
use Rattle.rt_drawing.proofs.MissLaws.{first-none}

in_time : (v k t : ℕ) (m : Mode) (a : Account) → IsReady v k m a → (m ≡ Active → Fits t a) → misses_in t m a ≡ false
in_time v k t Active a ready fits = let fit : Fits t a = fits refl in grind (arith, nat_tests, ready.0, fit)
in_time v k t (Asleep w) a ready fits = refl
in_time v k t Ended a ready fits = refl
in_time v k t (Faulted fault) a ready fits = refl

-- the first u ticks of a legal history
legal-begin : (set : TaskSet) (u t : ℕ) → u ≤ t → take u (legal set t) ≡ legal set u
legal-begin set u t within =
    elim (cases_lt u t) [
      | inl below ↦
          let whole = legal-then set u (t - (u + 1)) in
          let all : t ≡ u + 1 + (t - (u + 1)) = omega (arith, below) in
          ap (λ n. take u (legal set n)) all ∙ ap (take u) whole.1 ∙ take_at (legal set u) (record_at (state_at set u) ∷ whole.0) u (length-legal set u)
      | inr last ↦
          let all : t ≡ u = omega (arith, within, last) in
          ap (λ n. take u (legal set n)) all ∙ take_all u (legal set u) (omega (arith, length-legal set u))
    ]

misses-none : (set : TaskSet) (t i u : ℕ) (s : SetTask) → IsAdmittedSet set → slice_get set.tasks i ≡ Some s → u ≤ t
    → misses u (serving_at u s (own i (legal set t))) ≡ false
misses-none set t i u s ok there within =
    let m = state_at set u in
    let x = task_state u (legal set u) i s in
    let at = state-of set u i s there in
    let sound : IsSound m.hyper m.tick (m.tick + 1) x = Each-at (IsSound m.hyper m.tick (m.tick + 1)) m.tasks i x at (each_sound set u ok) in
    let fits : TaskFits u x = Each-at (TaskFits u) m.tasks i x at (each_fits set u ok) in
    let begin : own i (legal set u) ≡ before u (own i (legal set t)) =
    ap (own i) (sym (legal-begin set u t within)) ∙ own-before 0 u i (legal set t) ∙ ap (λ (n : ℕ). before n (own i (legal set t))) (zero-add u) in
    subst (λ (es : List (ℕ × AttemptOutcome)). misses u (due u (serving_after (first_serving s) es)) ≡ false) begin
    (in_time m.tick (m.tick + 1) u x.serving.mode x.serving.account sound.ready fits)

pub none_missed : (set : TaskSet) (t i to : ℕ) (s : SetTask) → IsAdmittedSet set → slice_get set.tasks i ≡ Some s → to ≤ t + 1
    → first_miss to s (own i (legal set t)) ≡ None
none_missed set t i to s ok there within =
    first-none (λ u. serving_at u s (own i (legal set t))) 0 to (λ u from below. misses-none set t i u s ok there (omega (arith, within, below)))
