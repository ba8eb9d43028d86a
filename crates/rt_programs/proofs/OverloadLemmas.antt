-- What is told of a set that isn't admitted.
use Rattle.rt_programs.proofs.Common.{◌≡◌, ℕ, List, [], ◌∷◌, ◌++◌, Some, refl, sym, ap, subst, ◌∙◌, Params, TaskSet, task_params}
use Rattle.rt_admit.specs.declared.fault.AdmitFault.{AdmitFault}
use Rattle.rt_admit.specs.declared.fault.AdmitFault.TheVariants.{NoTasks, TooMany, BadHyper, ZeroBudget, BudgetOverPeriod, NotDivisor, Overload}
use Rattle.rt_admit.specs.Admission.{IsOverloaded}
use Rattle.rt_admit.specs.Refusal.{refusal}
use Rattle.rt_admit.specs.Weight.{total_weight}
use Rattle.rt_admit.proofs.RefusalLemmas.{overload-refused, refusal-overloaded}
use Rattle.rt_history.specs.Busy.{busy_at}
use Rattle.rt_laws.specs.declared.breach.exceeding.Breach.{Breach}
use Rattle.rt_laws.specs.breach.Breach.{IsFirstBreach}
use Rattle.rt_programs.specs.Check.{weight_lines, overload_text, IsReason}

-- a set that isn't refused for its load
pub no-reason : (s : TaskSet) (hyper : ℕ) (tasks : List Params) (fault : AdmitFault) → refusal hyper tasks ≡ Some fault → (IsOverloaded hyper tasks → ⊥) → IsReason s fault []
no-reason s hyper tasks NoTasks is never = refl
no-reason s hyper tasks TooMany is never = refl
no-reason s hyper tasks BadHyper is never = refl
no-reason s hyper tasks (ZeroBudget i) is never = refl
no-reason s hyper tasks (BudgetOverPeriod i) is never = refl
no-reason s hyper tasks (NotDivisor i) is never = refl
no-reason s hyper tasks (Overload total whole) is never = absurd (never (overload-refused hyper total whole tasks is).0)

-- the refusal of one that is
pub overload-is : (hyper : ℕ) (tasks : List Params) (fault : AdmitFault) → refusal hyper tasks ≡ Some fault → IsOverloaded hyper tasks
    → fault ≡ Overload (total_weight hyper tasks) hyper
overload-is hyper tasks fault is over = let same = sym is ∙ refusal-overloaded hyper tasks over in cc

-- what is told of it
pub load-reason : (s : TaskSet) (hyper : ℕ) (tasks : List Params) (fault : AdmitFault) (b : Breach) → s.hyper ≡ hyper → task_params s.tasks ≡ tasks
    → refusal hyper tasks ≡ Some fault → IsOverloaded hyper tasks → IsFirstBreach (busy_at s hyper) b → IsReason s fault (overload_text hyper tasks b)
load-reason s hyper tasks fault b at are is over first =
    let text = overload_text hyper tasks b in
    let same : text ≡ overload_text s.hyper (task_params s.tasks) b =
    ap (λ (h : ℕ). overload_text h tasks b) (sym at) ∙ ap (λ (ts : List Params). overload_text s.hyper ts b) (sym are) in
    subst (λ (f : AdmitFault). IsReason s f text) (sym (overload-is hyper tasks fault is over))
    (b, subst (λ (h : ℕ). IsFirstBreach (busy_at s h) b) (sym at) first, same)

not-empty : (xs : List ℕ) (y : ℕ) (ys : List ℕ) → xs ++ y ∷ ys ≡ [] → ⊥
not-empty [] y ys is = absurd cc
not-empty (x ∷ xs) y ys is = absurd cc

pub load-tells : (hyper : ℕ) (tasks : List Params) (b : Breach) → overload_text hyper tasks b ≡ [] → ⊥
load-tells hyper tasks b is = not-empty (weight_lines hyper tasks) _ _ is
