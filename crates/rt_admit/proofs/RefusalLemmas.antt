-- Lemmas that tie the refusal of a set to the rule of admission.
use Rattle.std.proofs.Common.{◌≡◌, ◌≢◌, ℕ, ◌<◌, ◌≤◌, Bool, true, false, not, ◌==◌, ◌||◌, nat_lt, List, [], ◌∷◌, length, get_or, All, position, Option, Some, None, option_map, Result, Ok, Err, IsOk, IsErr, ◌↔◌, refl, arith}
use Rattle.std.proofs.lemmas.Bool.Decides.{nat_tests}
use Rattle.std.proofs.lemmas.List.Elements.{All-head, All-tail}
use Rattle.std.proofs.lemmas.List.Sums.{prefix_len_passes}
use Rattle.std.specs.List.{position_or_len}
use Rattle.rt_admit.specs.declared.params.Params.{Params}
use Rattle.rt_admit.specs.Limits.{task_limit, hyper_limit}
use Rattle.rt_admit.specs.declared.fault.AdmitFault.{AdmitFault}
use Rattle.rt_admit.specs.Weight.{total_weight}
use Rattle.rt_admit.specs.declared.fault.AdmitFault.TheVariants.{NoTasks, TooMany, BadHyper, ZeroBudget, BudgetOverPeriod, NotDivisor, Overload}
use Rattle.rt_admit.specs.Admission.{IsEligible, IsAdmitted, IsOverloaded}
use Rattle.rt_admit.specs.Refusal.{has_no_budget, is_over_period, is_no_divisor, fault_if, first_fault, refusal, misfit}

-- no element passes a test that finds no position
position-none : {X : Type 0} (p : X → Bool) (xs : List X) → position p xs ≡ None → All (λ x. p x ≡ false) xs
position-none p xs none k d h =
    let beyond : length xs ≤ position_or_len p xs = grind (arith, nat_tests, none) in
    let passes = prefix_len_passes (λ x. not (p x)) xs k d (omega arith) in
    grind (arith, passes)

position-cons : {X : Type 0} (p : X → Bool) (x : X) (xs : List X) → p x ≡ false → position p xs ≡ None →
    position p (x ∷ xs) ≡ None
position-cons p x xs fails rest = grind (arith, nat_tests)

-- a test that no element passes finds no position
none-position : {X : Type 0} (p : X → Bool) (xs : List X) → All (λ x. p x ≡ false) xs → position p xs ≡ None
none-position p [] fails = refl
none-position p (x ∷ xs) fails =
    position-cons p x xs (All-head (λ y. p y ≡ false) x xs fails)
    (none-position p xs (All-tail (λ y. p y ≡ false) x xs fails))

eligible-task : (hyper : ℕ) (task : Params) → has_no_budget task ≡ false → is_over_period task ≡ false →
    is_no_divisor hyper task ≡ false → IsEligible hyper task
eligible-task hyper task asks fits divides = record {
  budgeted = grind (arith, nat_tests);
  within = grind (arith, nat_tests);
  divides = grind (arith, nat_tests);
}

-- tasks of which none is faulty are eligible
pub eligible-none : (hyper : ℕ) (tasks : List Params) → position has_no_budget tasks ≡ None →
    position is_over_period tasks ≡ None → position (is_no_divisor hyper) tasks ≡ None →
    All (IsEligible hyper) tasks
eligible-none hyper tasks asks fits divides k d h =
    eligible-task hyper (get_or tasks k d) (position-none has_no_budget tasks asks k d h)
    (position-none is_over_period tasks fits k d h) (position-none (is_no_divisor hyper) tasks divides k d h)

has_no_budget-eligible : (hyper : ℕ) (task : Params) → IsEligible hyper task → has_no_budget task ≡ false
has_no_budget-eligible hyper task ok = grind (arith, nat_tests, ok.budgeted)

is_over_period-eligible : (hyper : ℕ) (task : Params) → IsEligible hyper task → is_over_period task ≡ false
is_over_period-eligible hyper task ok = grind (arith, nat_tests, ok.within)

is_no_divisor-eligible : (hyper : ℕ) (task : Params) → IsEligible hyper task → is_no_divisor hyper task ≡ false
is_no_divisor-eligible hyper task ok = grind (arith, nat_tests, ok.divides)

-- each test of the tasks finds none among eligible ones
pub position-has_no_budget : (hyper : ℕ) (tasks : List Params) → All (IsEligible hyper) tasks →
    position has_no_budget tasks ≡ None
position-has_no_budget hyper tasks ok =
    none-position has_no_budget tasks (λ k d h. has_no_budget-eligible hyper (get_or tasks k d) (ok k d h))

pub position-is_over_period : (hyper : ℕ) (tasks : List Params) → All (IsEligible hyper) tasks →
    position is_over_period tasks ≡ None
position-is_over_period hyper tasks ok =
    none-position is_over_period tasks (λ k d h. is_over_period-eligible hyper (get_or tasks k d) (ok k d h))

pub position-is_no_divisor : (hyper : ℕ) (tasks : List Params) → All (IsEligible hyper) tasks →
    position (is_no_divisor hyper) tasks ≡ None
position-is_no_divisor hyper tasks ok =
    none-position (is_no_divisor hyper) tasks (λ k d h. is_no_divisor-eligible hyper (get_or tasks k d) (ok k d h))

-- a list of findings without a fault begins with none
first_fault-none : (o : Option AdmitFault) (rest : List (Option AdmitFault)) → first_fault (o ∷ rest) ≡ None →
    (o ≡ None) × (first_fault rest ≡ None)
first_fault-none None rest e = (refl, e)
first_fault-none (Some fault) rest e = cc

-- a test that gives no fault is not met
fault_if-none : (met : Bool) (fault : AdmitFault) → fault_if met fault ≡ None → met ≡ false
fault_if-none true fault e = cc
fault_if-none false fault e = refl

-- a search that gives no fault finds nothing
option_map-none : (f : ℕ → AdmitFault) (o : Option ℕ) → option_map f o ≡ None → o ≡ None
option_map-none f None e = refl
option_map-none f (Some i) e = cc

-- a set that isn't refused is admitted
pub admitted-none : (hyper : ℕ) (tasks : List Params) → refusal hyper tasks ≡ None → IsAdmitted hyper tasks
admitted-none hyper tasks none =
    let a = first_fault-none _ _ none in
    let b = first_fault-none _ _ a.1 in
    let c = first_fault-none _ _ b.1 in
    let d = first_fault-none _ _ c.1 in
    let e = first_fault-none _ _ d.1 in
    let f = first_fault-none _ _ e.1 in
    let g = first_fault-none _ _ f.1 in
    let empty : (length tasks == 0) ≡ false = fault_if-none _ _ a.0 in
    let many : nat_lt task_limit (length tasks) ≡ false = fault_if-none _ _ b.0 in
    let hyper_bad : ((hyper == 0) || nat_lt hyper_limit hyper) ≡ false = fault_if-none _ _ c.0 in
    let over : nat_lt hyper (total_weight hyper tasks) ≡ false = fault_if-none _ _ g.0 in
    record {
      nonempty = grind (arith, nat_tests, empty);
      few = grind (arith, nat_tests, many);
      hyper_positive = grind (arith, nat_tests, hyper_bad);
      hyper_bounded = grind (arith, nat_tests, hyper_bad);
      eligible = eligible-none hyper tasks (option_map-none _ _ d.0) (option_map-none _ _ e.0) (option_map-none _ _ f.0);
      load = grind (arith, nat_tests, over);
    }

-- an admitted set isn't refused
pub refusal-admitted : (hyper : ℕ) (tasks : List Params) → IsAdmitted hyper tasks → refusal hyper tasks ≡ None
refusal-admitted hyper tasks ok =
    let asks = position-has_no_budget hyper tasks ok.eligible in
    let fits = position-is_over_period hyper tasks ok.eligible in
    let divides = position-is_no_divisor hyper tasks ok.eligible in
    rw (asks, fits, divides) (grind (arith, nat_tests, ok.nonempty, ok.few, ok.hyper_positive, ok.hyper_bounded, ok.load))

-- no test but that of its load finds a fault in an admitted set
pub misfit-admitted : (hyper : ℕ) (tasks : List Params) → IsAdmitted hyper tasks → misfit hyper tasks ≡ None
misfit-admitted hyper tasks ok =
    let asks = position-has_no_budget hyper tasks ok.eligible in
    let fits = position-is_over_period hyper tasks ok.eligible in
    let divides = position-is_no_divisor hyper tasks ok.eligible in
    rw (asks, fits, divides) (grind (arith, nat_tests, ok.nonempty, ok.few, ok.hyper_positive, ok.hyper_bounded))

no_misfit : (hyper : ℕ) (tasks : List Params) (fault : AdmitFault) → misfit hyper tasks ≡ Some fault → IsAdmitted hyper tasks → ⊥
no_misfit hyper tasks fault is ok = absurd (cc (misfit-admitted hyper tasks ok, is))

-- a set that doesn't fit isn't admitted
pub misfit-refused : {X : Type 0} (hyper : ℕ) (tasks : List Params) (fault : AdmitFault) (result : Result X AdmitFault) → misfit hyper tasks ≡ Some fault →
    IsErr result → IsOk result ↔ IsAdmitted hyper tasks
misfit-refused hyper tasks fault (Ok x) is err = absurd cc
misfit-refused hyper tasks fault (Err e) is err = (λ taken. absurd cc, λ ok. absurd (no_misfit hyper tasks fault is ok))

-- where the first fault isn't what the list begins with, the list begins with none
first_fault-later : (o : Option AdmitFault) (rest : List (Option AdmitFault)) (fault : AdmitFault) →
    first_fault (o ∷ rest) ≡ Some fault → o ≢ Some fault → (o ≡ None) × (first_fault rest ≡ Some fault)
first_fault-later None rest fault e other = (refl, e)
first_fault-later (Some first) rest fault e other = absurd (other e)

-- a test with another fault doesn't find this one
fault_if-other : (met : Bool) (fault sought : AdmitFault) → (fault ≡ sought → ⊥) → fault_if met fault ≢ Some sought
fault_if-other true fault sought other e = other cc
fault_if-other false fault sought other e = cc

option_map-other : (f : ℕ → AdmitFault) (o : Option ℕ) (sought : AdmitFault) → ((i : ℕ) → f i ≡ sought → ⊥) → option_map f o ≢ Some sought
option_map-other f None sought other e = cc
option_map-other f (Some i) sought other e = other i cc

none_is_not_some : (fault : AdmitFault) → None ≡ Some fault → ⊥
none_is_not_some fault e = cc

-- this fault, where a test finds it, is the fault that the test has
fault_if-some : (met : Bool) (fault sought : AdmitFault) → fault_if met fault ≡ Some sought → (met ≡ true) × (fault ≡ sought)
fault_if-some true fault sought e = (refl, cc)
fault_if-some false fault sought e = absurd (none_is_not_some sought e)

first_fault-one : (o : Option AdmitFault) (fault : AdmitFault) → first_fault (o ∷ []) ≡ Some fault → o ≡ Some fault
first_fault-one None fault e = e
first_fault-one (Some first) fault e = e

-- what the last test finds
overload-found : (hyper total whole : ℕ) (tasks : List Params) →
    first_fault (fault_if (nat_lt hyper (total_weight hyper tasks)) (Overload (total_weight hyper tasks) hyper) ∷ []) ≡ Some (Overload total whole) →
    (hyper < total_weight hyper tasks) × (total ≡ total_weight hyper tasks) × (whole ≡ hyper)
overload-found hyper total whole tasks e =
    let found = fault_if-some _ _ _ (first_fault-one _ _ e) in
    let over : nat_lt hyper (total_weight hyper tasks) ≡ true = found.0 in
    let same : Overload (total_weight hyper tasks) hyper ≡ Overload total whole = found.1 in
    (grind (arith, nat_tests, over), cc, cc)

-- a refusal for the load says the load and the hyperperiod of a set that is overloaded
pub overload-refused : (hyper total whole : ℕ) (tasks : List Params) → refusal hyper tasks ≡ Some (Overload total whole) →
    IsOverloaded hyper tasks × (total ≡ total_weight hyper tasks) × (whole ≡ hyper)
overload-refused hyper total whole tasks e =
    let load = Overload total whole in
    let a = first_fault-later _ _ load e (fault_if-other _ NoTasks load (λ h. cc)) in
    let b = first_fault-later _ _ load a.1 (fault_if-other _ TooMany load (λ h. cc)) in
    let c = first_fault-later _ _ load b.1 (fault_if-other _ BadHyper load (λ h. cc)) in
    let d = first_fault-later _ _ load c.1 (option_map-other ZeroBudget _ load (λ i h. cc)) in
    let e = first_fault-later _ _ load d.1 (option_map-other BudgetOverPeriod _ load (λ i h. cc)) in
    let f = first_fault-later _ _ load e.1 (option_map-other NotDivisor _ load (λ i h. cc)) in
    let empty : (length tasks == 0) ≡ false = fault_if-none _ _ a.0 in
    let many : nat_lt task_limit (length tasks) ≡ false = fault_if-none _ _ b.0 in
    let hyper_bad : ((hyper == 0) || nat_lt hyper_limit hyper) ≡ false = fault_if-none _ _ c.0 in
    let over = overload-found hyper total whole tasks f.1 in (
      record {
        nonempty = grind (arith, nat_tests, empty);
        few = grind (arith, nat_tests, many);
        hyper_positive = grind (arith, nat_tests, hyper_bad);
        hyper_bounded = grind (arith, nat_tests, hyper_bad);
        eligible = eligible-none hyper tasks (option_map-none _ _ d.0) (option_map-none _ _ e.0) (option_map-none _ _ f.0);
        overload = over.0;
      },
      over.1,
      over.2,
    )

-- an overloaded set is refused for its load
pub refusal-overloaded : (hyper : ℕ) (tasks : List Params) → IsOverloaded hyper tasks →
    refusal hyper tasks ≡ Some (Overload (total_weight hyper tasks) hyper)
refusal-overloaded hyper tasks ok =
    let asks = position-has_no_budget hyper tasks ok.eligible in
    let fits = position-is_over_period hyper tasks ok.eligible in
    let divides = position-is_no_divisor hyper tasks ok.eligible in
    rw (asks, fits, divides) (grind (arith, nat_tests, ok.nonempty, ok.few, ok.hyper_positive, ok.hyper_bounded, ok.overload))
