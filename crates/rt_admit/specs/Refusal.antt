-- The refusal of a set: the first of seven tests that finds a fault.
use Rattle.std.specs.Prelude.{ℕ, ◌%◌, Bool, ◌==◌, ◌||◌, not, nat_lt, if◌then◌else◌, List, [], ◌∷◌, length, take, position, Option, Some, None, option_map}
use Rattle.rt_admit.specs.declared.params.Params.{Params}
use Rattle.rt_admit.specs.Limits.{task_limit, hyper_limit}
use Rattle.rt_admit.specs.declared.admission.Admission.{Admission}
use Rattle.rt_admit.specs.declared.admission.Admission.TheVariants.{Required, Waived}
use Rattle.rt_admit.specs.declared.fault.AdmitFault.{AdmitFault}
use Rattle.rt_admit.specs.declared.fault.AdmitFault.TheVariants.{NoTasks, TooMany, BadHyper, ZeroBudget, BudgetOverPeriod, NotDivisor, Overload}
use Rattle.rt_admit.specs.Weight.{total_weight}

-- the task asks for no tick
abbrev pub has_no_budget : Params → Bool
has_no_budget task = task.budget == 0

-- the task asks for more ticks in a period than the period has
abbrev pub is_over_period : Params → Bool
is_over_period task = nat_lt task.period task.budget

-- the task's period doesn't divide the hyperperiod
abbrev pub is_no_divisor : ℕ → Params → Bool
is_no_divisor hyper task = not ((hyper % task.period) == 0)

-- this fault where the test is met
abbrev pub fault_if : Bool → AdmitFault → Option AdmitFault
fault_if met fault = if met then Some fault else None

-- what each of the seven tests finds in the set, in order of number; a test of the tasks goes over the
-- whole set and names the first task that it meets, counted from 0
abbrev pub faults : ℕ → List Params → List (Option AdmitFault)
faults hyper tasks =
    fault_if (length tasks == 0) NoTasks
    ∷ fault_if (nat_lt task_limit (length tasks)) TooMany
    ∷ fault_if ((hyper == 0) || nat_lt hyper_limit hyper) BadHyper
    ∷ option_map ZeroBudget (position has_no_budget tasks)
    ∷ option_map BudgetOverPeriod (position is_over_period tasks)
    ∷ option_map NotDivisor (position (is_no_divisor hyper) tasks)
    ∷ fault_if (nat_lt hyper (total_weight hyper tasks)) (Overload (total_weight hyper tasks) hyper)
    ∷ []

-- the first fault of a list of findings
abbrev pub first_fault : List (Option AdmitFault) → Option AdmitFault
first_fault [] = None
first_fault (Some fault ∷ rest) = Some fault
first_fault (None ∷ rest) = first_fault rest

-- why the set is refused: the fault of the least number, at its first task; none where it is admitted
abbrev pub refusal : ℕ → List Params → Option AdmitFault
refusal hyper tasks = first_fault (faults hyper tasks)

-- why the set can't be run, whatever its load: all tests but the last, that of the load
abbrev pub misfit : ℕ → List Params → Option AdmitFault
misfit hyper tasks = first_fault (take 6 (faults hyper tasks))

-- why the set isn't run where admission is required, and where it is waived
abbrev pub refusal_under : Admission → ℕ → List Params → Option AdmitFault
refusal_under Required hyper tasks = refusal hyper tasks
refusal_under Waived hyper tasks = misfit hyper tasks
