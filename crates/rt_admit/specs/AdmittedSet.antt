-- A set that was admitted, or that can be run whatever its load, as contracts see it.
use Rattle.std.specs.Prelude.{◌≡◌, ℕ, List}
use Rattle.rt_admit.specs.declared.params.Params.{Params}
use Rattle.rt_admit.specs.Admission.{IsAdmitted, IsRunnable}
use Rattle.rt_admit.specs.Weight.{total_weight}

-- a set: its hyperperiod and the sum of its weights, in ticks, and its tasks
pub record AdmittedSet : Type 0 where
  pub hyper : ℕ
  pub total : ℕ
  pub tasks : List Params

-- the set of these tasks and this hyperperiod, with the sum of its weights
abbrev pub admitted_set : ℕ → List Params → AdmittedSet
admitted_set hyper tasks = record { hyper = hyper; total = total_weight hyper tasks; tasks = tasks }

-- what holds of each set that was admitted: it meets the rule, and its total is the sum of its weights
pub record IsSound (set : AdmittedSet) : Type 0 where
  pub admitted : IsAdmitted set.hyper set.tasks
  pub summed : set.total ≡ total_weight set.hyper set.tasks

-- what holds of each set that can be run
pub record CanRun (set : AdmittedSet) : Type 0 where
  pub runnable : IsRunnable set.hyper set.tasks
  pub summed : set.total ≡ total_weight set.hyper set.tasks
