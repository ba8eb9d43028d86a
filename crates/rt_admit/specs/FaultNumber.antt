-- The numbers of the refusals.
use Rattle.std.specs.Prelude.{ℕ}
use Rattle.rt_admit.specs.declared.fault.AdmitFault.{AdmitFault}
use Rattle.rt_admit.specs.declared.fault.AdmitFault.TheVariants.{NoTasks, TooMany, BadHyper, ZeroBudget, BudgetOverPeriod, NotDivisor, Overload}

-- the number of a refusal, in the order in which a set is tested
abbrev pub number_of : AdmitFault → ℕ
number_of NoTasks = 1
number_of TooMany = 2
number_of BadHyper = 3
number_of (ZeroBudget i) = 4
number_of (BudgetOverPeriod i) = 5
number_of (NotDivisor i) = 6
number_of (Overload total hyper) = 7
