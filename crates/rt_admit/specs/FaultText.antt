-- What is said of a set that isn't admitted.
use Rattle.std.specs.Prelude.{ℕ, List, ◌++◌, codes, decimal}
use Rattle.rt_admit.specs.declared.fault.AdmitFault.{AdmitFault}
use Rattle.rt_admit.specs.declared.fault.AdmitFault.TheVariants.{NoTasks, TooMany, BadHyper, ZeroBudget, BudgetOverPeriod, NotDivisor, Overload}

abbrev pub admit_text : AdmitFault → List ℕ
admit_text NoTasks = codes "set: NoTasks"
admit_text TooMany = codes "set: TooMany"
admit_text BadHyper = codes "set: BadHyper"
admit_text (ZeroBudget task) = codes "set: ZeroBudget task " ++ decimal task
admit_text (BudgetOverPeriod task) = codes "set: BudgetOverPeriod task " ++ decimal task
admit_text (NotDivisor task) = codes "set: NotDivisor task " ++ decimal task
admit_text (Overload total hyper) = codes "set: Overload total " ++ decimal total ++ codes " hyper " ++ decimal hyper
