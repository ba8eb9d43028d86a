-- How far the set of a file is overloaded, and what is said of it.
use Rattle.std.specs.Prelude.{◌≡◌, ◌≢◌, ◌⊎◌, ℕ, Bool, true, false, not, is_some, List, ◌++◌, codes, decimal, IsErr, Option, Some, None}
use Rattle.rt_admit.specs.Refusal.{refusal}
use Rattle.rt_admit.specs.declared.fault.AdmitFault.TheVariants as refusals
use Rattle.rt_admit.specs.declared.admission.Admission.TheVariants.{Waived}
use Rattle.rt_image.specs.SystemFile.{TaskSet}
use Rattle.rt_image.specs.SystemReading.{system_of}
use Rattle.rt_history.specs.Admitted.{task_params}
use Rattle.rt_core.specs.Loading.{load_fault_under}
use Rattle.rt_opening.specs.Sets.{SpellsSet}
use Rattle.rt_opening.specs.declared.overloading.Overload.{Overload}

-- the line on the standard error before the text of a set that isn't admitted
abbrev pub overload_note : Overload → List ℕ
overload_note o = codes "not admitted: total " ++ decimal o.total ++ codes " of " ++ decimal o.hyper ++ codes "; nothing is promised"

-- a set can be run where admission is waived
abbrev pub can_run : TaskSet → Bool
can_run s = not (is_some (load_fault_under Waived s))

-- the set of a file is refused for its load, and can be run without admission; or the file has no set, or one that isn't, or can't
abbrev pub IsOverload : List ℕ → Option Overload → Type 0
IsOverload file (Some o) =
    (s : TaskSet) × SpellsSet file s × (refusal s.hyper (task_params s.tasks) ≡ Some (refusals.Overload o.total o.hyper)) × (can_run s ≡ true)
IsOverload file None =
    IsErr (system_of file)
    ⊎ ((s : TaskSet) × SpellsSet file s
    × (((total hyper : ℕ) → refusal s.hyper (task_params s.tasks) ≢ Some (refusals.Overload total hyper)) ⊎ (can_run s ≡ false)))
