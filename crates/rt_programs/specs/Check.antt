-- What the admission of a system file means.
use Rattle.std.specs.Prelude.{◌≡◌, ℕ, List, [], ◌++◌, codes, decimal, Option, Some, None, Err}
use Rattle.std.specs.List.{flat_map, enumerate_from}
use Rattle.rt_admit.specs.declared.params.Params.{Params}
use Rattle.rt_admit.specs.declared.fault.AdmitFault.{AdmitFault}
use Rattle.rt_admit.specs.declared.fault.AdmitFault.TheVariants.{Overload}
use Rattle.rt_admit.specs.Refusal.{refusal}
use Rattle.rt_admit.specs.Weight.{weight_of, total_weight}
use Rattle.rt_image.specs.SystemFile.{TaskSet}
use Rattle.rt_image.specs.SystemReading.{system_of}
use Rattle.rt_history.specs.Admitted.{task_params, IsAdmittedSet}
use Rattle.rt_history.specs.Busy.{busy_at}
use Rattle.rt_laws.specs.declared.breach.exceeding.Breach.{Breach}
use Rattle.rt_laws.specs.breach.Breach.{IsFirstBreach}
use Rattle.rt_opening.specs.Sets.{SpellsSet}
use Rattle.rt_opening.specs.declared.fault.SimFault.{SimFault}
use Rattle.rt_opening.specs.declared.fault.SimFault.TheVariants as faults

-- the line of an admitted set
abbrev pub admitted_text : ℕ → ℕ → List ℕ
admitted_text total hyper = codes "admitted " ++ decimal total ++ codes " of " ++ decimal hyper ++ codes "\n"

abbrev pub check_text : TaskSet → List ℕ
check_text s = admitted_text (total_weight s.hyper (task_params s.tasks)) s.hyper

-- the line of task i of a set that asks for too much
abbrev pub weight_line : ℕ → ℕ → Params → List ℕ
weight_line hyper i task = codes "task " ++ decimal i ++ codes " weight " ++ decimal (weight_of hyper task) ++ codes "\n"

abbrev pub weight_lines : ℕ → List Params → List ℕ
weight_lines hyper tasks = flat_map (λ n. weight_line hyper n.0 n.1) (enumerate_from 0 tasks)

-- the line of the first budget that doesn't fit at the end of the hyperperiod
abbrev pub breach_line : ℕ → Breach → List ℕ
breach_line hyper b =
    codes "breach task " ++ decimal b.task ++ codes " c " ++ decimal b.c ++ codes " d " ++ decimal b.d ++ codes " tick " ++ decimal hyper ++ codes "\n"

abbrev pub overload_text : ℕ → List Params → Breach → List ℕ
overload_text hyper tasks b = weight_lines hyper tasks ++ breach_line hyper b

-- What is told of a set beside its refusal. Where that is for its load: what each task asks for, and the first whose budget would
-- miss its deadline, were all of them busy for a hyperperiod. Else nothing.
abbrev pub IsReason : TaskSet → AdmitFault → List ℕ → Type 0
IsReason s (Overload total hyper) text = (b : Breach) × IsFirstBreach (busy_at s s.hyper) b × (text ≡ overload_text s.hyper (task_params s.tasks) b)
IsReason s fault text = text ≡ []

-- what is told of the set of a file, and why it isn't admitted, where it isn't
abbrev pub CheckMeans : List ℕ → List ℕ → Option SimFault → Type 0
CheckMeans file text None = (s : TaskSet) × SpellsSet file s × IsAdmittedSet s × (text ≡ check_text s)
CheckMeans file text (Some (faults.Image fault)) = (system_of file ≡ Err fault) × (text ≡ [])
CheckMeans file text (Some (faults.Admit fault)) = (s : TaskSet) × SpellsSet file s × (refusal s.hyper (task_params s.tasks) ≡ Some fault) × IsReason s fault text
CheckMeans file text (Some fault) = ⊥
