-- What is noted on the standard error of a set that isn't admitted, where admission is waived.
use Rattle.std.specs.Prelude.{◌≡◌, ℕ, List, Option, Some, None}
use Rattle.rt_admit.specs.declared.admission.Admission.{Admission}
use Rattle.rt_admit.specs.declared.admission.Admission.TheVariants.{Required, Waived}
use Rattle.rt_opening.specs.Overloaded.{overload_note, IsOverload}
use Rattle.rt_opening.specs.declared.overloading.Overload.{Overload}
use Rattle.rt_perform.specs.FirstLine.{SaysLine}
use Rattle.rt_perform.specs.declared.request.Request.{Request}
use Rattle.rt_perform.specs.declared.request.Request.TheVariants.{Print, Debug, Gdb}

-- whether a request asks for a set that is admitted
abbrev pub admission_of : Request → Admission
admission_of (Print file text admission asked) = admission
admission_of (Debug system admission) = admission
admission_of (Gdb system admission) = admission
admission_of request = Required

-- an overload is noted in one line; where there is none, nothing is
abbrev pub Notes : Option Overload → Option (List ℕ) → Option (List ℕ) → Type 0
Notes None old noted = noted ≡ old
Notes (Some overload) old noted = SaysLine old (overload_note overload) noted

-- of the set of a file of these bytes
abbrev pub NotesOf : Admission → List ℕ → Option (List ℕ) → Option (List ℕ) → Type 0
NotesOf Required first old noted = noted ≡ old
NotesOf Waived first old noted = (found : Option Overload) × IsOverload first found × Notes found old noted
