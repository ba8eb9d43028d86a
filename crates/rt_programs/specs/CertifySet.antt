-- What the certificates of a set mean: each task's, run alone with the numbers of its line, but of those that are excepted.
use Rattle.std.specs.Prelude.{◌≡◌, ℕ, ◌+◌, ◌++◌, min, false, List, [], ◌∷◌, length, slice_get, codes, decimal, Option, Some, None, IfSome, Ok, Contains}
use Rattle.std.specs.List.{fold}
use Rattle.std.specs.Option.{option_map, option_map_or}
use Rattle.rt_core.specs.Loading.{load_fault}
use Rattle.rt_image.specs.SystemFile.{SetTask, TaskSet}
use Rattle.rt_history.specs.Admitted.{IsAdmittedSet}
use Rattle.rt_history.specs.Program.{origin}
use Rattle.rt_text_out.specs.Lines.{lines}
use Rattle.rt_names.specs.TaskNames.{task_names, name_at}
use Rattle.rt_names.specs.TaskWords.{tasks_of}
use Rattle.rt_names.specs.declared.task_word.TaskWord.{TaskWord}
use Rattle.rt_certify.specs.declared.certificate.Certificate.{Certificate}
use Rattle.rt_certify.specs.declared.certificate.NotCertified.{NotCertified}
use Rattle.rt_certify.specs.CertifiedSet.{own_limits, AreInTime}
use Rattle.rt_certify.specs.Refused.{IsRefused}
use Rattle.rt_certify.specs.RefusalText.{refusal_text}
use Rattle.rt_opening.specs.Faults.{sim_load_fault}
use Rattle.rt_opening.specs.Sets.{SpellsSet}
use Rattle.rt_opening.specs.declared.fault.SimFault.{SimFault}
use Rattle.rt_opening.specs.declared.fault.SimFault.TheVariants as faults
use Rattle.rt_programs.specs.Certify.{certificate_text, IsCertificateFor}
use Rattle.rt_programs.specs.Check.{CheckMeans}
use Rattle.rt_programs.specs.declared.question.Question.{Question}
use Rattle.rt_programs.specs.declared.outcome.Outcome.{Outcome}
use Rattle.rt_programs.specs.declared.outcome.Outcome.TheVariants.{Excepted, Certified, Refused}
use Rattle.rt_programs.specs.declared.outcome.Uncertified.{Uncertified}

-- what is asked of a task: so many jobs, each within its own period
abbrev pub own_question : ℕ → SetTask → Question
own_question n t = record { ram = t.ram; split = t.split; start = t.start; limits = own_limits t; jobs = n; places = false }

-- what task i comes to, if it isn't one of those that are excepted
abbrev pub IsOutcome : ℕ → List ℕ → ℕ → SetTask → Outcome → Type 0
IsOutcome n except i t Excepted = Contains except i
IsOutcome n except i t (Certified c) = (Contains except i → ⊥) × IsCertificateFor t.object (own_question n t) c
IsOutcome n except i t (Refused e) = (Contains except i → ⊥) × ((k : ℕ) × IsRefused (origin t) t.start (own_limits t) k e)

-- what the tasks of a set come to, in their order
pub record AreOutcomes (n : ℕ) (except : List ℕ) (ts : List SetTask) (os : List Outcome) : Type 0 where
  pub count : length os ≡ length ts
  pub each : (i : ℕ) (t : SetTask) → slice_get ts i ≡ Some t → (o : Outcome) × (slice_get os i ≡ Some o) × IsOutcome n except i t o

-- So many first jobs of these tasks are certified, where none is refused: as many as are asked for; or as the certificate counts of one that
-- goes on.
abbrev pub fewer : Certificate → ℕ → ℕ
fewer c n = option_map_or (λ _. min n c.jobs) c.next n

abbrev pub promised_by : Option ℕ → Outcome → Option ℕ
promised_by n Excepted = n
promised_by n (Certified c) = option_map (fewer c) n
promised_by n (Refused e) = None

abbrev pub promised : ℕ → List Outcome → Option ℕ
promised n os = fold promised_by (Some n) os

-- these jobs are in time in the set, whatever the excepted tasks do
abbrev pub ArePromised : TaskSet → List ℕ → Option ℕ → Type 0
ArePromised s except promise = IfSome promise (λ n. (i : ℕ) (t : SetTask) → slice_get s.tasks i ≡ Some t → (Contains except i → ⊥) → AreInTime s i t n)

-- the line of task i of these names; the reason of one that is refused stands elsewhere
abbrev pub outcome_line : List (List ℕ) → ℕ → Outcome → List ℕ
outcome_line names i Excepted = decimal i ++ codes " " ++ name_at names i ++ codes " excepted\n"
outcome_line names i (Certified c) = decimal i ++ codes " " ++ name_at names i ++ codes " " ++ certificate_text c
outcome_line names i (Refused e) = []

abbrev pub promise_line : Option ℕ → List ℕ
promise_line (Some n) = codes "the first " ++ decimal n ++ codes " jobs of these tasks are answered in time in this set\n"
promise_line None = []

abbrev pub outcomes_text : List (List ℕ) → ℕ → List Outcome → List ℕ
outcomes_text names n os = lines (outcome_line names) 0 os ++ promise_line (promised n os)

-- the file's set is admitted and can be run, without the tasks that these words mean its tasks come to this, and their jobs are in time
pub record ComesTo (file : List ℕ) (n : ℕ) (words : List TaskWord) (s : TaskSet) (os : List Outcome) : Type 0 where
  pub spells : SpellsSet file s
  pub admitted : IsAdmittedSet s
  pub loads : load_fault s ≡ None
  pub except : List ℕ
  pub meant : tasks_of (task_names s) words ≡ Ok except
  pub outcomes : AreOutcomes n except s.tasks os
  pub in_time : ArePromised s except (promised n os)

-- the certificates for n jobs of the tasks of a file; or why there are none: a set that isn't admitted is refused as by the test of admission
abbrev pub SetCertifies : List ℕ → ℕ → List TaskWord → List ℕ → Option SimFault → Type 0
SetCertifies file n words text None = (s : TaskSet) × (os : List Outcome) × ComesTo file n words s os × (text ≡ outcomes_text (task_names s) n os)
SetCertifies file n words text (Some (faults.Load fault)) =
    (s : TaskSet) × SpellsSet file s × IsAdmittedSet s × (option_map sim_load_fault (load_fault s) ≡ Some (faults.Load fault)) × (text ≡ [])
SetCertifies file n words text (Some fault) = CheckMeans file text (Some fault)

-- the first task of a list that is refused, the first of all being task i
abbrev pub first_refused : ℕ → List Outcome → Option (ℕ × NotCertified)
first_refused i [] = None
first_refused i (Refused e ∷ os) = Some (i, e)
first_refused i (o ∷ os) = first_refused (i + 1) os

-- the name of a task that isn't certified, and what is said of it
abbrev pub uncertified_name : Uncertified → List ℕ
uncertified_name u = option_map_or (λ name. name.now) u.symbol (codes "task" ++ decimal u.task)

abbrev pub uncertified_text : Uncertified → List ℕ
uncertified_text u = codes "task " ++ decimal u.task ++ codes " " ++ uncertified_name u ++ codes ": certify: " ++ refusal_text u.refusal

-- it is that one
abbrev pub IsFirst : List (List ℕ) → Option (ℕ × NotCertified) → Option Uncertified → Type 0
IsFirst names None None = Unit {0}
IsFirst names (Some first) (Some u) = (u.task ≡ first.0) × (u.refusal ≡ first.1) × (uncertified_name u ≡ name_at names first.0)
IsFirst names first found = ⊥

-- the first task of a file's set that isn't certified for n jobs, if one isn't
abbrev pub Lacks : List ℕ → ℕ → List TaskWord → Option Uncertified → Type 0
Lacks file n words found = (s : TaskSet) × (os : List Outcome) × ComesTo file n words s os × IsFirst (task_names s) (first_refused 0 os) found
