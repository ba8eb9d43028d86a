-- What is done of a request: the files that it reads, what it prints or makes, the standard error, and the exit status.
use Rattle.std.specs.Prelude.{◌≡◌, ◌⊎◌, ⊤, ℕ, zero, suc, ◌<◌, ◌≤◌, List, [], ◌++◌, All, Bool, false, Option, Some, None, Result, Ok, Err, codes, decimal}
use Rattle.std.specs.Global.{Vec}
use Rattle.rt_sink.specs.Seen.{Seen}
use Rattle.rt_admit.specs.declared.admission.Admission.{Admission}
use Rattle.rt_desk.specs.Desk.{Files, Makes, Keeps}
use Rattle.rt_sink.specs.Buffered.{BufferedSink, told}
use Rattle.rt_set.specs.SetFile.{TaskEntry, SetEntries, IsSetFile}
use Rattle.rt_dialogue.specs.Dialogue.{Debugs}
use Rattle.rt_dialogue.specs.declared.fault.DebugFault.TheVariants as debug
use Rattle.rt_dialogue.specs.remote.Dialogue.{DebugsRemotely}
use Rattle.rt_names.specs.declared.task_word.TaskFault.{TaskFault}
use Rattle.rt_opening.specs.declared.fault.SimFault.{SimFault}
use Rattle.rt_perform.specs.declared.program.ProgramFault.{ProgramFault}
use Rattle.rt_perform.specs.declared.program.ProgramFault.TheVariants.{Sim, Input, NotNamed, Failed, Uncertified}
use Rattle.rt_perform.specs.declared.request.Request.{Request}
use Rattle.rt_perform.specs.declared.request.Request.TheVariants.{Print, Debug, Gdb, Elf, Image, Pack}
use Rattle.rt_programs.specs.printing.TextMeans.{TextMeans, EndsCalmly}
use Rattle.rt_programs.specs.printing.Prints.{Prints}
use Rattle.rt_programs.specs.printing.Fails.{Fails, Misnames}
use Rattle.rt_programs.specs.declared.printing.judging.Finding.{Finding}
use Rattle.rt_programs.specs.declared.printing.judging.Finding.TheVariants as finds
use Rattle.rt_perform.specs.Paths.{made_path}
use Rattle.rt_perform.specs.Given.{IsGiven, HasNothing}
use Rattle.rt_perform.specs.Produced.{Gives, Refuses, IsUnmade}
use Rattle.rt_perform.specs.FirstLine.{fault_text, Extends, Begins}
use Rattle.rt_perform.specs.ExitStatus.{exit_status}
use Rattle.rt_perform.specs.Noted.{admission_of, NotesOf}

-- a text is printed, and no failure happened in its run and no task of its set lacks a certificate, or this was the first that does; or
-- nothing is, for this fault of a word
abbrev pub PrintsText : {S : Type 0} → (S → Seen) → (List ℕ → Option SimFault → Type 0) → (Option Finding → Type 0) → (TaskFault → Type 0) → ℕ → Result ℕ ProgramFault → S → Type 0
PrintsText seen Means Fails Misnames less (Ok left_out) sink = Prints {X = Unit {0}} seen Means (Ok tt) sink × (left_out ≡ less) × Fails None
PrintsText seen Means Fails Misnames less (Err (Failed failure)) sink = Prints {X = Unit {0}} seen Means (Ok tt) sink × Fails (Some (finds.Failed failure))
PrintsText seen Means Fails Misnames less (Err (Uncertified task)) sink = Prints {X = Unit {0}} seen Means (Ok tt) sink × Fails (Some (finds.Uncertified task))
PrintsText seen Means Fails Misnames less (Err (NotNamed fault)) sink = ((seen sink).contents ≡ Some []) × Misnames fault
PrintsText seen Means Fails Misnames less (Err (Sim fault)) sink = Prints {X = Unit {0}} seen Means (Err fault) sink
PrintsText seen Means Fails Misnames less (Err fault) sink = ⊥

-- a session replies to the lines of an input
abbrev pub Replies : {S : Type 0} → (S → Seen) → List ℕ → Admission → List ℕ → ℕ → Result ℕ ProgramFault → S → Type 0
Replies seen system admission lines less (Ok left_out) sink = Debugs seen system admission lines (Ok tt) sink × (left_out ≡ less)
Replies seen system admission lines less (Err (Sim fault)) sink = Debugs seen system admission lines (Err (debug.Sim fault)) sink
Replies seen system admission lines less (Err Input) sink = Debugs seen system admission lines (Err debug.Input) sink
Replies seen system admission lines less (Err fault) sink = ⊥

-- a session answers gdb's requests, the bytes of an input
abbrev pub Answers : {S : Type 0} → (S → Seen) → List ℕ → Admission → List ℕ → ℕ → Result ℕ ProgramFault → S → Type 0
Answers seen system admission bytes less (Ok left_out) sink = DebugsRemotely seen system admission bytes (Ok tt) sink × (left_out ≡ less)
Answers seen system admission bytes less (Err (Sim fault)) sink = DebugsRemotely seen system admission bytes (Err (debug.Sim fault)) sink
Answers seen system admission bytes less (Err Input) sink = DebugsRemotely seen system admission bytes (Err debug.Input) sink
Answers seen system admission bytes less (Err fault) sink = ⊥

-- The file of the request is made, or all files are as they were: there is none, or there is one and it can't be made.
abbrev pub Produces : Request → List ℕ → List ℕ → ℕ → Option Files → Result ℕ ProgramFault → Option Files → Type 0
Produces request first names less old (Ok left_out) new =
    (path : List ℕ) × (file : Vec ℕ) × (made_path request ≡ Some path) × Gives old request first names less file left_out × Makes old path file.items new
Produces request first names less old (Err fault) new =
    (Refuses old request first names less fault
    ⊎ ((file : Vec ℕ) × (left_out : ℕ) × Gives old request first names less file left_out × IsUnmade (made_path request) file.items fault)) × Keeps old new

-- What is done with what was read, out of which so many names are left: a text of the first file is printed, and failures are looked for in
-- its run; or a session on its system replies to the standard input, lines or gdb's requests; or a file is made.
abbrev pub Works : {S : Type 0} → (S → Seen) → Request → List ℕ → List ℕ → ℕ → Option (List ℕ) → Option Files → BufferedSink S → Result ℕ ProgramFault → Option Files → BufferedSink S → Type 0
Works seen (Print file text admission asked) first names less input old out result new after =
    Keeps old new × (told seen out ≡ Some [] → PrintsText seen (TextMeans admission asked.except.now text first) (Fails text first asked.fail_on.now asked.except.now) (Misnames text first asked.except.now) less result after.inner)
Works seen (Debug system admission) first names less input old out result new after =
    Keeps old new × ((lines : List ℕ) → input ≡ Some lines → told seen out ≡ Some [] → Replies seen first admission lines less result after.inner)
Works seen (Gdb system admission) first names less input old out result new after =
    Keeps old new × ((bytes : List ℕ) → input ≡ Some bytes → told seen out ≡ Some [] → Answers seen first admission bytes less result after.inner)
Works seen request first names less input old out result new after = Produces request first names less old result new × (after ≡ out)

-- the request has nothing to work on, and nothing is done
pub record IsNotBegun {S : Type 0} (request : Request) (old : Option Files) (out : BufferedSink S) (result : Result ℕ ProgramFault) (new : Option Files) (after : BufferedSink S) : Type 0 where
  pub fault : ProgramFault
  pub is : result ≡ Err fault
  pub nothing : HasNothing old request fault
  pub kept : Keeps old new
  pub silent : after ≡ out

-- the files of the request are read, and this is done with them: `first` is what the first of them gives
pub record IsDone {S : Type 0} (seen : S → Seen) (request : Request) (first : List ℕ) (input : Option (List ℕ)) (old : Option Files) (out : BufferedSink S) (result : Result ℕ ProgramFault) (new : Option Files) (after : BufferedSink S) : Type 0 where
  pub names : List ℕ
  pub less : ℕ
  pub given : IsGiven old request first names less
  pub works : Works seen request first names less input old out result new after

-- the exit status
abbrev pub status_of : Result ℕ ProgramFault → ℕ
status_of (Ok left_out) = 0
status_of (Err fault) = exit_status fault

-- what is said of so many names that are left out
abbrev pub left_out_text : ℕ → List ℕ
left_out_text n = codes "names left out: " ++ decimal n

-- a budget that a set may have
abbrev pub IsBudget : TaskEntry → Type 0
IsBudget t = (0 < t.budget) × (t.budget ≤ t.period)

-- Nothing is said of what is done: it is a run after which no task has faulted, and whose outputs had room for all writes; or certificates, but of
-- no object whose longest job is over its least distance; or another text, but no test of admission; or it is a file that is made, but of no ELF
-- file, of no flat image with a list of names, and of a set file whose budgets a set may have. Of those others more may be said.
abbrev pub IsQuiet : Request → List ℕ → Type 0
IsQuiet (Print file text admission asked) first = EndsCalmly text first
IsQuiet (Elf path object name laid) first = ⊥
IsQuiet (Image path object entry (Some names) name laid) first = ⊥
IsQuiet (Pack path system) first = (set : SetEntries) → IsSetFile first set → All IsBudget set.tasks
IsQuiet request first = ⊤

-- Where all went well, the names that are left out are counted, and more is said if there is more to say. Of a fault, its line comes first.
abbrev pub Reports : Request → List ℕ → Option (List ℕ) → Result ℕ ProgramFault → Option (List ℕ) → Type 0
Reports request first old (Ok zero) new = Extends old new × (IsQuiet request first → new ≡ old)
Reports request first old (Ok (suc n)) new = Begins old (left_out_text (suc n)) new
Reports request first old (Err fault) new = Begins old (fault_text fault) new

-- nothing is said before the line of a fault
abbrev pub ReportsFault : Option (List ℕ) → Result ℕ ProgramFault → Option (List ℕ) → Type 0
ReportsFault old (Ok left_out) new = ⊥
ReportsFault old (Err fault) new = Begins old (fault_text fault) new

-- The theorem of `perform`: what is done, the exit status, and the standard error unless that has failed: where nothing is begun, why; else
-- first a note of an overload where admission is waived, and what else is said behind it.
abbrev pub Performs : {D S : Type 0} → (D → Option Files) → (D → Option (List ℕ)) → (D → Bool) → (S → Seen) → Request → Option (List ℕ) → D → BufferedSink S → ℕ → D → BufferedSink S → Type 0
Performs files said is_deaf seen request input old out status new after =
    (result : Result ℕ ProgramFault) × (status ≡ status_of result)
    × ((IsNotBegun request (files old) out result (files new) after × (is_deaf new ≡ false → ReportsFault (said old) result (said new)))
    ⊎ ((first : List ℕ) × IsDone seen request first input (files old) out result (files new) after
    × (is_deaf new ≡ false → (noted : Option (List ℕ)) × NotesOf (admission_of request) first (said old) noted × Reports request first noted result (said new))))
