-- What the standard error gets of a fault: a first line, and perhaps more behind it.
use Rattle.std.specs.Prelude.{◌≡◌, ⊤, ℕ, List, [], ◌∷◌, ◌++◌, codes, decimal, false, Option, Some, None}
use Rattle.rt_elf.specs.flat.FaultText.{flat_text}
use Rattle.rt_elf.specs.FaultText.{elf_text}
use Rattle.rt_elf.specs.naming.FaultText.{name_text}
use Rattle.rt_elf.specs.laying.FaultText.{data_text}
use Rattle.rt_set.specs.FaultText.{set_text, pack_text}
use Rattle.rt_opening.specs.FaultText.{sim_text}
use Rattle.rt_names.specs.declared.task_word.TaskFault.{TaskFault}
use Rattle.rt_names.specs.declared.task_word.TaskFault.TheVariants.{NoTask, NoName, Several}
use Rattle.rt_accounts.specs.FailureText.{failure_text}
use Rattle.rt_programs.specs.CertifySet.{uncertified_text}
use Rattle.rt_fault_lines.specs.shown.Escaped.{escaped}
use Rattle.rt_desk.specs.Desk.{Says}
use Rattle.rt_perform.specs.declared.program.ProgramFault.{ProgramFault}
use Rattle.rt_perform.specs.declared.program.ProgramFault.TheVariants.{Words, File, IsRead, Device, Input, Sim, Set, Pack, Flat, Elf, Name, Laid, NotNamed, Failed, Uncertified}

-- a path is shown in one line
abbrev pub file_text : List ℕ → List ℕ
file_text path = codes "file " ++ escaped false path

-- of a word that means no task
abbrev pub word_text : TaskFault → List ℕ
word_text (NoTask task count) = codes "task " ++ decimal task ++ codes " of " ++ decimal count
word_text (NoName word) = codes "no task " ++ escaped false word.now
word_text (Several word count) = codes "task " ++ (escaped false word.now ++ (codes ": " ++ (decimal count ++ codes " tasks have this name")))

abbrev pub fault_text : ProgramFault → List ℕ
fault_text Words = codes "the command line cannot be read"
fault_text (File path reason task) = file_text path.now
fault_text (IsRead path task) = file_text path.now
fault_text (Device path fault reason) = codes "device after " ++ decimal fault.written ++ codes " bytes"
fault_text Input = codes "file -"
fault_text (Sim fault) = sim_text fault
fault_text (Set fault) = set_text fault
fault_text (Pack fault task) = pack_text fault
fault_text (Flat fault) = flat_text fault
fault_text (Elf fault task) = elf_text fault
fault_text (Name fault) = name_text fault.name.word.now fault.fault
fault_text (Laid fault) = data_text fault.of_elf fault.fault
fault_text (NotNamed fault) = word_text fault
fault_text (Failed failure) = codes "failed: " ++ failure_text failure
fault_text (Uncertified task) = uncertified_text task

-- more was said behind what had been said
abbrev pub Extends : Option (List ℕ) → Option (List ℕ) → Type 0
Extends None new = ⊤
Extends (Some old) None = ⊥
Extends (Some old) (Some new) = (more : List ℕ) × (new ≡ old ++ more)

-- this line of the program was said, and nothing else
abbrev pub SaysLine : Option (List ℕ) → List ℕ → Option (List ℕ) → Type 0
SaysLine old text new = Says old (Some (codes "rt_sim: " ++ text)) new

-- this line of the program was said first
abbrev pub Begins : Option (List ℕ) → List ℕ → Option (List ℕ) → Type 0
Begins None text new = ⊤
Begins (Some old) text new = Extends (Some (old ++ (codes "rt_sim: " ++ text) ++ 10 ∷ [])) new
