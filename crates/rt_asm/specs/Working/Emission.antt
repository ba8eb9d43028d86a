-- What a step of the assembler appends to an image, or its fault.
use Rattle.std.specs.Prelude.{◌≡◌, ℕ, List, ◌++◌, Result, Ok, Err}
use Rattle.rt_isa.specs.declared.instruction.Ins.{Ins}
use Rattle.rt_asm.specs.Code.{Code, AreWords, IsCode}
use Rattle.rt_words.specs.Chain.{mapped}
use Rattle.rt_asm.specs.declared.fault.AsmKind.{AsmKind}
use Rattle.rt_asm.specs.Working.StepFaults.{StepFault}
use Rattle.rt_words.specs.declared.or_memory.OrMemory.TheVariants.{Memory, Fault as Kind}

-- a fault is that of the definition, or want of memory
abbrev pub Fails : {A : Type 0} → StepFault → Result A AsmKind → Type 0
Fails Memory answer = Unit {0}
Fails (Kind kind) answer = answer ≡ Err kind

-- the bytes of the definition go behind those that were there
abbrev pub Appends : List ℕ → List ℕ → Result (List ℕ) AsmKind → Result (Unit {0}) StepFault → Type 0
Appends old new answer (Ok u) = mapped (λ bytes. old ++ bytes) answer ≡ Ok new
Appends old new answer (Err fault) = Fails fault answer

-- the words of instructions go behind the bytes that were there
pub record AppendsWords (old new : List ℕ) (instructions : List Ins) : Type 0 where
  pub bytes : List ℕ
  pub behind : new ≡ old ++ bytes
  pub words : AreWords instructions bytes

-- bytes of the code of a statement go behind those that were there
pub record AppendsCode (old new : List ℕ) (answer : Result Code AsmKind) : Type 0 where
  pub code : Code
  pub bytes : List ℕ
  pub found : answer ≡ Ok code
  pub behind : new ≡ old ++ bytes
  pub spelled : IsCode code bytes
