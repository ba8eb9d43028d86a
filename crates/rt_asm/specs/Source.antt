-- The result of assembling a source: its entry and its labels, or its first fault.
use Rattle.std.specs.Prelude.{◌≡◌, ℕ, ◌+◌, codes, List, Result, Err}
use Rattle.std.specs.Option.{ok_or}
use Rattle.rt_image.specs.ObjectFile.{Label}
use Rattle.rt_text.specs.Line.{SourceLine}
use Rattle.rt_words.specs.Run.{run}
use Rattle.rt_asm.specs.Code.{statement_code, code_size}
use Rattle.rt_asm.specs.Labels.{address_in}
use Rattle.rt_asm.specs.Layout.{fault_at, layout}
use Rattle.rt_words.specs.Base.{base}
use Rattle.rt_words.specs.Chain.{◌>>=◌, mapped}
use Rattle.rt_asm.specs.declared.fault.AsmKind.{AsmKind}
use Rattle.rt_asm.specs.declared.fault.AsmKind.TheVariants.{NoEntry}
use Rattle.rt_asm.specs.declared.fault.AsmFault.{AsmFault}
use Rattle.rt_asm.specs.AssembleFaults.{AssembleFault}
use Rattle.rt_words.specs.declared.or_memory.OrMemory.TheVariants as faults

-- what a source gives: an image's entry, its bytes, and its labels in the order of the source
pub record Program : Type 0 where
  pub entry : ℕ
  pub bytes : List ℕ
  pub labels : List Label

-- where a line ends that stands at place, or the fault of its operands
abbrev pub line_end : List Label → ℕ → SourceLine → Result ℕ AsmKind
line_end labels place line = mapped (λ code. place + code_size code) (statement_code labels place line.statement)

-- where lines end of which the first is line n and stands at place, or the first fault of their operands
abbrev pub end_from : List Label → ℕ → ℕ → List SourceLine → Result ℕ AsmFault
end_from labels n place lines = run fault_at (line_end labels) n place lines

-- the address of `_start`
abbrev pub entry_of : List Label → Result ℕ AsmFault
entry_of labels = ok_or (address_in labels (codes "_start")) (fault_at 0 NoEntry)

-- the entry and the labels of an image that has these labels
abbrev pub started : List Label → Result (ℕ × List Label) AsmFault
started labels = mapped (λ entry. (entry, labels)) (entry_of labels)

-- The entry and the labels of a source, or its first fault: those of the layout come before those of the operands, and a
-- missing `_start` comes last.
abbrev pub assembled : List SourceLine → Result (ℕ × List Label) AsmFault
assembled lines = do
  plan ← layout lines
  end ← end_from plan.labels 1 base lines
  started plan.labels

-- a refusal is the first fault of the source, or want of memory
abbrev pub IsRefusal : {A : Type 0} → AssembleFault → Result A AsmFault → Type 0
IsRefusal faults.Memory answer = Unit {0}
IsRefusal (faults.Fault fault) answer = answer ≡ Err fault
