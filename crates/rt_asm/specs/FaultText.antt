-- The texts of the faults of a source.
use Rattle.std.specs.Prelude.{ℕ, List, ◌++◌, codes, decimal}
use Rattle.rt_text.specs.FaultText.{fault_text as text_fault_text}
use Rattle.rt_asm.specs.declared.fault.AsmFault.{AsmFault}
use Rattle.rt_asm.specs.declared.fault.AsmKind.{AsmKind}
use Rattle.rt_asm.specs.declared.fault.AsmKind.TheVariants.{DuplicateLabel, UndefinedLabel, OutOfRange, OddTarget, TooLarge, NoEntry}
use Rattle.rt_asm.specs.declared.fault.AssembleTextFault.{AssembleTextFault}
use Rattle.rt_asm.specs.declared.fault.AssembleTextFault.TheVariants as texts
use Rattle.rt_asm.specs.declared.fault.LineFault.{LineFault}
use Rattle.rt_asm.specs.declared.fault.LineFault.TheVariants as lines

-- the name of each kind
abbrev pub kind_text : AsmKind → List ℕ
kind_text DuplicateLabel = codes "DuplicateLabel"
kind_text UndefinedLabel = codes "UndefinedLabel"
kind_text OutOfRange = codes "OutOfRange"
kind_text OddTarget = codes "OddTarget"
kind_text TooLarge = codes "TooLarge"
kind_text NoEntry = codes "NoEntry"

-- a fault tells its line first
abbrev pub fault_text : AsmFault → List ℕ
fault_text fault = codes "line " ++ decimal fault.line ++ codes ": " ++ kind_text fault.kind

-- why a text has no image
abbrev pub text_refusal_text : AssembleTextFault → List ℕ
text_refusal_text texts.Memory = codes "memory"
text_refusal_text (texts.Text fault) = text_fault_text fault
text_refusal_text (texts.Source fault) = fault_text fault

-- what is wrong with a line
abbrev pub line_fault_text : LineFault → List ℕ
line_fault_text (lines.Text fault) = text_fault_text fault
line_fault_text (lines.Source fault) = fault_text fault
