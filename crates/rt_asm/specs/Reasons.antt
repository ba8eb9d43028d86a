-- Why the operands of a statement are at fault.
use Rattle.std.specs.Prelude.{ℕ, ℤ, ◌-◌, is_some, length, if◌then◌else◌, List, [], ◌∷◌, drop, Option, Some, None}
use Rattle.std.specs.List.{slice_get}
use Rattle.std.specs.Option.{option_map, option_and_then}
use Rattle.std.specs.Result.{result_ok}
use Rattle.rt_isa.specs.Bits.{signed}
use Rattle.rt_image.specs.ObjectFile.{Label}
use Rattle.rt_token.specs.declared.pieces.Span.{Span}
use Rattle.rt_text.specs.Line.{SourceStatement}
use Rattle.rt_text.specs.Meaning.{or_else}
use Rattle.rt_text.specs.Operands.{span_at, span_of}
use Rattle.rt_text.specs.declared.meaning.Meaning.{Meaning}
use Rattle.rt_text.specs.declared.meaning.Meaning.TheVariants as meaning
use Rattle.rt_text.specs.declared.meaning.Target.{Target}
use Rattle.rt_text.specs.declared.meaning.Transfer.{Transfer}
use Rattle.rt_text.specs.declared.meaning.Transfer.TheVariants.{JumpAndLink, Branch, ZeroBranch, JumpTo, LoadAddress}
use Rattle.rt_text.specs.declared.operands.Operand.{Operand}
use Rattle.rt_text.specs.declared.operands.Operand.TheVariants.{Word, Number, Memory}
use Rattle.rt_asm.specs.Labels.{address_in}
use Rattle.rt_asm.specs.Numbers.{is_between}
use Rattle.rt_asm.specs.Transfers.{distance_to}
use Rattle.rt_asm.specs.declared.fault.AsmKind.{AsmKind}
use Rattle.rt_asm.specs.declared.fault.AsmKind.TheVariants as kinds
use Rattle.rt_asm.specs.declared.flaws.Reason.{Reason}
use Rattle.rt_asm.specs.declared.flaws.Reason.TheVariants as reason
use Rattle.rt_asm.specs.declared.ranges.Range.{Range}
use Rattle.rt_asm.specs.OperandRanges.{number_range, span_range}

-- the number in an operand
abbrev pub number_in : Operand → Option ℤ
number_in (Number s n) = Some n
number_in (Memory span m) = Some m.offset
number_in _ = None

-- what is wrong with the first of some things with which something is wrong
abbrev pub first_reason : {A : Type 0} → (A → Option Reason) → List A → Option Reason
first_reason f [] = None
first_reason f (x ∷ xs) = or_else (f x) (first_reason f xs)

-- a number that isn't in its range
abbrev pub out_of : Range → Operand → Option Reason
out_of range o = option_and_then (λ n. if is_between range.low range.high n then None else Some (reason.Number (span_of o) n range)) (number_in o)

abbrev pub number_reason : SourceStatement → Option Reason
number_reason s = option_and_then (λ range. first_reason (out_of range) s.operands) (number_range s.meaning)

-- a label that no line defines
abbrev pub undefined : List Label → Operand → Option Reason
undefined labels (Word s) = if is_some (address_in labels s.text) then None else Some (reason.Undefined (span_at s))
undefined labels _ = None

-- how many of n operands name no label: all but the last one of a transfer, none of a directive
abbrev pub unnamed : Meaning → ℕ → ℕ
unnamed (meaning.Transfer t) n = n - 1
unnamed (meaning.Directive d) n = 0
unnamed _ n = n

-- where a jump, a branch or an address leads
abbrev pub target_of : Transfer → Option Target
target_of (JumpAndLink d t) = Some t
target_of (Branch op a b t) = Some t
target_of (ZeroBranch op a t) = Some t
target_of (JumpTo op t) = Some t
target_of (LoadAddress d t) = Some t
target_of _ = None

-- how far that is from place, with sign
abbrev pub distance_of : List Label → ℕ → Transfer → Option ℤ
distance_of labels place t = option_and_then (λ target. option_map (λ n. signed 32 n) (result_ok (distance_to labels place target))) (target_of t)

-- what is said of the target of a statement, which is its last operand
abbrev pub of_target : (Span → ℤ → Reason) → List Label → ℕ → Transfer → List Operand → Option Reason
of_target f labels place t os = option_and_then (λ o. option_map (f (span_of o)) (distance_of labels place t)) (slice_get os (length os - 1))

abbrev pub far : List Label → ℕ → Meaning → List Operand → Option Reason
far labels place (meaning.Transfer t) os = option_and_then (λ range. of_target (λ span n. reason.Far span n range) labels place t os) (span_range t)
far labels place _ os = None

abbrev pub odd : List Label → ℕ → Meaning → List Operand → Option Reason
odd labels place (meaning.Transfer t) os = of_target reason.Odd labels place t os
odd labels place _ os = None

-- why the operands of a statement that stands at place are at fault, by the kind of the fault
abbrev pub operand_reason : List Label → ℕ → SourceStatement → AsmKind → Option Reason
operand_reason labels place s kinds.UndefinedLabel = first_reason (undefined labels) (drop (unnamed s.meaning (length s.operands)) s.operands)
operand_reason labels place s kinds.OutOfRange = or_else (number_reason s) (far labels place s.meaning s.operands)
operand_reason labels place s kinds.OddTarget = odd labels place s.meaning s.operands
operand_reason labels place s _ = None

abbrev pub line_reason : List Label → ℕ → Option SourceStatement → AsmKind → Option Reason
line_reason labels place s kind = option_and_then (λ s. operand_reason labels place s kind) s
