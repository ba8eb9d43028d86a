-- The instructions of operations on registers, numbers and memory.
use Rattle.std.specs.Prelude.{ℕ, ℤ, unsigned_abs, List, [], ◌∷◌, Result, Ok}
use Rattle.rt_isa.specs.declared.instruction.Ins.{Ins}
use Rattle.rt_text.specs.declared.meaning.Operation.{Operation}
use Rattle.rt_text.specs.declared.meaning.Operation.TheVariants.{Upper, LoadNumber, Immediate, Shift, Register, Unary, Load, Store}
use Rattle.rt_words.specs.Modular.{modulo}
use Rattle.rt_asm.specs.Ranges.{within, immediates, uppers, shifts}
use Rattle.rt_asm.specs.declared.ranges.Range.{Range}
use Rattle.rt_asm.specs.Pseudo.{load_number}
use Rattle.rt_asm.specs.Rows.{upper, immediate, shift, register, unary, load, store}
use Rattle.rt_words.specs.Chain.{mapped}
use Rattle.rt_asm.specs.declared.fault.AsmKind.{AsmKind}

-- an instruction with a signed 12-bit immediate
abbrev pub with_immediate : (ℤ → Ins) → ℤ → Result (List Ins) AsmKind
with_immediate make n = mapped (λ i. make i ∷ []) (within immediates n)

-- an instruction with a number of a range that begins with 0
abbrev pub with_natural : Range → (ℕ → Ins) → ℤ → Result (List Ins) AsmKind
with_natural range make n = mapped (λ i. make (unsigned_abs i) ∷ []) (within range n)

-- the instructions of an operation
abbrev pub operation_code : Operation → Result (List Ins) AsmKind
operation_code (Upper op d n) = with_natural uppers (λ i. upper op d i) n
operation_code (LoadNumber d n) = Ok (load_number d (modulo 32 n))
operation_code (Immediate op d a n) = with_immediate (λ i. immediate op d a i) n
operation_code (Shift op d a n) = with_natural shifts (λ i. shift op d a i) n
operation_code (Register op d a b) = Ok (register op d a b ∷ [])
operation_code (Unary op d a) = Ok (unary op d a ∷ [])
operation_code (Load op d m) = with_immediate (λ i. load op d m.base i) m.offset
operation_code (Store op b m) = with_immediate (λ i. store op m.base b i) m.offset
