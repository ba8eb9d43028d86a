-- How many bytes a statement takes, which no label changes.
use Rattle.std.specs.Prelude.{ℕ, ◌+◌, ◌*◌, ◌^◌, length, Option, Some, None, Result, Ok}
use Rattle.rt_text.specs.Line.{SourceStatement}
use Rattle.rt_text.specs.declared.meaning.Meaning.{Meaning}
use Rattle.rt_text.specs.declared.meaning.Meaning.TheVariants as meaning
use Rattle.rt_text.specs.declared.meaning.Operation.{Operation}
use Rattle.rt_text.specs.declared.meaning.Operation.TheVariants.{LoadNumber}
use Rattle.rt_text.specs.declared.meaning.Transfer.{Transfer}
use Rattle.rt_text.specs.declared.meaning.Transfer.TheVariants.{JumpTo, LoadAddress}
use Rattle.rt_text.specs.declared.meaning.Directive.{Directive}
use Rattle.rt_text.specs.declared.meaning.Directive.TheVariants.{Nothing, Bytes, Halves, Words, Zero, Align, Text}
use Rattle.rt_text.specs.declared.operations.JumpOp.{JumpOp}
use Rattle.rt_text.specs.declared.operations.JumpOp.TheVariants.{Call, Tail}
use Rattle.rt_asm.specs.Data.{gap, zero_count, alignment, end_of_text}
use Rattle.rt_words.specs.Modular.{modulo}
use Rattle.rt_asm.specs.Pseudo.{load_number}
use Rattle.rt_words.specs.Chain.{mapped}
use Rattle.rt_asm.specs.declared.fault.AsmKind.{AsmKind}

-- `li` has one word or two, by its number
abbrev pub operation_size : Operation → ℕ
operation_size (LoadNumber d n) = 4 * length (load_number d (modulo 32 n))
operation_size _ = 4

abbrev pub jump_size : JumpOp → ℕ
jump_size Call = 8
jump_size Tail = 8
jump_size _ = 4

abbrev pub transfer_size : Transfer → ℕ
transfer_size (JumpTo op t) = jump_size op
transfer_size (LoadAddress d t) = 8
transfer_size _ = 4

-- a count may be out of range
abbrev pub directive_size : ℕ → Directive → Result ℕ AsmKind
directive_size place Nothing = Ok 0
directive_size place (Bytes ns) = Ok (length ns)
directive_size place (Halves ns) = Ok (2 * length ns)
directive_size place (Words ts) = Ok (4 * length ts)
directive_size place (Zero n) = zero_count n
directive_size place (Align n) = mapped (λ power. gap (2 ^ power) place) (alignment n)
directive_size place (Text op bytes) = Ok (length bytes + length (end_of_text op))

-- the bytes of a statement of this meaning at place
abbrev pub size_of : ℕ → Meaning → Result ℕ AsmKind
size_of place (meaning.Operation o) = Ok (operation_size o)
size_of place (meaning.Transfer t) = Ok (transfer_size t)
size_of place (meaning.Fence before after) = Ok 4
size_of place (meaning.Plain op) = Ok 4
size_of place (meaning.Directive d) = directive_size place d

abbrev pub statement_size : ℕ → Option SourceStatement → Result ℕ AsmKind
statement_size place None = Ok 0
statement_size place (Some s) = size_of place s.meaning
