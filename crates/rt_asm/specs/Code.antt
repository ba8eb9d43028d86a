-- What a statement assembles to.
use Rattle.std.specs.Prelude.{◌≡◌, ℕ, ◌<◌, ◌+◌, ◌*◌, ◌^◌, List, [], ◌∷◌, ◌++◌, length, Option, Some, None, Result, Ok}
use Rattle.byteorder.specs.Endian.{little_bytes}
use Rattle.rt_isa.specs.Table.{ins}
use Rattle.rt_isa.specs.declared.instruction.Ins.{Ins}
use Rattle.rt_isa.specs.declared.instruction.Ins.TheVariants as row
use Rattle.rt_image.specs.ObjectFile.{Label}
use Rattle.rt_text.specs.Line.{SourceStatement}
use Rattle.rt_text.specs.declared.meaning.Meaning.{Meaning}
use Rattle.rt_text.specs.declared.meaning.Meaning.TheVariants.{Operation, Transfer, Fence, Plain, Directive}
use Rattle.rt_asm.specs.Data.{data_of}
use Rattle.rt_asm.specs.Operations.{operation_code}
use Rattle.rt_asm.specs.Rows.{plain}
use Rattle.rt_words.specs.Chain.{mapped}
use Rattle.rt_asm.specs.Transfers.{transfer_code}
use Rattle.rt_asm.specs.declared.fault.AsmKind.{AsmKind}

-- instructions, or bytes that mean none
pub data Code : Type 0 where
  Instructions : List Ins → Code
  Data : List ℕ → Code

-- what a statement of this meaning at place assembles to, under these labels, or its fault
unfoldable pub code_of : List Label → ℕ → Meaning → Result Code AsmKind
code_of labels place (Operation o) = mapped Instructions (operation_code o)
code_of labels place (Transfer t) = mapped Instructions (transfer_code labels place t)
code_of labels place (Fence before after) = Ok (Instructions (row.Fence 0 0 (before * 16 + after) ∷ []))
code_of labels place (Plain op) = Ok (Instructions (plain op ∷ []))
code_of labels place (Directive d) = mapped Data (data_of labels place d)

-- a line without a statement has no bytes
abbrev pub statement_code : List Label → ℕ → Option SourceStatement → Result Code AsmKind
statement_code labels place None = Ok (Data [])
statement_code labels place (Some s) = code_of labels place s.meaning

-- the words of instructions, each four bytes, the lowest first; an instruction has one word, that of its row and its fields
abbrev pub AreWords : List Ins → List ℕ → Type 0
AreWords [] bytes = bytes ≡ []
AreWords (x ∷ xs) bytes =
    (w : ℕ) × (rest : List ℕ) × (w < 2 ^ 32) × (ins w ≡ Some x) × (bytes ≡ little_bytes 4 w ++ rest) × AreWords xs rest

-- the bytes of code
abbrev pub IsCode : Code → List ℕ → Type 0
IsCode (Instructions xs) bytes = AreWords xs bytes
IsCode (Data ds) bytes = bytes ≡ ds

-- how many bytes they are
abbrev pub code_size : Code → ℕ
code_size (Instructions xs) = 4 * length xs
code_size (Data ds) = length ds
