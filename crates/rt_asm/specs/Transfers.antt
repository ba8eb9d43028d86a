-- The instructions of jumps, branches and addresses.
use Rattle.std.specs.Prelude.{ℕ, ℤ, List, [], ◌∷◌, ◌%◌, ◌==◌, Result, Ok}
use Rattle.rt_isa.specs.Bits.{signed}
use Rattle.rt_isa.specs.declared.instruction.Ins.{Ins}
use Rattle.rt_isa.specs.declared.instruction.Ins.TheVariants.{Jal, Jalr}
use Rattle.rt_image.specs.ObjectFile.{Label}
use Rattle.rt_text.specs.declared.meaning.Target.{Target}
use Rattle.rt_text.specs.declared.meaning.Transfer.{Transfer}
use Rattle.rt_text.specs.declared.meaning.Transfer.TheVariants.{JumpAndLink, JumpAndLinkRegister, Branch, ZeroBranch, JumpTo, JumpRegister, LoadAddress}
use Rattle.rt_text.specs.declared.operations.JumpOp.{JumpOp}
use Rattle.rt_text.specs.declared.operations.JumpOp.TheVariants.{J, Jal as JalTo, Call, Tail}
use Rattle.rt_asm.specs.Labels.{address_of}
use Rattle.rt_words.specs.Modular.{difference32}
use Rattle.rt_asm.specs.Ranges.{within, immediates, branches, jumps}
use Rattle.rt_asm.specs.declared.ranges.Range.{Range}
use Rattle.rt_asm.specs.Pseudo.{load_address, far_jump}
use Rattle.rt_asm.specs.Rows.{branch, zero_branch, jump_register}
use Rattle.rt_words.specs.Chain.{◌>>=◌, mapped, when}
use Rattle.rt_asm.specs.declared.fault.AsmKind.{AsmKind}
use Rattle.rt_asm.specs.declared.fault.AsmKind.TheVariants.{OddTarget}

-- how far a target is from a place, modulo 2^32
abbrev pub distance_to : List Label → ℕ → Target → Result ℕ AsmKind
distance_to labels place t = mapped (λ address. difference32 address place) (address_of labels t)

-- an instruction over a distance, which is even and in a range, taken with sign
abbrev pub over : Range → (ℤ → Ins) → ℕ → Result (List Ins) AsmKind
over range make n = do
  i ← within range (signed 32 n)
  when (n % 2 == 0) OddTarget (make i ∷ [])

abbrev pub branch_over : (ℤ → Ins) → ℕ → Result (List Ins) AsmKind
branch_over make n = over branches make n

abbrev pub jump_over : (ℤ → Ins) → ℕ → Result (List Ins) AsmKind
jump_over make n = over jumps make n

-- `j` and `jal` are one row; `call` goes through x1, `tail` through x6
abbrev pub jump_to : JumpOp → ℕ → Result (List Ins) AsmKind
jump_to J n = jump_over (λ i. Jal 0 i) n
jump_to JalTo n = jump_over (λ i. Jal 1 i) n
jump_to Call n = Ok (far_jump 1 1 n)
jump_to Tail n = Ok (far_jump 0 6 n)

-- the instructions of a jump, a branch or an address that stands at place
abbrev pub transfer_code : List Label → ℕ → Transfer → Result (List Ins) AsmKind
transfer_code labels place (JumpAndLink d t) = distance_to labels place t >>= (jump_over (λ i. Jal d i))
transfer_code labels place (JumpAndLinkRegister d m) =
    mapped (λ i. Jalr d m.base i ∷ []) (within immediates m.offset)
transfer_code labels place (Branch op a b t) = distance_to labels place t >>= (branch_over (λ i. branch op a b i))
transfer_code labels place (ZeroBranch op a t) = distance_to labels place t >>= (branch_over (λ i. zero_branch op a i))
transfer_code labels place (JumpTo op t) = distance_to labels place t >>= (jump_to op)
transfer_code labels place (JumpRegister op a) = Ok (jump_register op a ∷ [])
transfer_code labels place (LoadAddress d t) = mapped (load_address d) (distance_to labels place t)
