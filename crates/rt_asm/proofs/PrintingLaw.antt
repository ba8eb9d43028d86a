-- The text of each word of the table, and of the words that are none.
use Rattle.rt_asm.proofs.Common.{◌≡◌, ℕ, ◌^◌, ◌<◌, List, ◌++◌, refl, ap, Option, Some, None, codes, option_map}
use Rattle.std.specs.Prelude.{unwrap_or}
use Rattle.std.specs.Option.{option_and_then}
use Rattle.rt_isa.specs.Print.{operands, written, text, data_text}
use Rattle.rt_isa.specs.Table.{Row, table, cut, ins, row_of}
use Rattle.rt_isa.proofs.OneRow.{EachRow, row_found}
use Rattle.rt_text.specs.Forms.{forms}
use Rattle.rt_text.specs.declared.operations.UpperOp.TheVariants as uppers
use Rattle.rt_text.specs.declared.operations.BranchOp.TheVariants as branches
use Rattle.rt_text.specs.declared.operations.LoadOp.TheVariants as loads
use Rattle.rt_text.specs.declared.operations.StoreOp.TheVariants as stores
use Rattle.rt_text.specs.declared.operations.ImmediateOp.TheVariants as immediates
use Rattle.rt_text.specs.declared.operations.ShiftOp.TheVariants as shifts
use Rattle.rt_text.specs.declared.operations.RegisterOp.TheVariants as registers
use Rattle.rt_text.specs.declared.operations.PlainOp.TheVariants as plains
use Rattle.rt_text.proofs.PrintedStatements.{named}
use Rattle.rt_asm.specs.Printed.{ReadsBack}
use Rattle.rt_asm.proofs.PrintingRows.{register_reads, shift_reads, immediate_reads, upper_reads, load_reads, store_reads, jump_reads, jump_register_reads, branch_reads, plain_reads, fence_reads, data_reads}

-- the text of a row's word: its statement where it has operands
abbrev row_text : Row → ℕ → ℕ → List ℕ
row_text r pc w = unwrap_or (option_map (λ o. r.name ++ written o) (operands pc r.format w)) (data_text w)

abbrev Reads : Row → Type 0
Reads r = (pc w : ℕ) → pc < 2 ^ 32 → w < 2 ^ 32 → ins w ≡ Some (cut r.format w) → ReadsBack (row_text r pc w) pc w

-- one fact and those after it
infixr 20 ◌⨾◌
abbrev ◌⨾◌ : {A B : Type 0} → A → B → A × B
x ⨾ y = (x, y)

table_reads : EachRow Reads table
unfolding operands forms
table_reads =
    upper_reads (codes "lui") uppers.Lui (named _ _ refl refl)
    ⨾ upper_reads (codes "auipc") uppers.Auipc (named _ _ refl refl)
    ⨾ jump_reads
    ⨾ jump_register_reads
    ⨾ branch_reads (codes "beq") branches.Beq (named _ _ refl refl)
    ⨾ branch_reads (codes "bne") branches.Bne (named _ _ refl refl)
    ⨾ branch_reads (codes "blt") branches.Blt (named _ _ refl refl)
    ⨾ branch_reads (codes "bge") branches.Bge (named _ _ refl refl)
    ⨾ branch_reads (codes "bltu") branches.Bltu (named _ _ refl refl)
    ⨾ branch_reads (codes "bgeu") branches.Bgeu (named _ _ refl refl)
    ⨾ load_reads (codes "lb") loads.Lb (named _ _ refl refl)
    ⨾ load_reads (codes "lh") loads.Lh (named _ _ refl refl)
    ⨾ load_reads (codes "lw") loads.Lw (named _ _ refl refl)
    ⨾ load_reads (codes "lbu") loads.Lbu (named _ _ refl refl)
    ⨾ load_reads (codes "lhu") loads.Lhu (named _ _ refl refl)
    ⨾ store_reads (codes "sb") stores.Sb (named _ _ refl refl)
    ⨾ store_reads (codes "sh") stores.Sh (named _ _ refl refl)
    ⨾ store_reads (codes "sw") stores.Sw (named _ _ refl refl)
    ⨾ immediate_reads (codes "addi") immediates.Addi (named _ _ refl refl)
    ⨾ immediate_reads (codes "slti") immediates.Slti (named _ _ refl refl)
    ⨾ immediate_reads (codes "sltiu") immediates.Sltiu (named _ _ refl refl)
    ⨾ immediate_reads (codes "xori") immediates.Xori (named _ _ refl refl)
    ⨾ immediate_reads (codes "ori") immediates.Ori (named _ _ refl refl)
    ⨾ immediate_reads (codes "andi") immediates.Andi (named _ _ refl refl)
    ⨾ shift_reads (codes "slli") shifts.Slli (named _ _ refl refl)
    ⨾ shift_reads (codes "srli") shifts.Srli (named _ _ refl refl)
    ⨾ shift_reads (codes "srai") shifts.Srai (named _ _ refl refl)
    ⨾ register_reads (codes "add") registers.Add (named _ _ refl refl)
    ⨾ register_reads (codes "sub") registers.Sub (named _ _ refl refl)
    ⨾ register_reads (codes "sll") registers.Sll (named _ _ refl refl)
    ⨾ register_reads (codes "slt") registers.Slt (named _ _ refl refl)
    ⨾ register_reads (codes "sltu") registers.Sltu (named _ _ refl refl)
    ⨾ register_reads (codes "xor") registers.Xor (named _ _ refl refl)
    ⨾ register_reads (codes "srl") registers.Srl (named _ _ refl refl)
    ⨾ register_reads (codes "sra") registers.Sra (named _ _ refl refl)
    ⨾ register_reads (codes "or") registers.Or (named _ _ refl refl)
    ⨾ register_reads (codes "and") registers.And (named _ _ refl refl)
    ⨾ fence_reads
    ⨾ plain_reads (codes "ecall") plains.Ecall (named _ _ refl refl)
    ⨾ plain_reads (codes "ebreak") plains.Ebreak (named _ _ refl refl)
    ⨾ tt

-- what `disasm` prints reads back
pub reads_back : (pc w : ℕ) → pc < 2 ^ 32 → w < 2 ^ 32 → ReadsBack (text pc w) pc w
unfolding text ins row_of
reads_back pc w is_pc is_w = from (row_of w) refl
  where
    from : (o : Option Row) → row_of w ≡ o → ReadsBack (unwrap_or (option_and_then (λ (r : Row). option_map (λ o. r.name ++ written o) (operands pc r.format w)) o) (data_text w)) pc w
    from None none = data_reads pc w is_w
    from (Some r) found =
        (row_found Reads table table_reads w r found).1 pc w is_pc is_w (ap (option_map (λ (q : Row). cut q.format w)) found)
