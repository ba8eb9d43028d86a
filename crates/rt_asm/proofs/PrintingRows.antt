-- What each kind of printed statement assembles to.
use Rattle.rt_asm.proofs.Common.{◌≡◌, ℕ, suc, ℤ, pos, Bool, true, ◌+◌, ◌*◌, ◌%◌, ◌^◌, ◌<◌, List, [], ◌∷◌, ◌++◌, refl, sym, ap, ◌∙◌, arith, Some, Ok, codes, option_map, nat_tests, ints, little_bytes, signed, Ins, Label, Meaning, Instructions, Data, code_of, mapped}
use Rattle.std.proofs.Common.{zero, not, ◌&&◌, eqb, inl, inr, append-nil}
use Rattle.std.specs.Fmt.{decimal, signed_decimal}
use Rattle.std.specs.Prelude.{unwrap_or}
use Rattle.std.proofs.lemmas.Bool.{cases_Bool, eqb-true, and_parts}
use Rattle.rt_isa.specs.Bits.{slice}
use Rattle.rt_isa.specs.Fields.{rd, rs1, rs2, shamt, order, i_immediate, s_immediate, b_immediate, u_immediate, j_immediate}
use Rattle.rt_words.specs.Hex.{hex}
use Rattle.rt_isa.specs.Print.{register, target, letters, written, fence_operands, data_text}
use Rattle.rt_isa.specs.Table.{ins}
use Rattle.rt_isa.specs.declared.instruction.Ins.TheVariants as row
use Rattle.rt_text.specs.declared.meaning.Operation.TheVariants as operations
use Rattle.rt_text.specs.declared.operations.UpperOp.{UpperOp}
use Rattle.rt_text.specs.declared.operations.BranchOp.{BranchOp}
use Rattle.rt_text.specs.declared.operations.LoadOp.{LoadOp}
use Rattle.rt_text.specs.declared.operations.StoreOp.{StoreOp}
use Rattle.rt_text.specs.declared.operations.ImmediateOp.{ImmediateOp}
use Rattle.rt_text.specs.declared.operations.ShiftOp.{ShiftOp}
use Rattle.rt_text.specs.declared.operations.RegisterOp.{RegisterOp}
use Rattle.rt_text.specs.declared.operations.PlainOp.{PlainOp}
use Rattle.rt_text.proofs.PrintedTokens.{Means}
use Rattle.rt_text.proofs.PrintedShapes.{pair_text, triple_text, memory_text}
use Rattle.rt_text.proofs.PrintedStatements.{IsRegisterName, IsShiftName, IsImmediateName, IsUpperName, IsLoadName, IsStoreName, IsBranchName, IsPlainName, register_statement, shift_statement, immediate_statement, upper_statement, load_statement, store_statement, jump_statement, jump_register_statement, branch_statement, plain_statement, fence_statement, sets_statement, data_statement}
use Rattle.rt_asm.specs.Operations.{with_immediate, operation_code}
use Rattle.rt_asm.specs.Printed.{ReadsBack}
use Rattle.rt_asm.specs.Rows.{upper, branch, load, store, immediate, shift, register as register_row, plain}
use Rattle.rt_asm.specs.Transfers.{branch_over, jump_over}
use Rattle.rt_asm.proofs.PrintingRanges.{Immediate, immediate as immediate_range, Offset, branch_offset, jump_offset, target_small, Reached, reached}

-- a statement that assembles to one instruction, that of the word w
one_word : (text : List ℕ) (pc w : ℕ) (m : Meaning) (x : Ins) → w < 2 ^ 32 → ins w ≡ Some x → Means text m → ((labels : List Label) → code_of labels pc m ≡ Ok (Instructions (x ∷ []))) → ReadsBack text pc w
one_word text pc w m x is_w is means code =
    record {
      line = means.line;
      statement = means.statement;
      read = means.read;
      unlabelled = means.unlabelled;
      stated = means.stated;
      placed = λ labels. (Instructions (x ∷ []), rw (means.stated, means.means) (code labels), (w, [], is_w, is, sym (append-nil (little_bytes 4 w)), refl));
    }

-- ---- what lies in its range is taken as it is

with_immediate_is : (make : ℤ → Ins) (i : ℤ) → Immediate i → with_immediate make i ≡ Ok (make i ∷ [])
with_immediate_is make i range =
    let low = range.low in
    let high = range.high in
    grind (arith, ints)

shift_amount_is : (op : ShiftOp) (d a n : ℕ) → n < 32 → operation_code (operations.Shift op d a (pos n)) ≡ Ok (shift op d a n ∷ [])
shift_amount_is op d a n small = grind (arith, ints)

upper_is : (op : UpperOp) (d n : ℕ) → n < 2 ^ 20 → operation_code (operations.Upper op d (pos n)) ≡ Ok (upper op d n ∷ [])
upper_is op d n small = grind (arith, ints)

branch_over_is : (make : ℤ → Ins) (n : ℕ) (i : ℤ) → signed 32 n ≡ i → Offset 4095 i → n % 2 ≡ 0 → branch_over make n ≡ Ok (make i ∷ [])
branch_over_is make n i value offset even =
    let low = offset.low in
    let high = offset.high in
    rw value (grind (arith, ints, nat_tests))

jump_over_is : (make : ℤ → Ins) (n : ℕ) (i : ℤ) → signed 32 n ≡ i → Offset 1048575 i → n % 2 ≡ 0 → jump_over make n ≡ Ok (make i ∷ [])
jump_over_is make n i value offset even =
    let low = offset.low in
    let high = offset.high in
    rw value (grind (arith, ints, nat_tests))

-- ---- words of the rows

pub register_reads : (name : List ℕ) (op : RegisterOp) → IsRegisterName name op → (pc w : ℕ) → pc < 2 ^ 32 → w < 2 ^ 32 → ins w ≡ Some (register_row op (rd w) (rs1 w) (rs2 w)) → ReadsBack (name ++ triple_text (register (rd w)) (register (rs1 w)) (register (rs2 w))) pc w
unfolding code_of
register_reads name op named pc w is_pc is_w is =
    one_word _ pc w _ _ is_w is (register_statement name op (rd w) (rs1 w) (rs2 w) named (omega arith) (omega arith) (omega arith)) (λ labels. refl)

pub shift_reads : (name : List ℕ) (op : ShiftOp) → IsShiftName name op → (pc w : ℕ) → pc < 2 ^ 32 → w < 2 ^ 32 → ins w ≡ Some (shift op (rd w) (rs1 w) (shamt w)) → ReadsBack (name ++ triple_text (register (rd w)) (register (rs1 w)) (decimal (shamt w))) pc w
unfolding code_of
shift_reads name op named pc w is_pc is_w is =
    let amount : shamt w < 32 = omega arith in
    one_word _ pc w _ _ is_w is (shift_statement name op (rd w) (rs1 w) (shamt w) named (omega arith) (omega arith) amount)
    (λ labels. ap (mapped Instructions) (shift_amount_is op (rd w) (rs1 w) (shamt w) amount))

pub immediate_reads : (name : List ℕ) (op : ImmediateOp) → IsImmediateName name op → (pc w : ℕ) → pc < 2 ^ 32 → w < 2 ^ 32 → ins w ≡ Some (immediate op (rd w) (rs1 w) (i_immediate w)) → ReadsBack (name ++ triple_text (register (rd w)) (register (rs1 w)) (signed_decimal (i_immediate w))) pc w
unfolding code_of
immediate_reads name op named pc w is_pc is_w is =
    let range : Immediate (i_immediate w) = immediate_range _ (omega arith) in
    one_word _ pc w _ _ is_w is (immediate_statement name op (rd w) (rs1 w) (i_immediate w) named (omega arith) (omega arith) range.low range.high)
    (λ labels. ap (mapped Instructions) (with_immediate_is (immediate op (rd w) (rs1 w)) (i_immediate w) range))

pub upper_reads : (name : List ℕ) (op : UpperOp) → IsUpperName name op → (pc w : ℕ) → pc < 2 ^ 32 → w < 2 ^ 32 → ins w ≡ Some (upper op (rd w) (u_immediate w)) → ReadsBack (name ++ pair_text (register (rd w)) (48 ∷ 120 ∷ hex 5 (u_immediate w))) pc w
unfolding code_of
upper_reads name op named pc w is_pc is_w is =
    let small : u_immediate w < 2 ^ 20 = omega arith in
    one_word _ pc w _ _ is_w is (upper_statement name op (rd w) (u_immediate w) named (omega arith) small)
    (λ labels. ap (mapped Instructions) (upper_is op (rd w) (u_immediate w) small))

pub load_reads : (name : List ℕ) (op : LoadOp) → IsLoadName name op → (pc w : ℕ) → pc < 2 ^ 32 → w < 2 ^ 32 → ins w ≡ Some (load op (rd w) (rs1 w) (i_immediate w)) → ReadsBack (name ++ memory_text (register (rd w)) (signed_decimal (i_immediate w)) (register (rs1 w))) pc w
unfolding code_of
load_reads name op named pc w is_pc is_w is =
    let range : Immediate (i_immediate w) = immediate_range _ (omega arith) in
    one_word _ pc w _ _ is_w is (load_statement name op (rd w) (rs1 w) (i_immediate w) named (omega arith) (omega arith) range.low range.high)
    (λ labels. ap (mapped Instructions) (with_immediate_is (load op (rd w) (rs1 w)) (i_immediate w) range))

pub store_reads : (name : List ℕ) (op : StoreOp) → IsStoreName name op → (pc w : ℕ) → pc < 2 ^ 32 → w < 2 ^ 32 → ins w ≡ Some (store op (rs1 w) (rs2 w) (s_immediate w)) → ReadsBack (name ++ memory_text (register (rs2 w)) (signed_decimal (s_immediate w)) (register (rs1 w))) pc w
unfolding code_of
store_reads name op named pc w is_pc is_w is =
    let range : Immediate (s_immediate w) = immediate_range _ (omega arith) in
    one_word _ pc w _ _ is_w is (store_statement name op (rs2 w) (rs1 w) (s_immediate w) named (omega arith) (omega arith) range.low range.high)
    (λ labels. ap (mapped Instructions) (with_immediate_is (store op (rs1 w) (rs2 w)) (s_immediate w) range))

pub jump_register_reads : (pc w : ℕ) → pc < 2 ^ 32 → w < 2 ^ 32 → ins w ≡ Some (row.Jalr (rd w) (rs1 w) (i_immediate w)) → ReadsBack (codes "jalr" ++ memory_text (register (rd w)) (signed_decimal (i_immediate w)) (register (rs1 w))) pc w
unfolding code_of
jump_register_reads pc w is_pc is_w is =
    let range : Immediate (i_immediate w) = immediate_range _ (omega arith) in
    one_word _ pc w _ _ is_w is (jump_register_statement (rd w) (rs1 w) (i_immediate w) (omega arith) (omega arith) range.low range.high)
    (λ labels. ap (mapped Instructions) (with_immediate_is (row.Jalr (rd w) (rs1 w)) (i_immediate w) range))

pub branch_reads : (name : List ℕ) (op : BranchOp) → IsBranchName name op → (pc w : ℕ) → pc < 2 ^ 32 → w < 2 ^ 32 → ins w ≡ Some (branch op (rs1 w) (rs2 w) (b_immediate w)) → ReadsBack (name ++ triple_text (register (rs1 w)) (register (rs2 w)) (48 ∷ 120 ∷ hex 8 (target pc (b_immediate w)))) pc w
unfolding code_of
branch_reads name op named pc w is_pc is_w is =
    let offset : Offset 4095 (b_immediate w) = branch_offset _ (omega arith) (omega arith) in
    let there : Reached pc (b_immediate w) = reached pc (b_immediate w) is_pc (wider offset) in
    one_word _ pc w _ _ is_w is (branch_statement name op (rs1 w) (rs2 w) (target pc (b_immediate w)) named (omega arith) (omega arith) (target_small pc (b_immediate w)))
    (λ labels. ap (mapped Instructions) (branch_over_is (branch op (rs1 w) (rs2 w)) _ (b_immediate w) there.value offset there.even))
  where
    wider : {i : ℤ} → Offset 4095 i → Offset 1048575 i
    wider {i} offset = record { low = omega (arith, ints, offset.low); high = omega (arith, ints, offset.high); even = offset.even }

pub jump_reads : (pc w : ℕ) → pc < 2 ^ 32 → w < 2 ^ 32 → ins w ≡ Some (row.Jal (rd w) (j_immediate w)) → ReadsBack (codes "jal" ++ pair_text (register (rd w)) (48 ∷ 120 ∷ hex 8 (target pc (j_immediate w)))) pc w
unfolding code_of
jump_reads pc w is_pc is_w is =
    let offset : Offset 1048575 (j_immediate w) = jump_offset _ (omega arith) (omega arith) in
    let there : Reached pc (j_immediate w) = reached pc (j_immediate w) is_pc offset in
    one_word _ pc w _ _ is_w is (jump_statement (rd w) (target pc (j_immediate w)) (omega arith) (target_small pc (j_immediate w)))
    (λ labels. ap (mapped Instructions) (jump_over_is (row.Jal (rd w)) _ (j_immediate w) there.value offset there.even))

pub plain_reads : (name : List ℕ) (op : PlainOp) → IsPlainName name op → (pc w : ℕ) → pc < 2 ^ 32 → w < 2 ^ 32 → ins w ≡ Some (plain op) → ReadsBack name pc w
unfolding code_of
plain_reads name op named pc w is_pc is_w is =
    one_word name pc w _ _ is_w is (plain_statement name op named) (λ labels. refl)

-- ---- words that are data

pub data_reads : (pc w : ℕ) → w < 2 ^ 32 → ReadsBack (data_text w) pc w
unfolding code_of
data_reads pc w is_w =
    let means = data_statement w is_w in
    let small : w % 2 ^ 32 ≡ w = omega arith in
    record {
      line = means.line;
      statement = means.statement;
      read = means.read;
      unlabelled = means.unlabelled;
      stated = means.stated;
      placed = λ labels. (Data (little_bytes 4 w), rw (means.stated, means.means, small, append-nil (little_bytes 4 w)) refl, refl);
    }

-- ---- FENCE

-- the conditions of `fence_operands`: `fence`, and two sets and nothing else
abbrev is_fence : ℕ → ℕ → ℕ → Bool
is_fence d a n = (eqb d 0 && eqb a 0) && eqb n 0x0FF

abbrev has_sets : ℕ → ℕ → ℕ → Bool
has_sets d a n = (((eqb d 0 && eqb a 0) && eqb (slice 11 8 n) 0) && not (eqb (slice 7 4 n) 0)) && not (eqb (slice 3 0 n) 0)

no_registers : (d a n m : ℕ) → d ≡ 0 → a ≡ 0 → n ≡ m → row.Fence d a n ≡ row.Fence 0 0 m
no_registers d a n m is_d is_a is_n = cc

not_zero : (n : ℕ) → not (eqb n 0) ≡ true → 0 < n
not_zero zero is = absurd cc
not_zero (suc n) is = omega arith

bare_reads : (pc w d a n : ℕ) → w < 2 ^ 32 → ins w ≡ Some (row.Fence d a n) → is_fence d a n ≡ true → ReadsBack (codes "fence") pc w
unfolding code_of
bare_reads pc w d a n is_w is bare =
    let all = and_parts (eqb d 0 && eqb a 0) (eqb n 0x0FF) bare in
    let none = and_parts (eqb d 0) (eqb a 0) all.0 in
    one_word (codes "fence") pc w _ _ is_w (is ∙ ap Some (no_registers d a n 0x0FF (eqb-true d 0 none.0) (eqb-true a 0 none.1) (eqb-true n 0x0FF all.1))) fence_statement (λ labels. refl)

sets_reads : (pc w d a n : ℕ) → w < 2 ^ 32 → ins w ≡ Some (row.Fence d a n) → n < 2 ^ 12 → has_sets d a n ≡ true → ReadsBack (codes "fence" ++ pair_text (letters (slice 7 4 n)) (letters (slice 3 0 n))) pc w
unfolding code_of
sets_reads pc w d a n is_w is is_n has =
    let after = and_parts (((eqb d 0 && eqb a 0) && eqb (slice 11 8 n) 0) && not (eqb (slice 7 4 n) 0)) (not (eqb (slice 3 0 n) 0)) has in
    let before = and_parts ((eqb d 0 && eqb a 0) && eqb (slice 11 8 n) 0) (not (eqb (slice 7 4 n) 0)) after.0 in
    let mode = and_parts (eqb d 0 && eqb a 0) (eqb (slice 11 8 n) 0) before.0 in
    let none = and_parts (eqb d 0) (eqb a 0) mode.0 in
    let normal : slice 11 8 n ≡ 0 = eqb-true (slice 11 8 n) 0 mode.1 in
    let sum : n ≡ slice 7 4 n * 16 + slice 3 0 n = omega arith in
    one_word _ pc w _ _ is_w (is ∙ ap Some (no_registers d a n (slice 7 4 n * 16 + slice 3 0 n) (eqb-true d 0 none.0) (eqb-true a 0 none.1) sum))
    (sets_statement (slice 7 4 n) (slice 3 0 n) (not_zero (slice 7 4 n) before.1) (omega arith) (not_zero (slice 3 0 n) after.1) (omega arith)) (λ labels. refl)

pub fence_reads : (pc w : ℕ) → pc < 2 ^ 32 → w < 2 ^ 32 → ins w ≡ Some (row.Fence (rd w) (rs1 w) (order w)) → ReadsBack (unwrap_or (option_map (λ o. codes "fence" ++ written o) (fence_operands (rd w) (rs1 w) (order w))) (data_text w)) pc w
fence_reads pc w is_pc is_w is =
    elim (cases_Bool (is_fence (rd w) (rs1 w) (order w))) [
      | inl bare ↦ rw bare (bare_reads pc w (rd w) (rs1 w) (order w) is_w is bare)
      | inr other ↦ elim (cases_Bool (has_sets (rd w) (rs1 w) (order w))) [
        | inl has ↦ rw (other, has) (sets_reads pc w (rd w) (rs1 w) (order w) is_w is (omega arith) has)
        | inr none ↦ rw (other, none) (data_reads pc w is_w)
      ]
    ]
