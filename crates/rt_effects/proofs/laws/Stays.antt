-- What each instruction leaves as it was.
use Rattle.rt_effects.proofs.Common.{◌≡◌, ℕ, ℤ, ◌*◌, ◌/◌, ◌%◌, ◌^◌, ◌==◌, inl, inr, Bool, true, false, cond, not, nat_lt, List, get_or, Option, Some, None, Result, Ok, Err, refl, sym, ◌∙◌, State, register, with_register, accessed, signed, Ins, Lui, Auipc, Jal, Jalr, Beq, Bne, Blt, Bge, Bltu, Bgeu, Lb, Lh, Lw, Lbu, Lhu, Sb, Sh, Sw, Addi, Slti, Sltiu, Xori, Ori, Andi, Slli, Srli, Srai, Add, Sub, Sll, Slt, Sltu, Xor, Srl, Sra, Or, And, Fence, Ecall, Ebreak, AccessFault, Call, JumpMisaligned}
use Rattle.std.proofs.Common.{◌⊎◌}
use Rattle.std.specs.Prelude.{bit_and, bit_or, bit_xor}
use Rattle.std.proofs.lemmas.Bool.{cases_eq, eq-eqb, ne_eqb, true≢false}
use Rattle.std.proofs.lemmas.List.{length-set, get_or-set_other}
use Rattle.rt_exec.specs.mem.Access.{load, store}
use Rattle.rt_exec.specs.Change.{ChangedWithin}
use Rattle.rt_exec.specs.Effect.{Step, Goes, Calls, Faults, state_after, jumps_to, branches, loads, stores, call_of, calls, address, as_is, effect}
use Rattle.rt_exec.proofs.Changes.{store_changes}
use Rattle.rt_effects.specs.Did.{target}
use Rattle.rt_effects.specs.laws.Kept.{AreSameBut, ChangedBy, Leaves}
use Rattle.rt_effects.proofs.laws.Registers.{reads}
use Rattle.rt_words.specs.Modular.{sum32, difference32}
use Rattle.rt_exec.specs.Arithmetic.{extended, is_less_signed, one_if, shifted_left, shifted_right, shifted_right_signed}

set-same : (r : ℕ) (x : List ℕ) (value : ℕ) → AreSameBut (Some r) x (with_register x r value)
set-same r x value =
    elim (cases_eq r 0) [
      | inl is_zero ↦ rw (eq-eqb r 0 is_zero) (refl, λ k other. refl)
      | inr not_zero ↦ rw (ne_eqb r 0 not_zero) (
        length-set x r value,
        λ k other. get_or-set_other x r k value 0 (elim other [ inl differs ↦ differs | inr zeroth ↦ λ same. not_zero (sym same ∙ zeroth) ]),
      )
    ]

jumps-x : (to : ℕ) (r value : ℕ) (s : State) → AreSameBut (Some r) s.x (state_after (jumps_to to (with_register s.x r value) s) s).x
jumps-x to r value s = either (to % 4 == 0)
  where
    either : (b : Bool) → AreSameBut (Some r) s.x (state_after (cond b (Goes (record s { pc = to; x = with_register s.x r value })) (Faults JumpMisaligned)) s).x
    either true = set-same r s.x value
    either false = (refl, λ k other. refl)

jumps-ram : (to : ℕ) (x : List ℕ) (s : State) → (state_after (jumps_to to x s) s).ram ≡ s.ram
jumps-ram to x s = either (to % 4 == 0)
  where
    either : (b : Bool) → (state_after (cond b (Goes (record s { pc = to; x = x })) (Faults JumpMisaligned)) s).ram ≡ s.ram
    either true = refl
    either false = refl

jumps-same : (to : ℕ) (s : State) → (state_after (jumps_to to s.x s) s).x ≡ s.x
jumps-same to s = either (to % 4 == 0)
  where
    either : (b : Bool) → (state_after (cond b (Goes (record s { pc = to; x = s.x })) (Faults JumpMisaligned)) s).x ≡ s.x
    either true = refl
    either false = refl

branches-x : (taken : Bool) (offset : ℤ) (s : State) → (state_after (branches taken offset s) s).x ≡ s.x
branches-x true offset s = jumps-same (sum32 s.pc (extended offset)) s
branches-x false offset s = refl

branches-ram : (taken : Bool) (offset : ℤ) (s : State) → (state_after (branches taken offset s) s).ram ≡ s.ram
branches-ram true offset s = jumps-ram (sum32 s.pc (extended offset)) s.x s
branches-ram false offset s = refl

loads-x : (rd : ℕ) (read : ℕ → ℕ) (loaded : Result ℕ AccessFault) (s : State) → AreSameBut (Some rd) s.x (state_after (loads rd read loaded s) s).x
loads-x rd read (Ok value) s = set-same rd s.x (read value)
loads-x rd read (Err fault) s = (refl, λ k other. refl)

unchanged : (address count : ℕ) (ram : List ℕ) → ChangedWithin address count ram ram
unchanged address count ram = record { same_length = refl; others = λ i outside. refl }

loads-ram : (at count rd : ℕ) (read : ℕ → ℕ) (loaded : Result ℕ AccessFault) (s : State)
    → ChangedWithin at count s.ram (state_after (loads rd read loaded s) s).ram × (false ≡ false → (state_after (loads rd read loaded s) s).ram ≡ s.ram)
loads-ram at count rd read (Ok value) s = (unchanged at count s.ram, λ is. refl)
loads-ram at count rd read (Err fault) s = (unchanged at count s.ram, λ is. refl)

stores-x : (stored : Result (List ℕ) AccessFault) (s : State) → (state_after (stores stored s) s).x ≡ s.x
stores-x (Ok ram) s = refl
stores-x (Err fault) s = refl

stored-ram : (split : Bool) (count at value : ℕ) (s : State) (stored : Result (List ℕ) AccessFault) → store split count s.ram at value ≡ stored
    → ChangedWithin at count s.ram (state_after (stores stored s) s).ram
stored-ram split count at value s (Ok ram) is = store_changes split count s.ram at value ram is
stored-ram split count at value s (Err fault) is = unchanged at count s.ram

stores-ram : (split : Bool) (count at value : ℕ) (s : State)
    → ChangedWithin at count s.ram (state_after (stores (store split count s.ram at value) s) s).ram × (true ≡ false → (state_after (stores (store split count s.ram at value) s) s).ram ≡ s.ram)
stores-ram split count at value s = (stored-ram split count at value s (store split count s.ram at value) refl, λ is. absurd (true≢false is))

calls-x : (call : Option Call) (s : State) → (state_after (calls call s) s).x ≡ s.x
calls-x (Some call) s = refl
calls-x None s = refl

calls-ram : (call : Option Call) (s : State) → (state_after (calls call s) s).ram ≡ s.ram
calls-ram (Some call) s = refl
calls-ram None s = refl

registers-stay : (split : Bool) (i : Ins) (s : State) → AreSameBut (target i) s.x (state_after (effect split i s) s).x
unfolding effect
registers-stay split (Lui rd upper) s = set-same rd s.x (upper * 4096)
registers-stay split (Auipc rd upper) s = set-same rd s.x (sum32 s.pc (upper * 4096))
registers-stay split (Jal rd offset) s = jumps-x (sum32 s.pc (extended offset)) rd (sum32 s.pc 4) s
registers-stay split (Jalr rd rs1 offset) s = jumps-x (address s rs1 offset / 2 * 2) rd (sum32 s.pc 4) s
registers-stay split (Beq rs1 rs2 offset) s = branches-x (register s.x rs1 == register s.x rs2) offset s
registers-stay split (Bne rs1 rs2 offset) s = branches-x (not (register s.x rs1 == register s.x rs2)) offset s
registers-stay split (Blt rs1 rs2 offset) s = branches-x (is_less_signed (register s.x rs1) (register s.x rs2)) offset s
registers-stay split (Bge rs1 rs2 offset) s = branches-x (not (is_less_signed (register s.x rs1) (register s.x rs2))) offset s
registers-stay split (Bltu rs1 rs2 offset) s = branches-x (nat_lt (register s.x rs1) (register s.x rs2)) offset s
registers-stay split (Bgeu rs1 rs2 offset) s = branches-x (not (nat_lt (register s.x rs1) (register s.x rs2))) offset s
registers-stay split (Lb rd rs1 offset) s = loads-x rd (λ byte. extended (signed 8 byte)) (load split 1 s.ram (address s rs1 offset)) s
registers-stay split (Lh rd rs1 offset) s = loads-x rd (λ half. extended (signed 16 half)) (load split 2 s.ram (address s rs1 offset)) s
registers-stay split (Lw rd rs1 offset) s = loads-x rd as_is (load split 4 s.ram (address s rs1 offset)) s
registers-stay split (Lbu rd rs1 offset) s = loads-x rd as_is (load split 1 s.ram (address s rs1 offset)) s
registers-stay split (Lhu rd rs1 offset) s = loads-x rd as_is (load split 2 s.ram (address s rs1 offset)) s
registers-stay split (Sb rs1 rs2 offset) s = stores-x (store split 1 s.ram (address s rs1 offset) (register s.x rs2 % 2 ^ 8)) s
registers-stay split (Sh rs1 rs2 offset) s = stores-x (store split 2 s.ram (address s rs1 offset) (register s.x rs2 % 2 ^ 16)) s
registers-stay split (Sw rs1 rs2 offset) s = stores-x (store split 4 s.ram (address s rs1 offset) (register s.x rs2)) s
registers-stay split (Addi rd rs1 immediate) s = set-same rd s.x (sum32 (register s.x rs1) (extended immediate))
registers-stay split (Slti rd rs1 immediate) s = set-same rd s.x (one_if (is_less_signed (register s.x rs1) (extended immediate)))
registers-stay split (Sltiu rd rs1 immediate) s = set-same rd s.x (one_if (nat_lt (register s.x rs1) (extended immediate)))
registers-stay split (Xori rd rs1 immediate) s = set-same rd s.x (bit_xor (register s.x rs1) (extended immediate))
registers-stay split (Ori rd rs1 immediate) s = set-same rd s.x (bit_or (register s.x rs1) (extended immediate))
registers-stay split (Andi rd rs1 immediate) s = set-same rd s.x (bit_and (register s.x rs1) (extended immediate))
registers-stay split (Slli rd rs1 amount) s = set-same rd s.x (shifted_left (register s.x rs1) amount)
registers-stay split (Srli rd rs1 amount) s = set-same rd s.x (shifted_right (register s.x rs1) amount)
registers-stay split (Srai rd rs1 amount) s = set-same rd s.x (shifted_right_signed (register s.x rs1) amount)
registers-stay split (Add rd rs1 rs2) s = set-same rd s.x (sum32 (register s.x rs1) (register s.x rs2))
registers-stay split (Sub rd rs1 rs2) s = set-same rd s.x (difference32 (register s.x rs1) (register s.x rs2))
registers-stay split (Sll rd rs1 rs2) s = set-same rd s.x (shifted_left (register s.x rs1) (register s.x rs2 % 32))
registers-stay split (Slt rd rs1 rs2) s = set-same rd s.x (one_if (is_less_signed (register s.x rs1) (register s.x rs2)))
registers-stay split (Sltu rd rs1 rs2) s = set-same rd s.x (one_if (nat_lt (register s.x rs1) (register s.x rs2)))
registers-stay split (Xor rd rs1 rs2) s = set-same rd s.x (bit_xor (register s.x rs1) (register s.x rs2))
registers-stay split (Srl rd rs1 rs2) s = set-same rd s.x (shifted_right (register s.x rs1) (register s.x rs2 % 32))
registers-stay split (Sra rd rs1 rs2) s = set-same rd s.x (shifted_right_signed (register s.x rs1) (register s.x rs2 % 32))
registers-stay split (Or rd rs1 rs2) s = set-same rd s.x (bit_or (register s.x rs1) (register s.x rs2))
registers-stay split (And rd rs1 rs2) s = set-same rd s.x (bit_and (register s.x rs1) (register s.x rs2))
registers-stay split (Fence rd rs1 order) s = refl
registers-stay split Ecall s = calls-x (call_of (register s.x 17)) s
registers-stay split Ebreak s = refl

ram-stays : (split : Bool) (i : Ins) (s : State) → get_or s.x 0 0 ≡ 0 → ChangedBy (accessed s.x i) s.ram (state_after (effect split i s) s).ram
unfolding effect
ram-stays split (Lui rd upper) s zeroth = refl
ram-stays split (Auipc rd upper) s zeroth = refl
ram-stays split (Jal rd offset) s zeroth = jumps-ram (sum32 s.pc (extended offset)) (with_register s.x rd (sum32 s.pc 4)) s
ram-stays split (Jalr rd rs1 offset) s zeroth = jumps-ram (address s rs1 offset / 2 * 2) (with_register s.x rd (sum32 s.pc 4)) s
ram-stays split (Beq rs1 rs2 offset) s zeroth = branches-ram (register s.x rs1 == register s.x rs2) offset s
ram-stays split (Bne rs1 rs2 offset) s zeroth = branches-ram (not (register s.x rs1 == register s.x rs2)) offset s
ram-stays split (Blt rs1 rs2 offset) s zeroth = branches-ram (is_less_signed (register s.x rs1) (register s.x rs2)) offset s
ram-stays split (Bge rs1 rs2 offset) s zeroth = branches-ram (not (is_less_signed (register s.x rs1) (register s.x rs2))) offset s
ram-stays split (Bltu rs1 rs2 offset) s zeroth = branches-ram (nat_lt (register s.x rs1) (register s.x rs2)) offset s
ram-stays split (Bgeu rs1 rs2 offset) s zeroth = branches-ram (not (nat_lt (register s.x rs1) (register s.x rs2))) offset s
ram-stays split (Lb rd rs1 offset) s zeroth = loads-ram (sum32 (get_or s.x rs1 0) (extended offset)) 1 rd (λ byte. extended (signed 8 byte)) (load split 1 s.ram (address s rs1 offset)) s
ram-stays split (Lh rd rs1 offset) s zeroth = loads-ram (sum32 (get_or s.x rs1 0) (extended offset)) 2 rd (λ half. extended (signed 16 half)) (load split 2 s.ram (address s rs1 offset)) s
ram-stays split (Lw rd rs1 offset) s zeroth = loads-ram (sum32 (get_or s.x rs1 0) (extended offset)) 4 rd as_is (load split 4 s.ram (address s rs1 offset)) s
ram-stays split (Lbu rd rs1 offset) s zeroth = loads-ram (sum32 (get_or s.x rs1 0) (extended offset)) 1 rd as_is (load split 1 s.ram (address s rs1 offset)) s
ram-stays split (Lhu rd rs1 offset) s zeroth = loads-ram (sum32 (get_or s.x rs1 0) (extended offset)) 2 rd as_is (load split 2 s.ram (address s rs1 offset)) s
ram-stays split (Sb rs1 rs2 offset) s zeroth = rw (reads s.x rs1 zeroth) (stores-ram split 1 (sum32 (get_or s.x rs1 0) (extended offset)) (register s.x rs2 % 2 ^ 8) s)
ram-stays split (Sh rs1 rs2 offset) s zeroth = rw (reads s.x rs1 zeroth) (stores-ram split 2 (sum32 (get_or s.x rs1 0) (extended offset)) (register s.x rs2 % 2 ^ 16) s)
ram-stays split (Sw rs1 rs2 offset) s zeroth = rw (reads s.x rs1 zeroth) (stores-ram split 4 (sum32 (get_or s.x rs1 0) (extended offset)) (register s.x rs2) s)
ram-stays split (Addi rd rs1 immediate) s zeroth = refl
ram-stays split (Slti rd rs1 immediate) s zeroth = refl
ram-stays split (Sltiu rd rs1 immediate) s zeroth = refl
ram-stays split (Xori rd rs1 immediate) s zeroth = refl
ram-stays split (Ori rd rs1 immediate) s zeroth = refl
ram-stays split (Andi rd rs1 immediate) s zeroth = refl
ram-stays split (Slli rd rs1 amount) s zeroth = refl
ram-stays split (Srli rd rs1 amount) s zeroth = refl
ram-stays split (Srai rd rs1 amount) s zeroth = refl
ram-stays split (Add rd rs1 rs2) s zeroth = refl
ram-stays split (Sub rd rs1 rs2) s zeroth = refl
ram-stays split (Sll rd rs1 rs2) s zeroth = refl
ram-stays split (Slt rd rs1 rs2) s zeroth = refl
ram-stays split (Sltu rd rs1 rs2) s zeroth = refl
ram-stays split (Xor rd rs1 rs2) s zeroth = refl
ram-stays split (Srl rd rs1 rs2) s zeroth = refl
ram-stays split (Sra rd rs1 rs2) s zeroth = refl
ram-stays split (Or rd rs1 rs2) s zeroth = refl
ram-stays split (And rd rs1 rs2) s zeroth = refl
ram-stays split (Fence rd rs1 order) s zeroth = refl
ram-stays split Ecall s zeroth = calls-ram (call_of (register s.x 17)) s
ram-stays split Ebreak s zeroth = refl

pub others-stay : (split : Bool) (i : Ins) (s : State) → get_or s.x 0 0 ≡ 0 → Leaves i s (state_after (effect split i s) s)
others-stay split i s zeroth = record { registers = registers-stay split i s; ram = ram-stays split i s zeroth }
