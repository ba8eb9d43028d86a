-- How an attempt with an access comes out.
use Rattle.rt_effects.proofs.Common.{◌≡◌, ℕ, ℤ, ◌*◌, ◌/◌, ◌-◌, ◌%◌, ◌^◌, ◌==◌, Bool, true, false, cond, not, nat_lt, List, get_or, Option, Some, None, Result, Ok, Err, refl, signed, Ins, Lui, Auipc, Jal, Jalr, Beq, Bne, Blt, Bge, Bltu, Bgeu, Lb, Lh, Lw, Lbu, Lhu, Sb, Sh, Sw, Addi, Slti, Sltiu, Xori, Ori, Andi, Slli, Srli, Srai, Add, Sub, Sll, Slt, Sltu, Xor, Srl, Sra, Or, And, Fence, Ecall, Ebreak, AccessFault, Call, JumpMisaligned, State, register, with_register, accessed}
use Rattle.rt_words.specs.Modular.{sum32}
use Rattle.rt_exec.specs.Arithmetic.{extended, is_less_signed}
use Rattle.rt_words.specs.Base.{base}
use Rattle.rt_exec.specs.declared.mem.access_fault.AccessFault.TheVariants as access
use Rattle.rt_exec.specs.mem.Access.{is_allowed, is_inside, number, put, load, store}
use Rattle.rt_exec.specs.declared.outcome.Fault.TheVariants.{UnknownCall, Break, LoadMisaligned, LoadAccess, StoreMisaligned, StoreAccess}
use Rattle.rt_exec.specs.declared.outcome.Outcome.{Outcome}
use Rattle.rt_exec.specs.declared.outcome.Outcome.TheVariants as outcomes
use Rattle.rt_exec.specs.Effect.{Step, Goes, Calls, Faults, outcome_of, fault_of, jumps_to, branches, loads, stores, call_of, calls, address, as_is, effect}
use Rattle.rt_effects.specs.laws.Exact.{access_outcome, IsOf}
use Rattle.rt_effects.proofs.laws.Registers.{reads}

-- it is no fault of an access
abbrev NoAccess : Outcome → Type 0
NoAccess outcome = (fault : AccessFault) → outcome ≡ outcomes.Fault (fault_of fault) → ⊥

jump-none : NoAccess (outcomes.Fault JumpMisaligned)
jump-none access.LoadMisaligned is = cc
jump-none access.LoadAccess is = cc
jump-none access.StoreMisaligned is = cc
jump-none access.StoreAccess is = cc

unknown-none : NoAccess (outcomes.Fault UnknownCall)
unknown-none access.LoadMisaligned is = cc
unknown-none access.LoadAccess is = cc
unknown-none access.StoreMisaligned is = cc
unknown-none access.StoreAccess is = cc

break-none : NoAccess (outcomes.Fault Break)
break-none access.LoadMisaligned is = cc
break-none access.LoadAccess is = cc
break-none access.StoreMisaligned is = cc
break-none access.StoreAccess is = cc

next-none : NoAccess outcomes.Next
next-none fault is = cc

jumps-none : (to : ℕ) (x : List ℕ) (s : State) → NoAccess (outcome_of (jumps_to to x s))
jumps-none to x s = either (to % 4 == 0)
  where
    either : (b : Bool) → NoAccess (outcome_of (cond b (Goes (record s { pc = to; x = x })) (Faults JumpMisaligned)))
    either true = next-none
    either false = jump-none

branches-none : (taken : Bool) (offset : ℤ) (s : State) → NoAccess (outcome_of (branches taken offset s))
branches-none true offset s = jumps-none (sum32 s.pc (extended offset)) s.x s
branches-none false offset s = next-none

calls-none : (call : Option Call) (s : State) → NoAccess (outcome_of (calls call s))
calls-none (Some call) s = λ fault is. cc
calls-none None s = unknown-none

loads-of : (split : Bool) (count at rd : ℕ) (read : ℕ → ℕ) (s : State)
    → outcome_of (loads rd read (load split count s.ram at) s) ≡ access_outcome split s.ram (record { is_store = false; address = at; bytes = count })
unfolding load
loads-of split count at rd read s = cases (is_allowed split count at) (is_inside count s.ram at) (number count s.ram (at - base))
  where
    cases : (b c : Bool) (value : ℕ) → outcome_of (loads rd read (cond b (cond c (Ok value) (Err access.LoadAccess)) (Err access.LoadMisaligned)) s)
        ≡ cond b (cond c outcomes.Next (outcomes.Fault LoadAccess)) (outcomes.Fault LoadMisaligned)
    cases true true value = refl
    cases true false value = refl
    cases false c value = refl

stores-of : (split : Bool) (count at value : ℕ) (s : State)
    → outcome_of (stores (store split count s.ram at value) s) ≡ access_outcome split s.ram (record { is_store = true; address = at; bytes = count })
unfolding store
stores-of split count at value s = cases (is_allowed split count at) (is_inside count s.ram at) (put count s.ram (at - base) value)
  where
    cases : (b c : Bool) (ram : List ℕ) → outcome_of (stores (cond b (cond c (Ok ram) (Err access.StoreAccess)) (Err access.StoreMisaligned)) s)
        ≡ cond b (cond c outcomes.Next (outcomes.Fault StoreAccess)) (outcomes.Fault StoreMisaligned)
    cases true true ram = refl
    cases true false ram = refl
    cases false c ram = refl

pub accesses-decide : (split : Bool) (i : Ins) (s : State) → get_or s.x 0 0 ≡ 0 → IsOf split s.ram (accessed s.x i) (outcome_of (effect split i s))
unfolding effect
accesses-decide split (Lui rd upper) s zeroth = next-none
accesses-decide split (Auipc rd upper) s zeroth = next-none
accesses-decide split (Jal rd offset) s zeroth = jumps-none (sum32 s.pc (extended offset)) (with_register s.x rd (sum32 s.pc 4)) s
accesses-decide split (Jalr rd rs1 offset) s zeroth = jumps-none (address s rs1 offset / 2 * 2) (with_register s.x rd (sum32 s.pc 4)) s
accesses-decide split (Beq rs1 rs2 offset) s zeroth = branches-none (register s.x rs1 == register s.x rs2) offset s
accesses-decide split (Bne rs1 rs2 offset) s zeroth = branches-none (not (register s.x rs1 == register s.x rs2)) offset s
accesses-decide split (Blt rs1 rs2 offset) s zeroth = branches-none (is_less_signed (register s.x rs1) (register s.x rs2)) offset s
accesses-decide split (Bge rs1 rs2 offset) s zeroth = branches-none (not (is_less_signed (register s.x rs1) (register s.x rs2))) offset s
accesses-decide split (Bltu rs1 rs2 offset) s zeroth = branches-none (nat_lt (register s.x rs1) (register s.x rs2)) offset s
accesses-decide split (Bgeu rs1 rs2 offset) s zeroth = branches-none (not (nat_lt (register s.x rs1) (register s.x rs2))) offset s
accesses-decide split (Lb rd rs1 offset) s zeroth = rw (reads s.x rs1 zeroth) (loads-of split 1 (sum32 (get_or s.x rs1 0) (extended offset)) rd (λ byte. extended (signed 8 byte)) s)
accesses-decide split (Lh rd rs1 offset) s zeroth = rw (reads s.x rs1 zeroth) (loads-of split 2 (sum32 (get_or s.x rs1 0) (extended offset)) rd (λ half. extended (signed 16 half)) s)
accesses-decide split (Lw rd rs1 offset) s zeroth = rw (reads s.x rs1 zeroth) (loads-of split 4 (sum32 (get_or s.x rs1 0) (extended offset)) rd as_is s)
accesses-decide split (Lbu rd rs1 offset) s zeroth = rw (reads s.x rs1 zeroth) (loads-of split 1 (sum32 (get_or s.x rs1 0) (extended offset)) rd as_is s)
accesses-decide split (Lhu rd rs1 offset) s zeroth = rw (reads s.x rs1 zeroth) (loads-of split 2 (sum32 (get_or s.x rs1 0) (extended offset)) rd as_is s)
accesses-decide split (Sb rs1 rs2 offset) s zeroth = rw (reads s.x rs1 zeroth) (stores-of split 1 (sum32 (get_or s.x rs1 0) (extended offset)) (register s.x rs2 % 2 ^ 8) s)
accesses-decide split (Sh rs1 rs2 offset) s zeroth = rw (reads s.x rs1 zeroth) (stores-of split 2 (sum32 (get_or s.x rs1 0) (extended offset)) (register s.x rs2 % 2 ^ 16) s)
accesses-decide split (Sw rs1 rs2 offset) s zeroth = rw (reads s.x rs1 zeroth) (stores-of split 4 (sum32 (get_or s.x rs1 0) (extended offset)) (register s.x rs2) s)
accesses-decide split (Addi rd rs1 immediate) s zeroth = next-none
accesses-decide split (Slti rd rs1 immediate) s zeroth = next-none
accesses-decide split (Sltiu rd rs1 immediate) s zeroth = next-none
accesses-decide split (Xori rd rs1 immediate) s zeroth = next-none
accesses-decide split (Ori rd rs1 immediate) s zeroth = next-none
accesses-decide split (Andi rd rs1 immediate) s zeroth = next-none
accesses-decide split (Slli rd rs1 amount) s zeroth = next-none
accesses-decide split (Srli rd rs1 amount) s zeroth = next-none
accesses-decide split (Srai rd rs1 amount) s zeroth = next-none
accesses-decide split (Add rd rs1 rs2) s zeroth = next-none
accesses-decide split (Sub rd rs1 rs2) s zeroth = next-none
accesses-decide split (Sll rd rs1 rs2) s zeroth = next-none
accesses-decide split (Slt rd rs1 rs2) s zeroth = next-none
accesses-decide split (Sltu rd rs1 rs2) s zeroth = next-none
accesses-decide split (Xor rd rs1 rs2) s zeroth = next-none
accesses-decide split (Srl rd rs1 rs2) s zeroth = next-none
accesses-decide split (Sra rd rs1 rs2) s zeroth = next-none
accesses-decide split (Or rd rs1 rs2) s zeroth = next-none
accesses-decide split (And rd rs1 rs2) s zeroth = next-none
accesses-decide split (Fence rd rs1 order) s zeroth = next-none
accesses-decide split Ecall s zeroth = calls-none (call_of (register s.x 17)) s
accesses-decide split Ebreak s zeroth = break-none
