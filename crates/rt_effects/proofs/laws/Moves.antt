-- What loads and stores move.
use Rattle.rt_effects.proofs.Common.{◌≡◌, ℕ, ℤ, ◌-◌, ◌*◌, ◌/◌, ◌%◌, ◌^◌, ◌<◌, ◌==◌, Bool, true, false, cond, not, nat_lt, List, length, get_or, Option, Some, None, Result, Ok, Err, refl, sym, ap, subst, ◌∙◌, arith, State, register, with_register, accessed, source, signed, Ins, Lui, Auipc, Jal, Jalr, Beq, Bne, Blt, Bge, Bltu, Bgeu, Lb, Lh, Lw, Lbu, Lhu, Sb, Sh, Sw, Addi, Slti, Sltiu, Xori, Ori, Andi, Slli, Srli, Srai, Add, Sub, Sll, Slt, Sltu, Xor, Srl, Sra, Or, And, Fence, Ecall, Ebreak, AccessFault, Call, JumpMisaligned}
use Rattle.std.proofs.lemmas.Bool.{true≢false, false≢true}
use Rattle.rt_words.specs.Base.{base}
use Rattle.rt_exec.specs.mem.Access.{load, store, number}
use Rattle.rt_exec.proofs.mem.AccessLemmas.{load-store, load_parts, load-same}
use Rattle.rt_exec.specs.Effect.{Step, Goes, Calls, Faults, state_after, goes_on, jumps_to, branches, loads, stores, call_of, calls, address, as_is, effect}
use Rattle.rt_effects.specs.laws.Moved.{AreAlike, Holds}
use Rattle.rt_effects.proofs.laws.Registers.{reads}
use Rattle.rt_words.specs.Modular.{sum32, difference32}
use Rattle.rt_exec.specs.Arithmetic.{extended, is_less_signed, one_if, shifted_left, shifted_right, shifted_right_signed}

-- the same state with other bytes
abbrev over : State → List ℕ → State
over s ram = record s { ram = ram }

jumps-alike : (to : ℕ) (x : List ℕ) (s : State) (ram : List ℕ) → (state_after (jumps_to to x (over s ram)) (over s ram)).x ≡ (state_after (jumps_to to x s) s).x
jumps-alike to x s ram = either (to % 4 == 0)
  where
    either : (b : Bool)
        → (state_after (cond b (Goes (record (over s ram) { pc = to; x = x })) (Faults JumpMisaligned)) (over s ram)).x ≡ (state_after (cond b (Goes (record s { pc = to; x = x })) (Faults JumpMisaligned)) s).x
    either true = refl
    either false = refl

branches-alike : (taken : Bool) (offset : ℤ) (s : State) (ram : List ℕ) → (state_after (branches taken offset (over s ram)) (over s ram)).x ≡ (state_after (branches taken offset s) s).x
branches-alike true offset s ram = jumps-alike (sum32 s.pc (extended offset)) s.x s ram
branches-alike false offset s ram = refl

loaded-alike : (rd : ℕ) (read : ℕ → ℕ) (loaded : Result ℕ AccessFault) (s : State) (ram : List ℕ) → (state_after (loads rd read loaded (over s ram)) (over s ram)).x ≡ (state_after (loads rd read loaded s) s).x
loaded-alike rd read (Ok value) s ram = refl
loaded-alike rd read (Err fault) s ram = refl

loads-alike : (split : Bool) (count at rd : ℕ) (read : ℕ → ℕ) (s : State) (ram : List ℕ)
    → (length ram ≡ length s.ram) × (number count ram (at - base) ≡ number count s.ram (at - base))
    → (state_after (loads rd read (load split count ram at) (over s ram)) (over s ram)).x ≡ (state_after (loads rd read (load split count s.ram at) s) s).x
loads-alike split count at rd read s ram alike =
    ap (λ (loaded : Result ℕ AccessFault). (state_after (loads rd read loaded (over s ram)) (over s ram)).x) (load-same split count s.ram ram at alike.0 alike.1)
    ∙ loaded-alike rd read (load split count s.ram at) s ram

stores-x : (stored : Result (List ℕ) AccessFault) (s : State) → (state_after (stores stored s) s).x ≡ s.x
stores-x (Ok ram) s = refl
stores-x (Err fault) s = refl

calls-x : (call : Option Call) (s : State) → (state_after (calls call s) s).x ≡ s.x
calls-x (Some call) s = refl
calls-x None s = refl

pub reads-alike : (split : Bool) (i : Ins) (s : State) (ram : List ℕ) → get_or s.x 0 0 ≡ 0 → AreAlike (accessed s.x i) s.ram ram
    → (state_after (effect split i (over s ram)) (over s ram)).x ≡ (state_after (effect split i s) s).x
unfolding effect
reads-alike split (Lui rd upper) s ram zeroth alike = refl
reads-alike split (Auipc rd upper) s ram zeroth alike = refl
reads-alike split (Jal rd offset) s ram zeroth alike = jumps-alike (sum32 s.pc (extended offset)) (with_register s.x rd (sum32 s.pc 4)) s ram
reads-alike split (Jalr rd rs1 offset) s ram zeroth alike = jumps-alike (address s rs1 offset / 2 * 2) (with_register s.x rd (sum32 s.pc 4)) s ram
reads-alike split (Beq rs1 rs2 offset) s ram zeroth alike = branches-alike (register s.x rs1 == register s.x rs2) offset s ram
reads-alike split (Bne rs1 rs2 offset) s ram zeroth alike = branches-alike (not (register s.x rs1 == register s.x rs2)) offset s ram
reads-alike split (Blt rs1 rs2 offset) s ram zeroth alike = branches-alike (is_less_signed (register s.x rs1) (register s.x rs2)) offset s ram
reads-alike split (Bge rs1 rs2 offset) s ram zeroth alike = branches-alike (not (is_less_signed (register s.x rs1) (register s.x rs2))) offset s ram
reads-alike split (Bltu rs1 rs2 offset) s ram zeroth alike = branches-alike (nat_lt (register s.x rs1) (register s.x rs2)) offset s ram
reads-alike split (Bgeu rs1 rs2 offset) s ram zeroth alike = branches-alike (not (nat_lt (register s.x rs1) (register s.x rs2))) offset s ram
reads-alike split (Lb rd rs1 offset) s ram zeroth alike = rw (reads s.x rs1 zeroth) (loads-alike split 1 (sum32 (get_or s.x rs1 0) (extended offset)) rd (λ byte. extended (signed 8 byte)) s ram alike)
reads-alike split (Lh rd rs1 offset) s ram zeroth alike = rw (reads s.x rs1 zeroth) (loads-alike split 2 (sum32 (get_or s.x rs1 0) (extended offset)) rd (λ half. extended (signed 16 half)) s ram alike)
reads-alike split (Lw rd rs1 offset) s ram zeroth alike = rw (reads s.x rs1 zeroth) (loads-alike split 4 (sum32 (get_or s.x rs1 0) (extended offset)) rd as_is s ram alike)
reads-alike split (Lbu rd rs1 offset) s ram zeroth alike = rw (reads s.x rs1 zeroth) (loads-alike split 1 (sum32 (get_or s.x rs1 0) (extended offset)) rd as_is s ram alike)
reads-alike split (Lhu rd rs1 offset) s ram zeroth alike = rw (reads s.x rs1 zeroth) (loads-alike split 2 (sum32 (get_or s.x rs1 0) (extended offset)) rd as_is s ram alike)
reads-alike split (Sb rs1 rs2 offset) s ram zeroth alike = stores-x (store split 1 ram (address s rs1 offset) (register s.x rs2 % 2 ^ 8)) (over s ram) ∙ sym (stores-x (store split 1 s.ram (address s rs1 offset) (register s.x rs2 % 2 ^ 8)) s)
reads-alike split (Sh rs1 rs2 offset) s ram zeroth alike = stores-x (store split 2 ram (address s rs1 offset) (register s.x rs2 % 2 ^ 16)) (over s ram) ∙ sym (stores-x (store split 2 s.ram (address s rs1 offset) (register s.x rs2 % 2 ^ 16)) s)
reads-alike split (Sw rs1 rs2 offset) s ram zeroth alike = stores-x (store split 4 ram (address s rs1 offset) (register s.x rs2)) (over s ram) ∙ sym (stores-x (store split 4 s.ram (address s rs1 offset) (register s.x rs2)) s)
reads-alike split (Addi rd rs1 immediate) s ram zeroth alike = refl
reads-alike split (Slti rd rs1 immediate) s ram zeroth alike = refl
reads-alike split (Sltiu rd rs1 immediate) s ram zeroth alike = refl
reads-alike split (Xori rd rs1 immediate) s ram zeroth alike = refl
reads-alike split (Ori rd rs1 immediate) s ram zeroth alike = refl
reads-alike split (Andi rd rs1 immediate) s ram zeroth alike = refl
reads-alike split (Slli rd rs1 amount) s ram zeroth alike = refl
reads-alike split (Srli rd rs1 amount) s ram zeroth alike = refl
reads-alike split (Srai rd rs1 amount) s ram zeroth alike = refl
reads-alike split (Add rd rs1 rs2) s ram zeroth alike = refl
reads-alike split (Sub rd rs1 rs2) s ram zeroth alike = refl
reads-alike split (Sll rd rs1 rs2) s ram zeroth alike = refl
reads-alike split (Slt rd rs1 rs2) s ram zeroth alike = refl
reads-alike split (Sltu rd rs1 rs2) s ram zeroth alike = refl
reads-alike split (Xor rd rs1 rs2) s ram zeroth alike = refl
reads-alike split (Srl rd rs1 rs2) s ram zeroth alike = refl
reads-alike split (Sra rd rs1 rs2) s ram zeroth alike = refl
reads-alike split (Or rd rs1 rs2) s ram zeroth alike = refl
reads-alike split (And rd rs1 rs2) s ram zeroth alike = refl
reads-alike split (Fence rd rs1 order) s ram zeroth alike = refl
reads-alike split Ecall s ram zeroth alike = calls-x (call_of (register s.x 17)) (over s ram) ∙ sym (calls-x (call_of (register s.x 17)) s)
reads-alike split Ebreak s ram zeroth alike = refl

stored : (split : Bool) (count at value : ℕ) (s t : State) → value < 256 ^ count → stores (store split count s.ram at value) s ≡ Goes t → number count t.ram (at - base) ≡ value
stored split count at value s t fits goes = (load_parts split count t.ram at value (of (store split count s.ram at value) refl goes)).2
  where
    of : (r : Result (List ℕ) AccessFault) → store split count s.ram at value ≡ r → stores r s ≡ Goes t → load split count t.ram at ≡ Ok value
    of (Ok ram) is goes =
        let same : record (goes_on s) { ram = ram } ≡ t = cc in
        subst (λ (bytes : List ℕ). load split count bytes at ≡ Ok value) (ap (λ (u : State). u.ram) same) (load-store split count s.ram ram at value fits is)
    of (Err fault) is goes = absurd cc

pub stores-source : (split : Bool) (i : Ins) (s t : State) → get_or s.x 0 0 ≡ 0 → register s.x (source i) < 2 ^ 32 → effect split i s ≡ Goes t → Holds (accessed s.x i) t.ram (register s.x (source i))
unfolding effect
stores-source split (Lui rd upper) s t zeroth small goes = tt
stores-source split (Auipc rd upper) s t zeroth small goes = tt
stores-source split (Jal rd offset) s t zeroth small goes = tt
stores-source split (Jalr rd rs1 offset) s t zeroth small goes = tt
stores-source split (Beq rs1 rs2 offset) s t zeroth small goes = tt
stores-source split (Bne rs1 rs2 offset) s t zeroth small goes = tt
stores-source split (Blt rs1 rs2 offset) s t zeroth small goes = tt
stores-source split (Bge rs1 rs2 offset) s t zeroth small goes = tt
stores-source split (Bltu rs1 rs2 offset) s t zeroth small goes = tt
stores-source split (Bgeu rs1 rs2 offset) s t zeroth small goes = tt
stores-source split (Lb rd rs1 offset) s t zeroth small goes = λ is. absurd (false≢true is)
stores-source split (Lh rd rs1 offset) s t zeroth small goes = λ is. absurd (false≢true is)
stores-source split (Lw rd rs1 offset) s t zeroth small goes = λ is. absurd (false≢true is)
stores-source split (Lbu rd rs1 offset) s t zeroth small goes = λ is. absurd (false≢true is)
stores-source split (Lhu rd rs1 offset) s t zeroth small goes = λ is. absurd (false≢true is)
stores-source split (Sb rs1 rs2 offset) s t zeroth small goes = λ is. rw (← reads s.x rs1 zeroth) (stored split 1 (address s rs1 offset) (register s.x rs2 % 2 ^ 8) s t (omega arith) goes)
stores-source split (Sh rs1 rs2 offset) s t zeroth small goes = λ is. rw (← reads s.x rs1 zeroth) (stored split 2 (address s rs1 offset) (register s.x rs2 % 2 ^ 16) s t (omega arith) goes)
stores-source split (Sw rs1 rs2 offset) s t zeroth small goes = λ is. rw (← reads s.x rs1 zeroth) (let whole : number 4 t.ram (address s rs1 offset - base) ≡ register s.x rs2 = stored split 4 (address s rs1 offset) (register s.x rs2) s t (omega arith) goes in omega arith)
stores-source split (Addi rd rs1 immediate) s t zeroth small goes = tt
stores-source split (Slti rd rs1 immediate) s t zeroth small goes = tt
stores-source split (Sltiu rd rs1 immediate) s t zeroth small goes = tt
stores-source split (Xori rd rs1 immediate) s t zeroth small goes = tt
stores-source split (Ori rd rs1 immediate) s t zeroth small goes = tt
stores-source split (Andi rd rs1 immediate) s t zeroth small goes = tt
stores-source split (Slli rd rs1 amount) s t zeroth small goes = tt
stores-source split (Srli rd rs1 amount) s t zeroth small goes = tt
stores-source split (Srai rd rs1 amount) s t zeroth small goes = tt
stores-source split (Add rd rs1 rs2) s t zeroth small goes = tt
stores-source split (Sub rd rs1 rs2) s t zeroth small goes = tt
stores-source split (Sll rd rs1 rs2) s t zeroth small goes = tt
stores-source split (Slt rd rs1 rs2) s t zeroth small goes = tt
stores-source split (Sltu rd rs1 rs2) s t zeroth small goes = tt
stores-source split (Xor rd rs1 rs2) s t zeroth small goes = tt
stores-source split (Srl rd rs1 rs2) s t zeroth small goes = tt
stores-source split (Sra rd rs1 rs2) s t zeroth small goes = tt
stores-source split (Or rd rs1 rs2) s t zeroth small goes = tt
stores-source split (And rd rs1 rs2) s t zeroth small goes = tt
stores-source split (Fence rd rs1 order) s t zeroth small goes = tt
stores-source split Ecall s t zeroth small goes = tt
stores-source split Ebreak s t zeroth small goes = tt
