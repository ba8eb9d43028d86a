-- No attempt changes the size of RAM.
use Rattle.rt_profile.proofs.Common.{◌≡◌, ℕ, ◌+◌, ◌-◌, ◌*◌, ◌%◌, ◌≤◌, ◌==◌, Bool, true, false, cond, List, [], ◌∷◌, length, length-append, replicate, Option, Some, None, refl, ap, ◌∙◌, arith, length-replicate, SetTask, AttemptOutcome, word_count}
use Rattle.std.proofs.Common.{Result, Ok, Err}
use Rattle.std.specs.Prelude.{ℤ}
use Rattle.rt_isa.specs.declared.instruction.Ins.{Ins}
use Rattle.rt_isa.specs.declared.instruction.Ins.TheVariants.{Lui, Auipc, Jal, Jalr, Beq, Bne, Blt, Bge, Bltu, Bgeu, Lb, Lh, Lw, Lbu, Lhu, Sb, Sh, Sw, Addi, Slti, Sltiu, Xori, Ori, Andi, Slli, Srli, Srai, Add, Sub, Sll, Slt, Sltu, Xor, Srl, Sra, Or, And, Fence, Ecall, Ebreak}
use Rattle.rt_exec.specs.declared.mem.access_fault.AccessFault.{AccessFault}
use Rattle.rt_exec.specs.mem.Access.{store}
use Rattle.rt_exec.specs.declared.outcome.Fault.TheVariants.{JumpMisaligned}
use Rattle.rt_exec.specs.declared.outcome.Call.{Call}
use Rattle.rt_exec.specs.declared.outcome.Call.TheVariants as kinds
use Rattle.rt_exec.specs.declared.outcome.Outcome.{Outcome}
use Rattle.rt_exec.specs.declared.outcome.Outcome.TheVariants as outcomes
use Rattle.rt_exec.specs.declared.fetcher.Fetched.{Fetched}
use Rattle.rt_exec.specs.declared.fetcher.Fetched.TheVariants.{Row, NoRow, Outside}
use Rattle.rt_exec.specs.State.{State, register}
use Rattle.rt_exec.specs.Effect.{Step, Goes, Faults, state_after, jumps_to, branches, loads, stores, calls, call_of, effect}
use Rattle.rt_exec.specs.Attempt.{fetched, attempt_of, attempt}
use Rattle.rt_exec.proofs.Changes.{store_changes}
use Rattle.rt_history.specs.Program.{Program, first_program}
use Rattle.rt_history.specs.Calls.{written, writes, reserves, a0, told_at, attempt_at}
use Rattle.rt_history.specs.OwnPart.{granted_by, program_after}

abbrev Keeps : Step → State → Type 0
Keeps step s = length (state_after step s).ram ≡ length s.ram

jumped : (target : ℕ) (x : List ℕ) (s : State) → Keeps (jumps_to target x s) s
jumped target x s = elim (target % 4 == 0) as (λ b. Keeps (cond b (Goes (record s { pc = target; x = x })) (Faults JumpMisaligned)) s) [ true ↦ refl | false ↦ refl ]

branched : (taken : Bool) (offset : ℤ) (s : State) → Keeps (branches taken offset s) s
branched true offset s = jumped _ s.x s
branched false offset s = refl

loaded : (rd : ℕ) (read : ℕ → ℕ) (r : Result ℕ AccessFault) (s : State) → Keeps (loads rd read r s) s
loaded rd read (Ok value) s = refl
loaded rd read (Err fault) s = refl

stored : (split : Bool) (count address value : ℕ) (s : State) → Keeps (stores (store split count s.ram address value) s) s
stored split count address value s = by_result (store split count s.ram address value) refl
  where
    by_result : (r : Result (List ℕ) AccessFault) → store split count s.ram address value ≡ r → Keeps (stores r s) s
    by_result (Ok ram) is = (store_changes split count s.ram address value ram is).same_length
    by_result (Err fault) is = refl

called : (r : Option Call) (s : State) → Keeps (calls r s) s
called (Some call) s = refl
called None s = refl

effect_keeps : (split : Bool) (i : Ins) (s : State) → Keeps (effect split i s) s
unfolding effect
effect_keeps split (Lui rd upper) s = refl
effect_keeps split (Auipc rd upper) s = refl
effect_keeps split (Jal rd offset) s = jumped _ _ s
effect_keeps split (Jalr rd rs1 offset) s = jumped _ _ s
effect_keeps split (Beq rs1 rs2 offset) s = branched _ offset s
effect_keeps split (Bne rs1 rs2 offset) s = branched _ offset s
effect_keeps split (Blt rs1 rs2 offset) s = branched _ offset s
effect_keeps split (Bge rs1 rs2 offset) s = branched _ offset s
effect_keeps split (Bltu rs1 rs2 offset) s = branched _ offset s
effect_keeps split (Bgeu rs1 rs2 offset) s = branched _ offset s
effect_keeps split (Lb rd rs1 offset) s = loaded rd _ _ s
effect_keeps split (Lh rd rs1 offset) s = loaded rd _ _ s
effect_keeps split (Lw rd rs1 offset) s = loaded rd _ _ s
effect_keeps split (Lbu rd rs1 offset) s = loaded rd _ _ s
effect_keeps split (Lhu rd rs1 offset) s = loaded rd _ _ s
effect_keeps split (Sb rs1 rs2 offset) s = stored split 1 _ _ s
effect_keeps split (Sh rs1 rs2 offset) s = stored split 2 _ _ s
effect_keeps split (Sw rs1 rs2 offset) s = stored split 4 _ _ s
effect_keeps split (Addi rd rs1 immediate) s = refl
effect_keeps split (Slti rd rs1 immediate) s = refl
effect_keeps split (Sltiu rd rs1 immediate) s = refl
effect_keeps split (Xori rd rs1 immediate) s = refl
effect_keeps split (Ori rd rs1 immediate) s = refl
effect_keeps split (Andi rd rs1 immediate) s = refl
effect_keeps split (Slli rd rs1 amount) s = refl
effect_keeps split (Srli rd rs1 amount) s = refl
effect_keeps split (Srai rd rs1 amount) s = refl
effect_keeps split (Add rd rs1 rs2) s = refl
effect_keeps split (Sub rd rs1 rs2) s = refl
effect_keeps split (Sll rd rs1 rs2) s = refl
effect_keeps split (Slt rd rs1 rs2) s = refl
effect_keeps split (Sltu rd rs1 rs2) s = refl
effect_keeps split (Xor rd rs1 rs2) s = refl
effect_keeps split (Srl rd rs1 rs2) s = refl
effect_keeps split (Sra rd rs1 rs2) s = refl
effect_keeps split (Or rd rs1 rs2) s = refl
effect_keeps split (And rd rs1 rs2) s = refl
effect_keeps split (Fence rd rs1 order) s = refl
effect_keeps split Ecall s = called (call_of (register s.x 17)) s
effect_keeps split Ebreak s = refl

attempt_keeps : (split : Bool) (s : State) → length (attempt split s).state.ram ≡ length s.ram
unfolding attempt
attempt_keeps split s = by_fetch (fetched s.ram s.pc)
  where
    by_fetch : (f : Fetched) → length (attempt_of split f s).state.ram ≡ length s.ram
    by_fetch (Row word i) = effect_keeps split i s
    by_fetch (NoRow word) = refl
    by_fetch Outside = refl

-- ---- programs

wrote : (r : Option (List ℕ)) (p : Program) → length (writes r p).program.state.ram ≡ length p.state.ram
wrote (Some bytes) p = refl
wrote None p = refl

reserved : (b : Bool) (p : Program) → length (reserves b p).program.state.ram ≡ length p.state.ram
reserved true p = refl
reserved false p = refl

told_keeps : (u : ℕ) (granted : ℕ → Bool) (o : Outcome) (p : Program) → length (told_at u granted o p).program.state.ram ≡ length p.state.ram
told_keeps u granted outcomes.Next p = refl
told_keeps u granted (outcomes.Call kinds.End) p = refl
told_keeps u granted (outcomes.Call kinds.Write) p = wrote (written p) p
told_keeps u granted (outcomes.Call kinds.SleepUntil) p = refl
told_keeps u granted (outcomes.Call kinds.Yield) p = refl
told_keeps u granted (outcomes.Call kinds.Now) p = refl
told_keeps u granted (outcomes.Call kinds.Reserve) p = reserved (granted (a0 p)) p
told_keeps u granted (outcomes.Fault fault) p = refl

program_keeps : (u : ℕ) (granted : ℕ → Bool) (p : Program) → length (attempt_at u granted p).program.state.ram ≡ length p.state.ram
unfolding attempt_at
program_keeps u granted p = told_keeps u granted (attempt p.split p.state).outcome (record p { state = (attempt p.split p.state).state }) ∙ attempt_keeps p.split p.state

after_keeps : (p : Program) (es : List (ℕ × AttemptOutcome)) → length (program_after p es).state.ram ≡ length p.state.ram
after_keeps p [] = refl
after_keeps p (e ∷ es) = after_keeps (attempt_at e.0 (granted_by e.1) p).program es ∙ program_keeps e.0 (granted_by e.1) p

-- the words that are counted hold all of RAM
pub ram-within : (s : SetTask) (es : List (ℕ × AttemptOutcome)) → length (program_after (first_program s) es).state.ram ≤ 4 * word_count s
ram-within s es =
    let first : length (first_program s).state.ram ≡ length s.object.bytes + (s.ram - length s.object.bytes) =
    length-append s.object.bytes (replicate (s.ram - length s.object.bytes) 0) ∙ ap (λ (n : ℕ). length s.object.bytes + n) (length-replicate (s.ram - length s.object.bytes) 0) in
    omega (arith, after_keeps (first_program s) es, first)
