-- What a record did, in pieces of text: what was written, loaded, stored, where control went, and how a call or a fault came out.
use Rattle.std.specs.Prelude.{ℕ, ◌*◌, ◌==◌, if◌then◌else◌, List, [], ◌∷◌, ◌++◌, slice_index, Option, Some, None, option_and_then, codes, decimal}
use Rattle.std.specs.List.{filter_map}
use Rattle.std.specs.Option.{option_map, option_map_or}
use Rattle.rt_words.specs.Hex.{hex}
use Rattle.rt_words.specs.Modular.{sum32}
use Rattle.rt_isa.specs.Table.{ins}
use Rattle.rt_isa.specs.declared.instruction.Ins.{Ins}
use Rattle.rt_isa.specs.declared.instruction.Ins.TheVariants.{Lui, Auipc, Jal, Jalr, Beq, Bne, Blt, Bge, Bltu, Bgeu, Lb, Lh, Lw, Lbu, Lhu, Sb, Sh, Sw, Addi, Slti, Sltiu, Xori, Ori, Andi, Slli, Srli, Srai, Add, Sub, Sll, Slt, Sltu, Xor, Srl, Sra, Or, And, Fence, Ecall, Ebreak}
use Rattle.rt_exec.specs.State.{Registers}
use Rattle.rt_history.specs.declared.record.Attempt.{Attempt}
use Rattle.rt_history.specs.declared.record.AttemptOutcome.{AttemptOutcome}
use Rattle.rt_history.specs.declared.record.AttemptOutcome.TheVariants.{Next, End, Write, WriteRefused, Sleep, Yield, Now, Reserve, ReserveRefused, Fault}
use Rattle.rt_points.specs.declared.access.Access.{Access}
use Rattle.rt_points.specs.Access.{accessed, access_of}
use Rattle.rt_trace.specs.HistoryText.{outcome_text}

-- the register that an instruction writes, by the effect of its row
abbrev pub target : Ins → Option ℕ
target (Lui rd upper) = Some rd
target (Auipc rd upper) = Some rd
target (Jal rd offset) = Some rd
target (Jalr rd rs1 offset) = Some rd
target (Beq rs1 rs2 offset) = None
target (Bne rs1 rs2 offset) = None
target (Blt rs1 rs2 offset) = None
target (Bge rs1 rs2 offset) = None
target (Bltu rs1 rs2 offset) = None
target (Bgeu rs1 rs2 offset) = None
target (Lb rd rs1 offset) = Some rd
target (Lh rd rs1 offset) = Some rd
target (Lw rd rs1 offset) = Some rd
target (Lbu rd rs1 offset) = Some rd
target (Lhu rd rs1 offset) = Some rd
target (Sb rs1 rs2 offset) = None
target (Sh rs1 rs2 offset) = None
target (Sw rs1 rs2 offset) = None
target (Addi rd rs1 immediate) = Some rd
target (Slti rd rs1 immediate) = Some rd
target (Sltiu rd rs1 immediate) = Some rd
target (Xori rd rs1 immediate) = Some rd
target (Ori rd rs1 immediate) = Some rd
target (Andi rd rs1 immediate) = Some rd
target (Slli rd rs1 amount) = Some rd
target (Srli rd rs1 amount) = Some rd
target (Srai rd rs1 amount) = Some rd
target (Add rd rs1 rs2) = Some rd
target (Sub rd rs1 rs2) = Some rd
target (Sll rd rs1 rs2) = Some rd
target (Slt rd rs1 rs2) = Some rd
target (Sltu rd rs1 rs2) = Some rd
target (Xor rd rs1 rs2) = Some rd
target (Srl rd rs1 rs2) = Some rd
target (Sra rd rs1 rs2) = Some rd
target (Or rd rs1 rs2) = Some rd
target (And rd rs1 rs2) = Some rd
target (Fence rd rs1 order) = None
target Ecall = None
target Ebreak = None

-- the register whose low bytes a store stores
abbrev pub source : Ins → ℕ
source (Sb rs1 rs2 offset) = rs2
source (Sh rs1 rs2 offset) = rs2
source (Sw rs1 rs2 offset) = rs2
source other = 0

-- `x<r>=<its value>`
abbrev pub register_text : ℕ → List ℕ → List ℕ
register_text r x = codes "x" ++ decimal r ++ codes "=" ++ hex 8 (slice_index x r)

-- the register that was written, with its value after; x0 isn't written
abbrev pub written : Option ℕ → List ℕ → Option (List ℕ)
written None x = None
written (Some r) x = if r == 0 then None else Some (register_text r x)

-- `from <address>` of a load; `[<address>]=<digits>` of a store, two digits for each byte
abbrev pub access_text : Access → ℕ → List ℕ
access_text a value =
    if a.is_store then codes "[" ++ hex 8 a.address ++ codes "]=" ++ hex (2 * a.bytes) value else codes "from " ++ hex 8 a.address

-- where control went, if not to the word behind
abbrev pub jumped : ℕ → ℕ → Option (List ℕ)
jumped pc next = if next == sum32 pc 4 then None else Some (codes "pc=" ++ hex 8 next)

-- an instruction at pc that was carried out, with the registers before, and pc and the registers after
abbrev pub carried_out : List ℕ → Registers → ℕ → Ins → List (Option (List ℕ))
carried_out x after pc i =
    written (target i) after.x ∷ option_map (λ a. access_text a (slice_index x (source i))) (accessed x i) ∷ jumped pc after.pc ∷ []

-- a fault, with the address of the load or store that it is of
abbrev pub fault_text : List ℕ → Option ℕ → AttemptOutcome → List ℕ
fault_text x word o =
    outcome_text o ++ option_map_or (λ a. codes " at " ++ hex 8 a.address) (option_and_then (λ w. access_of w x) word) []

-- what a record did, of its words those that are there: an instruction, a call, a call that answers in x10, or a fault
abbrev pub pieces : List ℕ → Registers → Attempt → AttemptOutcome → List (Option (List ℕ))
pieces x after a Next = option_map_or (carried_out x after a.pc) (option_and_then ins a.word) []
pieces x after a End = Some (outcome_text End) ∷ []
pieces x after a (Write n) = Some (outcome_text (Write n)) ∷ Some (register_text 10 after.x) ∷ []
pieces x after a WriteRefused = Some (outcome_text WriteRefused) ∷ Some (register_text 10 after.x) ∷ []
pieces x after a (Sleep w) = Some (outcome_text (Sleep w)) ∷ []
pieces x after a Yield = Some (outcome_text Yield) ∷ []
pieces x after a (Now t) = Some (outcome_text (Now t)) ∷ Some (register_text 10 after.x) ∷ []
pieces x after a (Reserve q) = Some (outcome_text (Reserve q)) ∷ Some (register_text 10 after.x) ∷ []
pieces x after a ReserveRefused = Some (outcome_text ReserveRefused) ∷ Some (register_text 10 after.x) ∷ []
pieces x after a (Fault fault) = Some (fault_text x a.word (Fault fault)) ∷ []

-- pieces that follow another
abbrev pub following : List (List ℕ) → List ℕ
following [] = []
following (p ∷ ps) = (codes ", " ++ p) ++ following ps

-- pieces with commas between them, or `-` where there are none
abbrev pub joined : List (List ℕ) → List ℕ
joined [] = codes "-"
joined (p ∷ ps) = p ++ following ps

-- what a record did: the registers before it, pc and the registers after it
abbrev pub did : List ℕ → Registers → Attempt → List ℕ
did x after a = joined (filter_map (λ p. p) (pieces x after a a.outcome))
