-- The text of a word: its row's name and its operands, as assembly is written (RISC-V Unprivileged ISA 20191213,
-- chapter 25; registers by number), and `.word` for a word that has no such text.
use Rattle.std.specs.Prelude.{ℕ, ℤ, pos, ◌+ℤ◌, List, [], ◌++◌, Option, Some, None, unwrap_or, option_and_then, codes, ◌==◌, ◌&&◌, not, if◌then◌else◌}
use Rattle.std.specs.Option.{option_map}
use Rattle.std.specs.Fmt.{decimal, signed_decimal}
use Rattle.rt_words.specs.Hex.{hex}
use Rattle.rt_words.specs.Modular.{modulo}
use Rattle.rt_isa.specs.Bits.{slice}
use Rattle.rt_isa.specs.Fields.{rd, rs1, rs2, shamt, order, i_immediate, s_immediate, b_immediate, u_immediate, j_immediate}
use Rattle.rt_isa.specs.Table.{Format, InRow, AtBase, row_of}
use Rattle.rt_isa.specs.Table as formats

-- what is written after an instruction's name, by its form: registers by number, then what follows
pub data Operands : Type 0 where
  Bare : Operands
  Upper : ℕ → ℕ → Operands
  -- a register and an address
  Jump : ℕ → ℕ → Operands
  Branch : ℕ → ℕ → ℕ → Operands
  -- a register, and an offset from a base
  Memory : ℕ → ℤ → ℕ → Operands
  Immediate : ℕ → ℕ → ℤ → Operands
  Shift : ℕ → ℕ → ℕ → Operands
  Registers : ℕ → ℕ → ℕ → Operands
  -- the predecessor set and the successor set of a FENCE
  Sets : ℕ → ℕ → Operands

-- a register by its number
abbrev pub register : ℕ → List ℕ
register n = codes "x" ++ decimal n

-- the address at this distance from pc, modulo 2^32
abbrev pub target : ℕ → ℤ → ℕ
target pc offset = modulo 32 (pos pc +ℤ offset)

-- the letters of a set of a FENCE: i 8, o 4, r 2, w 1 (2.7)
abbrev pub letters : ℕ → List ℕ
letters set =
    (if slice 3 3 set == 1 then codes "i" else [])
    ++ (if slice 2 2 set == 1 then codes "o" else [])
    ++ (if slice 1 1 set == 1 then codes "r" else [])
    ++ (if slice 0 0 set == 1 then codes "w" else [])

-- a FENCE has a text where it is `fence`, which is `fence iorw,iorw`, or has two sets and nothing else
abbrev pub fence_operands : ℕ → ℕ → ℕ → Option Operands
fence_operands d a order =
    if d == 0 && a == 0 && order == 0x0FF then Some Bare
    else (if d == 0 && a == 0 && slice 11 8 order == 0 && not (slice 7 4 order == 0) && not (slice 3 0 order == 0)
    then Some (Sets (slice 7 4 order) (slice 3 0 order)) else None)

-- the operands of a word of this format at this pc, in the order in which they are written; none for a FENCE without a text
unfoldable pub operands : ℕ → Format → ℕ → Option Operands
operands pc (formats.R make) w = Some (Registers (rd w) (rs1 w) (rs2 w))
operands pc (formats.I InRow make) w = Some (Immediate (rd w) (rs1 w) (i_immediate w))
operands pc (formats.I AtBase make) w = Some (Memory (rd w) (i_immediate w) (rs1 w))
operands pc (formats.Shift make) w = Some (Shift (rd w) (rs1 w) (shamt w))
operands pc (formats.S make) w = Some (Memory (rs2 w) (s_immediate w) (rs1 w))
operands pc (formats.B make) w = Some (Branch (rs1 w) (rs2 w) (target pc (b_immediate w)))
operands pc (formats.U make) w = Some (Upper (rd w) (u_immediate w))
operands pc (formats.J make) w = Some (Jump (rd w) (target pc (j_immediate w)))
operands pc (formats.Ordering make) w = fence_operands (rd w) (rs1 w) (order w)
operands pc (formats.Fixed instruction) w = Some Bare

-- how operands are written after a name: a space, and commas between them
abbrev pub written : Operands → List ℕ
written Bare = []
written (Upper d i) = codes " " ++ register d ++ codes "," ++ (codes "0x" ++ hex 5 i)
written (Jump d address) = codes " " ++ register d ++ codes "," ++ (codes "0x" ++ hex 8 address)
written (Branch a b address) = codes " " ++ register a ++ codes "," ++ register b ++ codes "," ++ (codes "0x" ++ hex 8 address)
written (Memory r i a) = codes " " ++ register r ++ codes "," ++ signed_decimal i ++ codes "(" ++ register a ++ codes ")"
written (Immediate d a i) = codes " " ++ register d ++ codes "," ++ register a ++ codes "," ++ signed_decimal i
written (Shift d a n) = codes " " ++ register d ++ codes "," ++ register a ++ codes "," ++ decimal n
written (Registers d a b) = codes " " ++ register d ++ codes "," ++ register a ++ codes "," ++ register b
written (Sets before after) = codes " " ++ letters before ++ codes "," ++ letters after

-- the text of a word that is no statement
abbrev pub data_text : ℕ → List ℕ
data_text w = codes ".word " ++ (codes "0x" ++ hex 8 w)

-- a word as a statement: the name of its row with its operands
abbrev pub statement : ℕ → ℕ → Option (List ℕ)
statement pc w = option_and_then (λ r. option_map (λ o. r.name ++ written o) (operands pc r.format w)) (row_of w)

-- a word's text at this pc
unfoldable pub text : ℕ → ℕ → List ℕ
text pc w = unwrap_or (statement pc w) (data_text w)
