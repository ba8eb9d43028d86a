use Rattle.rt_isa.proofs.Common.{refl}
use Rattle.rt_isa.specs.Table.{InRow, AtBase}
use Rattle.rt_isa.specs.declared.instruction.Ins.TheVariants.{Lui, Auipc, Jal, Jalr, Beq, Bne, Blt, Bge, Bltu, Bgeu, Lb, Lh, Lw, Lbu, Lhu, Sb, Sh, Sw, Addi, Slti, Sltiu, Xori, Ori, Andi, Slli, Srli, Srai, Add, Sub, Sll, Slt, Sltu, Xor, Srl, Sra, Or, And, Fence}
use Rattle.rt_isa.proofs.Rows.{call_word, break_word}
use Rattle.rt_isa.proofs.encoding.word_of.Goals as goal

pub returns-in-Lui : goal.returns-in-Lui
returns-in-Lui c =
    rw c.in-Lui.is (c.u_type.ensures Lui (0, _, refl))

pub returns-in-Auipc : goal.returns-in-Auipc
returns-in-Auipc c =
    rw c.in-Auipc.is (c.u_type-in-Auipc.ensures Auipc (1, _, refl))

pub returns-in-Jal : goal.returns-in-Jal
returns-in-Jal c =
    rw c.in-Jal.is (c.j_type.ensures Jal (2, _, refl))

pub returns-in-Jalr : goal.returns-in-Jalr
returns-in-Jalr c =
    rw c.in-Jalr.is (c.i_type.ensures AtBase Jalr (3, _, refl))

pub returns-in-Beq : goal.returns-in-Beq
returns-in-Beq c =
    rw c.in-Beq.is (c.b_type.ensures Beq (4, _, refl))

pub returns-in-Bne : goal.returns-in-Bne
returns-in-Bne c =
    rw c.in-Bne.is (c.b_type-in-Bne.ensures Bne (5, _, refl))

pub returns-in-Blt : goal.returns-in-Blt
returns-in-Blt c =
    rw c.in-Blt.is (c.b_type-in-Blt.ensures Blt (6, _, refl))

pub returns-in-Bge : goal.returns-in-Bge
returns-in-Bge c =
    rw c.in-Bge.is (c.b_type-in-Bge.ensures Bge (7, _, refl))

pub returns-in-Bltu : goal.returns-in-Bltu
returns-in-Bltu c =
    rw c.in-Bltu.is (c.b_type-in-Bltu.ensures Bltu (8, _, refl))

pub returns-in-Bgeu : goal.returns-in-Bgeu
returns-in-Bgeu c =
    rw c.in-Bgeu.is (c.b_type-in-Bgeu.ensures Bgeu (9, _, refl))

pub returns-in-Lb : goal.returns-in-Lb
returns-in-Lb c =
    rw c.in-Lb.is (c.i_type-in-Lb.ensures AtBase Lb (10, _, refl))

pub returns-in-Lh : goal.returns-in-Lh
returns-in-Lh c =
    rw c.in-Lh.is (c.i_type-in-Lh.ensures AtBase Lh (11, _, refl))

pub returns-in-Lw : goal.returns-in-Lw
returns-in-Lw c =
    rw c.in-Lw.is (c.i_type-in-Lw.ensures AtBase Lw (12, _, refl))

pub returns-in-Lbu : goal.returns-in-Lbu
returns-in-Lbu c =
    rw c.in-Lbu.is (c.i_type-in-Lbu.ensures AtBase Lbu (13, _, refl))

pub returns-in-Lhu : goal.returns-in-Lhu
returns-in-Lhu c =
    rw c.in-Lhu.is (c.i_type-in-Lhu.ensures AtBase Lhu (14, _, refl))

pub returns-in-Sb : goal.returns-in-Sb
returns-in-Sb c =
    rw c.in-Sb.is (c.s_type.ensures Sb (15, _, refl))

pub returns-in-Sh : goal.returns-in-Sh
returns-in-Sh c =
    rw c.in-Sh.is (c.s_type-in-Sh.ensures Sh (16, _, refl))

pub returns-in-Sw : goal.returns-in-Sw
returns-in-Sw c =
    rw c.in-Sw.is (c.s_type-in-Sw.ensures Sw (17, _, refl))

pub returns-in-Addi : goal.returns-in-Addi
returns-in-Addi c =
    rw c.in-Addi.is (c.i_type-in-Addi.ensures InRow Addi (18, _, refl))

pub returns-in-Slti : goal.returns-in-Slti
returns-in-Slti c =
    rw c.in-Slti.is (c.i_type-in-Slti.ensures InRow Slti (19, _, refl))

pub returns-in-Sltiu : goal.returns-in-Sltiu
returns-in-Sltiu c =
    rw c.in-Sltiu.is (c.i_type-in-Sltiu.ensures InRow Sltiu (20, _, refl))

pub returns-in-Xori : goal.returns-in-Xori
returns-in-Xori c =
    rw c.in-Xori.is (c.i_type-in-Xori.ensures InRow Xori (21, _, refl))

pub returns-in-Ori : goal.returns-in-Ori
returns-in-Ori c =
    rw c.in-Ori.is (c.i_type-in-Ori.ensures InRow Ori (22, _, refl))

pub returns-in-Andi : goal.returns-in-Andi
returns-in-Andi c =
    rw c.in-Andi.is (c.i_type-in-Andi.ensures InRow Andi (23, _, refl))

pub returns-in-Slli : goal.returns-in-Slli
returns-in-Slli c =
    rw c.in-Slli.is (c.shift_type.ensures Slli (24, _, refl))

pub returns-in-Srli : goal.returns-in-Srli
returns-in-Srli c =
    rw c.in-Srli.is (c.shift_type-in-Srli.ensures Srli (25, _, refl))

pub returns-in-Srai : goal.returns-in-Srai
returns-in-Srai c =
    rw c.in-Srai.is (c.shift_type-in-Srai.ensures Srai (26, _, refl))

pub returns-in-Add : goal.returns-in-Add
returns-in-Add c =
    rw c.in-Add.is (c.r_type.ensures Add (27, _, refl))

pub returns-in-Sub : goal.returns-in-Sub
returns-in-Sub c =
    rw c.in-Sub.is (c.r_type-in-Sub.ensures Sub (28, _, refl))

pub returns-in-Sll : goal.returns-in-Sll
returns-in-Sll c =
    rw c.in-Sll.is (c.r_type-in-Sll.ensures Sll (29, _, refl))

pub returns-in-Slt : goal.returns-in-Slt
returns-in-Slt c =
    rw c.in-Slt.is (c.r_type-in-Slt.ensures Slt (30, _, refl))

pub returns-in-Sltu : goal.returns-in-Sltu
returns-in-Sltu c =
    rw c.in-Sltu.is (c.r_type-in-Sltu.ensures Sltu (31, _, refl))

pub returns-in-Xor : goal.returns-in-Xor
returns-in-Xor c =
    rw c.in-Xor.is (c.r_type-in-Xor.ensures Xor (32, _, refl))

pub returns-in-Srl : goal.returns-in-Srl
returns-in-Srl c =
    rw c.in-Srl.is (c.r_type-in-Srl.ensures Srl (33, _, refl))

pub returns-in-Sra : goal.returns-in-Sra
returns-in-Sra c =
    rw c.in-Sra.is (c.r_type-in-Sra.ensures Sra (34, _, refl))

pub returns-in-Or : goal.returns-in-Or
returns-in-Or c =
    rw c.in-Or.is (c.r_type-in-Or.ensures Or (35, _, refl))

pub returns-in-And : goal.returns-in-And
returns-in-And c =
    rw c.in-And.is (c.r_type-in-And.ensures And (36, _, refl))

pub returns-in-Fence : goal.returns-in-Fence
returns-in-Fence c =
    rw c.in-Fence.is (c.ordering.ensures Fence (37, _, refl))

pub returns-in-Ecall : goal.returns-in-Ecall
returns-in-Ecall c =
    rw c.in-Ecall.is call_word

pub returns-in-Ebreak : goal.returns-in-Ebreak
returns-in-Ebreak c =
    rw c.in-Ebreak.is break_word
