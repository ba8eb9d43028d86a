use Rattle.rt_isa.proofs.Common.{◌/◌, refl, sym, arith, and_mask}
use Rattle.rt_isa.proofs.Rows.{ins_by}
use Rattle.rt_isa.proofs.decoding.plain_register_row.Goals as goal

pub returns-in-0 : goal.returns-in-0
returns-in-0 c =
    rw (c.rd-target.ensures, c.rs1-left.ensures, c.rs2-right.ensures) (sym (ins_by c.args.word 51 0 0 (omega arith) c.requires.opcode c.in-0.is c.requires.funct7 refl))

pub returns-in-1 : goal.returns-in-1
returns-in-1 c =
    rw (c.rd-target.ensures, c.rs1-left.ensures, c.rs2-right.ensures) (sym (ins_by c.args.word 51 1 0 (omega arith) c.requires.opcode c.in-1.is c.requires.funct7 refl))

pub returns-in-2 : goal.returns-in-2
returns-in-2 c =
    rw (c.rd-target.ensures, c.rs1-left.ensures, c.rs2-right.ensures) (sym (ins_by c.args.word 51 2 0 (omega arith) c.requires.opcode c.in-2.is c.requires.funct7 refl))

pub returns-in-3 : goal.returns-in-3
returns-in-3 c =
    rw (c.rd-target.ensures, c.rs1-left.ensures, c.rs2-right.ensures) (sym (ins_by c.args.word 51 3 0 (omega arith) c.requires.opcode c.in-3.is c.requires.funct7 refl))

pub returns-in-4 : goal.returns-in-4
returns-in-4 c =
    rw (c.rd-target.ensures, c.rs1-left.ensures, c.rs2-right.ensures) (sym (ins_by c.args.word 51 4 0 (omega arith) c.requires.opcode c.in-4.is c.requires.funct7 refl))

pub returns-in-5 : goal.returns-in-5
returns-in-5 c =
    rw (c.rd-target.ensures, c.rs1-left.ensures, c.rs2-right.ensures) (sym (ins_by c.args.word 51 5 0 (omega arith) c.requires.opcode c.in-5.is c.requires.funct7 refl))

pub returns-in-6 : goal.returns-in-6
returns-in-6 c =
    rw (c.rd-target.ensures, c.rs1-left.ensures, c.rs2-right.ensures) (sym (ins_by c.args.word 51 6 0 (omega arith) c.requires.opcode c.in-6.is c.requires.funct7 refl))

pub returns-in_default : goal.returns-in_default
returns-in_default c =
    rw (c.rd-target.ensures, c.rs1-left.ensures, c.rs2-right.ensures) (sym (ins_by c.args.word 51 7 0 (omega arith) c.requires.opcode (omega (arith, and_mask (c.args.word / 4096) 3)) c.requires.funct7 refl))
