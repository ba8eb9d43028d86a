use Rattle.rt_isa.proofs.Common.{◌/◌, refl, sym, arith, ne_eqb}
use Rattle.rt_isa.proofs.Rows.{ins_by, no_row}
use Rattle.rt_isa.proofs.decoding.shift_right.Goals as goal

pub returns-in-0 : goal.returns-in-0
returns-in-0 c =
    rw (c.rd.ensures, c.rs1.ensures, c.shamt.ensures) (sym (ins_by c.args.word 19 5 0 (omega arith) c.requires.opcode c.requires.funct3 c.in-0.is refl))

pub returns-in-32 : goal.returns-in-32
returns-in-32 c =
    rw (c.rd-in-32.ensures, c.rs1-in-32.ensures, c.shamt-in-32.ensures) (sym (ins_by c.args.word 19 5 32 (omega arith) c.requires.opcode c.requires.funct3 c.in-32.is refl))

pub returns-in_default : goal.returns-in_default
returns-in_default c =
    no_row c.args.word 19 5 (c.args.word / 33554432) (omega arith) c.requires.opcode c.requires.funct3 refl refl
    (refl, (refl, (refl, (refl, (refl, (refl, (ne_eqb _ _ (λ h. omega arith), (ne_eqb _ _ (λ h. omega arith), (ne_eqb _ _ (λ h. omega arith), tt)))))))))
