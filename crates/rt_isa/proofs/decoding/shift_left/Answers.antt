use Rattle.rt_isa.proofs.Common.{◌/◌, refl, sym, arith, ne_eqb}
use Rattle.rt_isa.proofs.Rows.{ins_by, no_row}
use Rattle.rt_isa.proofs.decoding.shift_left.Goals as goal

pub returns-in-0 : goal.returns-in-0
returns-in-0 c =
    rw (c.rd.ensures, c.rs1.ensures, c.shamt.ensures) (sym (ins_by c.args.word 19 1 0 (omega arith) c.requires.opcode c.requires.funct3 c.in-0.is refl))

pub returns-in_default : goal.returns-in_default
returns-in_default c =
    no_row c.args.word 19 1 (c.args.word / 33554432) (omega arith) c.requires.opcode c.requires.funct3 refl refl
    (refl, (refl, (refl, (refl, (refl, (refl, (ne_eqb _ _ (λ h. omega arith), (ne_eqb _ _ (λ h. omega arith), (ne_eqb _ _ (λ h. omega arith), tt)))))))))
