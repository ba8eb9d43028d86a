use Rattle.rt_isa.proofs.Common.{◌/◌, refl, sym, arith, bit_and, ne_eqb}
use Rattle.rt_isa.proofs.Rows.{ins_by, no_row}
use Rattle.rt_isa.proofs.decoding.other_register_row.Goals as goal

pub returns-in-0 : goal.returns-in-0
returns-in-0 c =
    rw (c.rd.ensures, c.rs1.ensures, c.rs2.ensures) (sym (ins_by c.args.word 51 0 32 (omega arith) c.requires.opcode c.in-0.is c.requires.funct7 refl))

pub returns-in-5 : goal.returns-in-5
returns-in-5 c =
    rw (c.rd-in-5.ensures, c.rs1-in-5.ensures, c.rs2-in-5.ensures) (sym (ins_by c.args.word 51 5 32 (omega arith) c.requires.opcode c.in-5.is c.requires.funct7 refl))

pub returns-in_default : goal.returns-in_default
returns-in_default c =
    no_row c.args.word 51 (bit_and (c.args.word / 4096) 7) 32 (omega arith) c.requires.opcode refl c.requires.funct7 refl
    (ne_eqb _ _ (λ h. omega arith), (ne_eqb _ _ (λ h. omega arith), (ne_eqb _ _ (λ h. omega arith), (ne_eqb _ _ (λ h. omega arith), (ne_eqb _ _ (λ h. omega arith), (ne_eqb _ _ (λ h. omega arith), (ne_eqb _ _ (λ h. omega arith), (ne_eqb _ _ (λ h. omega arith), (ne_eqb _ _ (λ h. omega arith), (ne_eqb _ _ (λ h. omega arith), tt))))))))))
