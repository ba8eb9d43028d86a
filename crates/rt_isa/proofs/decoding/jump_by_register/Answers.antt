use Rattle.rt_isa.proofs.Common.{◌/◌, refl, sym, arith, bit_and, ne_eqb}
use Rattle.rt_isa.proofs.Rows.{ins_by, no_row}
use Rattle.rt_isa.proofs.decoding.jump_by_register.Goals as goal

pub returns-in-0 : goal.returns-in-0
returns-in-0 c =
    rw (c.rd.ensures, c.rs1.ensures, c.i_immediate.ensures) (sym (ins_by c.args.word 103 0 (c.args.word / 33554432) (omega arith) c.requires c.in-0.is refl refl))

pub returns-in_default : goal.returns-in_default
returns-in_default c =
    no_row c.args.word 103 (bit_and (c.args.word / 4096) 7) (c.args.word / 33554432) (omega arith) c.requires refl refl refl
    (ne_eqb _ _ (λ h. omega arith), tt)
