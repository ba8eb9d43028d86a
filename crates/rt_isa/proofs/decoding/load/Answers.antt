use Rattle.rt_isa.proofs.Common.{◌/◌, refl, sym, arith, bit_and, ne_eqb}
use Rattle.rt_isa.proofs.Rows.{ins_by, no_row}
use Rattle.rt_isa.proofs.decoding.load.Goals as goal

pub returns-in-0 : goal.returns-in-0
returns-in-0 c =
    rw (c.rd-target.ensures, c.rs1-base.ensures, c.i_immediate-offset.ensures) (sym (ins_by c.args.word 3 0 (c.args.word / 33554432) (omega arith) c.requires c.in-0.is refl refl))

pub returns-in-1 : goal.returns-in-1
returns-in-1 c =
    rw (c.rd-target.ensures, c.rs1-base.ensures, c.i_immediate-offset.ensures) (sym (ins_by c.args.word 3 1 (c.args.word / 33554432) (omega arith) c.requires c.in-1.is refl refl))

pub returns-in-2 : goal.returns-in-2
returns-in-2 c =
    rw (c.rd-target.ensures, c.rs1-base.ensures, c.i_immediate-offset.ensures) (sym (ins_by c.args.word 3 2 (c.args.word / 33554432) (omega arith) c.requires c.in-2.is refl refl))

pub returns-in-4 : goal.returns-in-4
returns-in-4 c =
    rw (c.rd-target.ensures, c.rs1-base.ensures, c.i_immediate-offset.ensures) (sym (ins_by c.args.word 3 4 (c.args.word / 33554432) (omega arith) c.requires c.in-4.is refl refl))

pub returns-in-5 : goal.returns-in-5
returns-in-5 c =
    rw (c.rd-target.ensures, c.rs1-base.ensures, c.i_immediate-offset.ensures) (sym (ins_by c.args.word 3 5 (c.args.word / 33554432) (omega arith) c.requires c.in-5.is refl refl))

pub returns-in_default : goal.returns-in_default
returns-in_default c =
    no_row c.args.word 3 (bit_and (c.args.word / 4096) 7) (c.args.word / 33554432) (omega arith) c.requires refl refl refl
    (ne_eqb _ _ (λ h. omega arith), (ne_eqb _ _ (λ h. omega arith), (ne_eqb _ _ (λ h. omega arith), (ne_eqb _ _ (λ h. omega arith), (ne_eqb _ _ (λ h. omega arith), tt)))))
