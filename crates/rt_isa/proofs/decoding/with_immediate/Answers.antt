use Rattle.rt_isa.proofs.Common.{◌/◌, refl, sym, arith, and_mask}
use Rattle.rt_isa.proofs.Rows.{ins_by}
use Rattle.rt_isa.proofs.decoding.with_immediate.Goals as goal

pub returns-in-0 : goal.returns-in-0
returns-in-0 c =
    rw (c.rd-target.ensures, c.rs1-source.ensures, c.i_immediate-value.ensures) (sym (ins_by c.args.word 19 0 (c.args.word / 33554432) (omega arith) c.requires c.in-0.is refl refl))

pub returns-in-2 : goal.returns-in-2
returns-in-2 c =
    rw (c.rd-target.ensures, c.rs1-source.ensures, c.i_immediate-value.ensures) (sym (ins_by c.args.word 19 2 (c.args.word / 33554432) (omega arith) c.requires c.in-2.is refl refl))

pub returns-in-3 : goal.returns-in-3
returns-in-3 c =
    rw (c.rd-target.ensures, c.rs1-source.ensures, c.i_immediate-value.ensures) (sym (ins_by c.args.word 19 3 (c.args.word / 33554432) (omega arith) c.requires c.in-3.is refl refl))

pub returns-in-4 : goal.returns-in-4
returns-in-4 c =
    rw (c.rd-target.ensures, c.rs1-source.ensures, c.i_immediate-value.ensures) (sym (ins_by c.args.word 19 4 (c.args.word / 33554432) (omega arith) c.requires c.in-4.is refl refl))

pub returns-in-6 : goal.returns-in-6
returns-in-6 c =
    rw (c.rd-target.ensures, c.rs1-source.ensures, c.i_immediate-value.ensures) (sym (ins_by c.args.word 19 6 (c.args.word / 33554432) (omega arith) c.requires c.in-6.is refl refl))

pub returns-in_default : goal.returns-in_default
returns-in_default c =
    rw (c.rd-target.ensures, c.rs1-source.ensures, c.i_immediate-value.ensures) (sym (ins_by c.args.word 19 7 (c.args.word / 33554432) (omega arith) c.requires (omega (arith, and_mask (c.args.word / 4096) 3)) refl refl))
