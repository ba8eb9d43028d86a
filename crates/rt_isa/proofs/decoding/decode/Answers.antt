use Rattle.rt_isa.proofs.Common.{◌/◌, refl, sym, arith, bit_and}
use Rattle.rt_isa.proofs.Rows.{ins_by, no_opcode}
use Rattle.rt_isa.proofs.decoding.decode.Goals as goal

pub returns-in-55 : goal.returns-in-55
returns-in-55 c =
    rw (c.rd.ensures, c.upper.ensures) (sym (ins_by c.args.word 55 (bit_and (c.args.word / 4096) 7) (c.args.word / 33554432) (omega arith) c.in-55.is refl refl refl))

pub returns-in-23 : goal.returns-in-23
returns-in-23 c =
    rw (c.rd-in-23.ensures, c.upper-in-23.ensures) (sym (ins_by c.args.word 23 (bit_and (c.args.word / 4096) 7) (c.args.word / 33554432) (omega arith) c.in-23.is refl refl refl))

pub returns-in-111 : goal.returns-in-111
returns-in-111 c =
    rw (c.rd-in-111.ensures, c.j_immediate.ensures) (sym (ins_by c.args.word 111 (bit_and (c.args.word / 4096) 7) (c.args.word / 33554432) (omega arith) c.in-111.is refl refl refl))

pub returns-in_default : goal.returns-in_default
returns-in_default c =
    no_opcode c.args.word
    (λ h. omega arith, (λ h. omega arith, (λ h. omega arith, (λ h. omega arith, (λ h. omega arith, (λ h. omega arith, (λ h. omega arith, (λ h. omega arith, (λ h. omega arith, (λ h. omega arith, (λ h. omega arith, tt)))))))))))
