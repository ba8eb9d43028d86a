use Rattle.rt_isa.proofs.Common.{◌/◌, refl, arith, bit_and, ne_eqb, and_mask}
use Rattle.rt_isa.proofs.Rows.{no_row}
use Rattle.rt_isa.proofs.decoding.with_registers.Goals as goal

pub returns-in_default : goal.returns-in_default
returns-in_default c =
    no_row c.args.word 51 (bit_and (c.args.word / 4096) 7) (c.args.word / 33554432) (omega arith) c.requires refl refl refl
    (ne_eqb _ _ (λ h. omega (arith, and_mask (c.args.word / 4096) 3)), (ne_eqb _ _ (λ h. omega (arith, and_mask (c.args.word / 4096) 3)), (ne_eqb _ _ (λ h. omega (arith, and_mask (c.args.word / 4096) 3)), (ne_eqb _ _ (λ h. omega (arith, and_mask (c.args.word / 4096) 3)), (ne_eqb _ _ (λ h. omega (arith, and_mask (c.args.word / 4096) 3)), (ne_eqb _ _ (λ h. omega (arith, and_mask (c.args.word / 4096) 3)), (ne_eqb _ _ (λ h. omega (arith, and_mask (c.args.word / 4096) 3)), (ne_eqb _ _ (λ h. omega (arith, and_mask (c.args.word / 4096) 3)), (ne_eqb _ _ (λ h. omega (arith, and_mask (c.args.word / 4096) 3)), (ne_eqb _ _ (λ h. omega (arith, and_mask (c.args.word / 4096) 3)), tt))))))))))
