use Rattle.std.proofs.Common.{ℤ, ◌^◌, ap, arith, ◌∙◌, w32, to_z, of_z}
use Rattle.std.proofs.lemmas.Int.{to_z-of_z}
use lib.Signed.{shr_z, mag_shr}
use mir.Val.{SFits}
use Rattle.rt_exec.specs.Arithmetic.{extended}
use Rattle.rt_exec.proofs.Signed.{signed-to_z, quotient-shr}
use Rattle.rt_exec.proofs.arithmetic.shift_signed.Goals as goal

pub returns : goal.returns
returns c =
    let m = 2 ^ c.args.amount in
    let shifted = shr_z c.cast_signed.result m in
    let before : SFits w32 c.cast_signed.result = record { sfits = c.cast_signed.type_inv } in
    let after : SFits w32 shifted = record { sfits = omega (arith, mag_shr c.cast_signed.result m, c.cast_signed.type_inv) } in
    rw (signed-to_z c.args.a (omega arith), quotient-shr, ← c.cast_signed.ensures) (c.extend.ensures ∙ ap extended (ap (λ (z : ℤ). to_z w32 (of_z w32 (shr_z z m))) (to_z-of_z w32 c.cast_signed.result before) ∙ to_z-of_z w32 shifted after))
