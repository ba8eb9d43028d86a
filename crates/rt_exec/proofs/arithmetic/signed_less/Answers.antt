use Rattle.std.proofs.Common.{arith}
use Rattle.std.proofs.lemmas.Int.{ints, to_z-of_z}
use Rattle.rt_exec.proofs.Signed.{signed-to_z}
use Rattle.rt_exec.proofs.arithmetic.signed_less.Goals as goal

pub returns : goal.returns
returns c = rw (signed-to_z c.args.a (omega arith), signed-to_z c.args.b (omega arith), ← c.cast_signed.ensures, ← c.cast_signed-2.ensures) (search (arith, ints, to_z-of_z))
