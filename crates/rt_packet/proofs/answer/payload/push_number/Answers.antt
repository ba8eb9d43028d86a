use Rattle.rt_packet.proofs.Common.{length, length-append, ap, ◌∙◌, arith, false, digits}
use Rattle.rt_packet.proofs.answer.DigitLemmas.{size_digits}
use Rattle.rt_packet.proofs.answer.payload.push_number.Goals as goal

pub returns-clause-room : goal.returns-clause-room
returns-clause-room c =
    let size = size_digits c.args.number (omega arith) in
    omega (arith, size, ap length c.push_digits.ensures ∙ length-append c.args.out.now.items (digits 16 false c.args.number))
