use Rattle.rt_packet.proofs.Common.{◌++◌, ◌∷◌, [], ◌/◌, ◌%◌, false, length, length-append, append_assoc, ap, sym, ◌∙◌, arith, digit_glyph, digits}
use Rattle.rt_packet.proofs.answer.DigitLemmas.{last_digit}
use Rattle.rt_packet.proofs.answer.payload.+push_digits.Goals as goal

pub push_digits-requires : goal.push_digits-requires
push_digits-requires t c =
    let n = c.args.number in
    let last = last_digit n (omega arith) (omega arith) in
    let size = ap length last ∙ length-append (digits 16 false (n / 16)) (digit_glyph false (n % 16) ∷ []) in
    (omega arith, omega (arith, size))

pub push_byte-requires-2 : goal.push_byte-requires-2
push_byte-requires-2 t c =
    let n = c.args.number in
    let last = last_digit n (omega arith) (omega arith) in
    let size = ap length last ∙ length-append (digits 16 false (n / 16)) (digit_glyph false (n % 16) ∷ []) in
    let now = ap length c.push_digits.ensures ∙ length-append c.args.out.now.items (digits 16 false (n / 16)) in
    (omega arith, omega (arith, size, now))

pub returns : goal.returns
returns t c =
    let n = c.args.number in
    let last = last_digit n (omega arith) (omega arith) in
    c.push_byte-2.ensures.text
    ∙ ap (λ l. l ++ c.glyph-2.result ∷ []) c.push_digits.ensures
    ∙ append_assoc c.args.out.now.items (digits 16 false (n / 16)) (c.glyph-2.result ∷ [])
    ∙ ap (λ d. c.args.out.now.items ++ (digits 16 false (n / 16) ++ d ∷ [])) c.glyph-2.ensures
    ∙ ap (λ l. c.args.out.now.items ++ l) (sym last)
