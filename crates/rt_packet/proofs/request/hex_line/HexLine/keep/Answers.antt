use Rattle.rt_packet.proofs.Common.{◌≡◌, ◌+◌, ◌*◌, ◌<◌, [], ◌∷◌, ◌++◌, length, take, refl, sym, ap, ◌∙◌, arith, rules, hex_bytes}
use Rattle.std.proofs.Common.{min}
use Rattle.std.proofs.lemmas.List.{take_min}
use Rattle.rt_packet.proofs.request.HexLemmas.{length-hex_bytes, next_byte}
use Rattle.rt_packet.proofs.request.hex_line.HexLine.keep.Goals as goal

pub loop-index-preserved : goal.loop-index-preserved
loop-index-preserved c =
    let i = c.loop-index.index in
    let digits = c.self.inside.digits.now in
    let inside : 2 * i + 1 < length digits = omega (arith, c.min-count.ensures, c.loop-index-test.true) in
    let one_more = next_byte i (2 * i) (2 * i + 1) digits refl refl inside in
    record {
      items = c.push.ensures.items ∙ (λ k. c.loop-index.invariant.items k ++ c.byte_of-byte.ensures k ∷ []) ∙ sym one_more;
      len = omega (arith, c.push.ensures.len, c.loop-index.invariant.len);
    }

pub returns : goal.returns
returns c =
    let bytes = hex_bytes c.self.inside.digits.now in
    let count : c.loop-index.index ≡ min 515 (length bytes) =
    omega (arith, c.loop-index.auto.index-end, c.loop-index-test.false, c.min-count.ensures, length-hex_bytes c.self.inside.digits.now) in
    let seen : bytes ≡ c.args.self.now = search rules in
    c.loop-index.invariant.items ∙ ap (λ n. take n bytes) count ∙ take_min 515 bytes ∙ ap (λ bs. take 515 bs) seen
