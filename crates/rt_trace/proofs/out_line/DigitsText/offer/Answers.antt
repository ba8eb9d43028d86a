use Rattle.rt_trace.proofs.Common.{take, get_or, length, length-append, ap, arith, hex, bytes_text}
use Rattle.rt_trace.proofs.LineTexts.{bytes_text-take}
use Rattle.rt_trace.proofs.out_line.DigitsText.offer.Goals as goal

pub loop-byte-preserved : goal.loop-byte-preserved
loop-byte-preserved g c =
    let bytes = c.args.self.now.bytes.now in
    let i = c.loop-byte.byte-index in
    let more = bytes_text-take bytes i c.loop-byte-test.true in
    let digits = rw c.hex_byte.ensures at c.put.ensures in
    record {
      offered = rw more (g.met.O.Out.joined _ _ _ _ _ c.loop-byte.invariant.offered digits);
      short = omega (arith, c.loop-byte.invariant.short, ap length more, length-append (bytes_text (take i bytes)) (hex 2 (get_or bytes i 0)), ap length c.hex_byte.ensures);
    }
