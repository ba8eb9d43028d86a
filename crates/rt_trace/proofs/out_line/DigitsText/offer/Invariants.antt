use Rattle.rt_trace.proofs.Common.{◌*◌, ◌≤◌, length, take, bytes_text}
use Rattle.rt_trace.proofs.out_line.DigitsText.offer.Given as goal

abbrev pub invariant-loop-byte : goal.invariant-loop-byte
invariant-loop-byte g l = record {
  offered : g.O.Out.offers l.initial.out (bytes_text (take l.byte-index l.self.bytes.now)) l.out;
  short : length (bytes_text (take l.byte-index l.self.bytes.now)) ≤ 2 * l.byte-index;
}
