-- The bytes of the digits so far are kept.
use Rattle.rt_packet.proofs.Common.{◌≡◌, take, array_vec_len, hex_bytes}
use Rattle.rt_packet.proofs.request.hex_line.HexLine.keep.Given as goal

abbrev pub invariant-loop-index : goal.invariant-loop-index
invariant-loop-index l = record {
  items : l.line.items ≡ take l.index (hex_bytes l.self-inside.digits.now);
  len : array_vec_len l.line ≡ l.index;
}
