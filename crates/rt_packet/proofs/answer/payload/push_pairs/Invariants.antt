use Rattle.rt_packet.proofs.Common.{◌≡◌, ◌+◌, ◌*◌, ◌++◌, take, flat_map, array_vec_len, hex}
use Rattle.rt_packet.proofs.answer.payload.push_pairs.Given as goal

abbrev pub invariant-loop-byte : goal.invariant-loop-byte
invariant-loop-byte l = record {
  text : l.out.items ≡ l.initial.out.items ++ flat_map (hex 2) (take l.byte-index l.bytes);
  room : array_vec_len l.out ≡ array_vec_len l.initial.out + 2 * l.byte-index;
}
