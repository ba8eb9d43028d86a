use Rattle.rt_packet.proofs.Common.{◌≡◌, ◌+◌, drop, position_or_len, is_mark}
use Rattle.rt_packet.proofs.request.numbers.mark_place.Given as goal

abbrev pub invariant-loop-index : goal.invariant-loop-index
invariant-loop-index l = position_or_len (is_mark l.mark) l.text ≡ l.index + position_or_len (is_mark l.mark) (drop l.index l.text)
