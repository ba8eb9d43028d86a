use Rattle.rt_text.proofs.Common.{◌≡◌, ◌+◌, drop, position_or_len, is_comma}
use Rattle.rt_text.proofs.operands.reading.comma_place.Given as goal

abbrev pub invariant-loop-index : goal.invariant-loop-index
invariant-loop-index l = position_or_len is_comma l.tokens ≡ l.index + position_or_len is_comma (drop l.index l.tokens)
