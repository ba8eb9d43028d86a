use Rattle.std.proofs.Common.{◌≡◌, ◌+◌, drop}
use Rattle.std.specs.List.{prefix_len}
use Rattle.rt_token.specs.Word.{is_word_part}
use Rattle.rt_token.proofs.tokens.cutting.part_len.Given as goal

abbrev pub invariant-loop-index : goal.invariant-loop-index
invariant-loop-index l = prefix_len is_word_part l.bytes ≡ l.index + prefix_len is_word_part (drop l.index l.bytes)
