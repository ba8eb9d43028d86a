use Rattle.std.proofs.Common.{◌≡◌, ◌+◌, drop}
use Rattle.std.specs.List.{position_or_len}
use Rattle.rt_token.specs.SpacedWords.{is_space}
use Rattle.rt_token.proofs.spaced_words.space_place.Given as goal

abbrev pub invariant-loop-index : goal.invariant-loop-index
invariant-loop-index l = position_or_len is_space l.line ≡ l.index + position_or_len is_space (drop l.index l.line)
