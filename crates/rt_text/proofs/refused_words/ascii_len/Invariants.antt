use Rattle.rt_text.proofs.Common.{◌≡◌, ◌+◌, drop, is_ascii}
use Rattle.std.specs.List.{prefix_len}
use Rattle.rt_text.proofs.refused_words.ascii_len.Given as goal

abbrev pub invariant-loop-index : goal.invariant-loop-index
invariant-loop-index l = prefix_len is_ascii l.line ≡ l.index + prefix_len is_ascii (drop l.index l.line)
