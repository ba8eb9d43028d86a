use Rattle.rt_text.proofs.Common.{◌≡◌, ◌≤◌, length}
use Rattle.rt_text.specs.NoToken.{tokens_len}
use Rattle.rt_text.proofs.refused_words.tokens_len.Given as goal

-- no longer front is tokens
abbrev pub invariant-loop-len : goal.invariant-loop-len
invariant-loop-len l = record {
  within : l.len ≤ length l.line;
  same : tokens_len l.place (length l.line) l.line ≡ tokens_len l.place l.len l.line;
}

abbrev pub decreases-loop-len : goal.decreases-loop-len
decreases-loop-len l = l.len
