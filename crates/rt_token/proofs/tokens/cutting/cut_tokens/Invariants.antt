use Rattle.std.proofs.Common.{◌≡◌, ◌+◌, ◌++◌, length}
use Rattle.std.specs.Option.{option_map}
use Rattle.rt_token.specs.Tokens.{tokens}
use Rattle.rt_token.proofs.tokens.cutting.cut_tokens.Given as goal

-- what was found goes before the tokens of what is left
abbrev pub invariant-loop-first : goal.invariant-loop-first
invariant-loop-first l = record {
  places : l.start + length l.rest ≡ l.place + length l.line;
  same : option_map (λ ts. l.found.items ++ ts) (tokens l.start 0 l.rest) ≡ tokens l.place 0 l.line;
}

abbrev pub decreases-loop-first : goal.decreases-loop-first
decreases-loop-first l = length l.rest
