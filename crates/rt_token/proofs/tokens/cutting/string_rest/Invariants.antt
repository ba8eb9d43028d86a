use Rattle.std.proofs.Common.{◌≡◌, ◌+◌, drop, false}
use Rattle.std.specs.Option.{option_map}
use Rattle.rt_token.specs.Tokens.{string_rest}
use Rattle.rt_token.proofs.tokens.cutting.string_rest.Given as goal

abbrev pub invariant-loop-index : goal.invariant-loop-index
invariant-loop-index l = string_rest false l.bytes ≡ option_map (λ n. l.index + n) (string_rest l.escaped (drop l.index l.bytes))
