use Rattle.std.proofs.Common.{◌≡◌, ◌+◌, subst, arith}
use Rattle.rt_token.specs.Grammar.{AreTokens}
use Rattle.rt_token.proofs.GrammarLemmas.{tokens_are, are_tokens}
use Rattle.rt_token.proofs.laws.tokens_are_those_of_the_grammar.Goals as goal

pub returns : goal.returns
returns c =
    λ place line ts. (
      λ found. let e : place + 0 ≡ place = omega arith in subst (λ p. AreTokens p line ts) e (tokens_are 0 place line ts found),
      are_tokens place line ts,
    )
