use Rattle.rt_text.proofs.Common.{◌≡◌, drop}
use Rattle.rt_text.specs.RefusedWord.{no_number}
use Rattle.rt_text.proofs.refused_words.no_number.Given as goal

abbrev pub invariant-loop-token : goal.invariant-loop-token
invariant-loop-token l = no_number l.tokens ≡ no_number (drop l.token-index l.tokens)
