use Rattle.rt_effects.proofs.Common.{◌≡◌}
use Rattle.rt_effects.proofs.WordLemmas.{first_words}
use Rattle.rt_effects.proofs.teller.Teller.new.Given as goal

abbrev pub invariant-loop-number : goal.invariant-loop-number
invariant-loop-number l = l.tasks.items ≡ first_words l.number l.system.tasks.items
