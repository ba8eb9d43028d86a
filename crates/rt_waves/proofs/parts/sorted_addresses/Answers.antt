use Rattle.rt_waves.proofs.Common.{ℕ, List, map, ap, ◌∙◌}
use Rattle.std.proofs.lemmas.List.{take_all}
use Rattle.std.proofs.lemmas.List.Sorted.{IsNonDecreasingBy-from_sort}
use Rattle.rt_image.specs.declared.object.Symbol.{Symbol}
use Rattle.rt_waves.specs.Waves.{greatest_upto}
use Rattle.rt_waves.proofs.PartLemmas.{greatest-permuted, addresses-of}
use Rattle.rt_waves.proofs.parts.sorted_addresses.Goals as goal

pub returns-clause-same : goal.returns-clause-same
returns-clause-same c = λ a.
    greatest-permuted a c.loop-symbol.addresses.items c.sort_unstable.new.self.items c.sort_unstable.ensures.permutation
    ∙ ap (greatest_upto a)
    (c.loop-symbol.invariant
    ∙ ap (λ (ss : List Symbol). map (λ (s : Symbol). s.address) ss) (take_all c.loop-symbol.symbol-index c.args.symbols.now c.loop-symbol-test.false)
    ∙ addresses-of c.args.symbols.now)

pub returns-clause-rise : goal.returns-clause-rise
returns-clause-rise c = IsNonDecreasingBy-from_sort (λ (n : ℕ). n) c.sort_unstable.new.self.items c.sort_unstable.ensures.sorted
