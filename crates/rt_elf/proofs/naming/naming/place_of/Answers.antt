use Rattle.rt_elf.proofs.Common.{sym, ap, ◌∙◌, insert, labels, is_before}
use Rattle.std.specs.Ordering.{is_ge}
use Rattle.rt_elf.proofs.naming.PlaceLemmas.{stop, not_less}
use Rattle.rt_elf.proofs.naming.naming.place_of.Goals as goal

pub returns-then-is_ge-clause-value : goal.returns-then-is_ge-clause-value
returns-then-is_ge-clause-value c l same =
    c.loop-symbol.invariant.1 l same
    ∙ stop l c.args.symbols.now c.loop-symbol.symbol-index _ c.loop-symbol-test.true
    (ap (is_before _) same ∙ not_less _ (ap is_ge (sym c.cmp.ensures) ∙ (sym c.is_ge.ensures ∙ c.if-is_ge.true)))
    ∙ ap (λ k. insert (labels c.args.symbols.now) k l) (sym c.loop-symbol.invariant.0)
