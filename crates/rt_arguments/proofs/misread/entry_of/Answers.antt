use Rattle.std.proofs.Common.{ℕ, sym, ◌∙◌, not, ap, refl}
use Rattle.std.proofs.lemmas.Option.{none-some}
use Rattle.rt_arguments.specs.Words.{IsAddress}
use Rattle.rt_arguments.proofs.misread.entry_of.Goals.{then-is_numeric, else-is_numeric}
use Rattle.rt_arguments.proofs.misread.entry_of.Goals as goal

pub returns-in-None : goal.returns-in-None
returns-in-None c =
    let lacking : (a : ℕ) → IsAddress c.args.word.now a → ⊥ = λ a h. none-some a (sym c.in-None.is ∙ c.address_of.ensures.whole a h) in
    elim c.if-is_numeric.branch [
      | then-is_numeric w ↦ (rw (sym c.is_numeric.ensures ∙ w.if-is_numeric.true) refl, lacking)
      | else-is_numeric w ↦ (rw (w.is_none.ensures ∙ ap not (sym w.value-is ∙ c.if-is_none.true), sym c.is_numeric.ensures ∙ w.if-is_numeric.false) refl, lacking)
    ]
