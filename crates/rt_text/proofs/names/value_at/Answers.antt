use Rattle.rt_text.proofs.Common.{◌≡◌, ℕ, ◌∙◌, get_or, ap, sym, arith}
use Rattle.rt_text.specs.Working.Rows.{mark}
use Rattle.rt_text.proofs.PlaceLemmas.{value_there, none_there, none_past}
use Rattle.rt_text.proofs.names.value_at.Goals as goal

pub returns-then-place-table : goal.returns-then-place-table
returns-then-place-table g c =
    let place : c.from-place.result ≡ get_or c.args.places.now (mark c.args.name.now) 0 = c.from-place.ensures ∙ ap (λ (i : ℕ). get_or c.args.places.now i 0) (c.from.ensures ∙ c.mark.ensures) in
    none_past c.args.places.now c.args.table.now c.args.name.now c.from-place.result c.requires place c.if-place-table.true

pub returns-then-eq : goal.returns-then-eq
returns-then-eq g c =
    let place : c.from-place.result ≡ get_or c.args.places.now (mark c.args.name.now) 0 = c.from-place.ensures ∙ ap (λ (i : ℕ). get_or c.args.places.now i 0) (c.from.ensures ∙ c.mark.ensures) in
    value_there c.args.places.now c.args.table.now c.args.name.now c.from-place.result c.index-table-place.result c.requires place (omega arith) c.index-table-place.is (sym c.eq.ensures ∙ c.if-eq.true)

pub returns-else-eq : goal.returns-else-eq
returns-else-eq g c =
    let place : c.from-place.result ≡ get_or c.args.places.now (mark c.args.name.now) 0 = c.from-place.ensures ∙ ap (λ (i : ℕ). get_or c.args.places.now i 0) (c.from.ensures ∙ c.mark.ensures) in
    none_there c.args.places.now c.args.table.now c.args.name.now c.from-place.result c.index-table-place.result c.requires place c.index-table-place.is (sym c.eq.ensures ∙ c.if-eq.false)
