use Rattle.std.proofs.Common.{◌≡◌, true, sym, ap, ◌∙◌}
use Rattle.std.proofs.lemmas.List.{take_all}
use Rattle.std.proofs.lemmas.List.Elements.{All-more, All-same}
use Rattle.rt_debug.specs.Working.Marks.{has_mark}
use Rattle.rt_debug.proofs.MarkLemmas.{all_still, when_ok}
use Rattle.rt_debug.proofs.stops.Stops.mark_anew.Goals as goal

pub loop-slot-preserved : goal.loop-slot-preserved
loop-slot-preserved g c =
    let words = c.mark.new.marks.words.items in
    All-more (λ slot. has_mark words slot ≡ true) c.deref-slot-items.result.now c.loop-slot.slot-index c.slot-item.result c.loop-slot-test.true (all_still c.loop-slot.marks.words.items words _ c.mark.ensures.kept c.loop-slot.invariant)
    (ap (has_mark words) (sym c.slot-item.is) ∙ when_ok c.mark.result _ (sym c.is_err.ensures.value ∙ c.if-is_err.false) c.mark.ensures.marked)

pub invariant_of-self : goal.invariant_of-self
invariant_of-self g c =
    let whole = take_all c.loop-slot.slot-index c.deref-slot-items.result.now c.loop-slot-test.false ∙ c.deref-slot-items.ensures.value in
    record { limit = c.args.self.now.limit; marked = All-same (λ slot. has_mark c.loop-slot.marks.words.items slot ≡ true) c.args.self.now.slots.items _ (sym whole) c.loop-slot.invariant }
