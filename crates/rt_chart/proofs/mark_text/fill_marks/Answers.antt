use Rattle.rt_chart.proofs.Common.{◌≡◌, ℕ, None, List, ◌++◌, length, take, get_or, append_assoc, append-nil, ap, sym, ◌∙◌, refl, arith, flat_map, mark_text}
use Rattle.std.proofs.Common.{length-append}
use Rattle.rt_drawing.specs.declared.mark.Event.TheVariants.{FreshWake}
use Rattle.rt_chart.proofs.PieceLemmas.{flat_map-take-get}
use Rattle.rt_chart.proofs.mark_text.fill_marks.Goals as goal

pub elements-init : goal.elements-init
elements-init c = record {
  onward = omega arith;
  within = omega arith;
  short = rw c.requires.empty (omega arith);
  task = refl;
  text = rw (c.requires.empty, append-nil) refl;
}

pub elements-preserved : goal.elements-preserved
elements-preserved c =
    let before = c.elements.invariant in
    let text = mark_text c.args.scale.now.look c.args.numbers.now.task in
    let n = c.elements.next in
    let xs = c.args.marks.now in
    let x = get_or xs n (record { tick = 0; event = FreshWake None }) in
    let page = c.elements.page in
    let front = flat_map text (take c.args.from xs) in
    let more = flat_map-take-get text n xs (record { tick = 0; event = FreshWake None }) (omega arith) in
    let put : c.put_mark.new.page ≡ page ++ text x = rw before.task at c.put_mark.ensures.text in
    record {
      onward = omega (arith, before.onward);
      within = omega arith;
      short = omega (arith, ap length put, length-append page (text x), c.put_mark.ensures.short, before.short);
      task = c.put_mark.ensures.task ∙ before.task;
      text = more ∙ ap (λ (l : List ℕ). l ++ text x) before.text ∙ append_assoc front page (text x) ∙ ap (λ (l : List ℕ). front ++ l) (sym put);
    }

pub returns-else-has_room-clause-onward : goal.returns-else-has_room-clause-onward
returns-else-has_room-clause-onward c = omega (arith, c.has_room.ensures.none c.if-has_room.false, c.elements.invariant.short)
