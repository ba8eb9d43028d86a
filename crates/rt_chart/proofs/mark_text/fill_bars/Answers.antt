use Rattle.rt_chart.proofs.Common.{◌≡◌, false, ℕ, List, ◌++◌, length, take, get_or, append_assoc, append-nil, ap, sym, ◌∙◌, refl, arith, flat_map, titled_text}
use Rattle.std.proofs.Common.{length-append}
use Rattle.rt_drawing.specs.declared.job.Job.{Job}
use Rattle.rt_drawing.specs.Waits.{stretch}
use Rattle.rt_chart.proofs.PieceLemmas.{flat_map-take-get}
use Rattle.rt_chart.proofs.mark_text.fill_bars.Goals as goal

pub elements-init : goal.elements-init
elements-init g c = record {
  onward = omega arith;
  within = omega arith;
  short = rw c.requires.empty (omega arith);
  task = refl;
  text = rw (c.requires.empty, append-nil) refl;
}

abbrev no_job : Job
no_job = record { number = 0; release = 0; ticks = 0 }

pub elements-preserved : goal.elements-preserved
elements-preserved g c =
    let before = c.elements.invariant in
    let text = titled_text c.args.scale.now.look c.args.numbers.now.task c.args.title.now c.args.period c.args.bar in
    let n = c.elements.next in
    let xs = c.args.stretches.now in
    let x = get_or xs n (stretch 0 0 false no_job) in
    let page = c.elements.page in
    let front = flat_map text (take c.args.from xs) in
    let more = flat_map-take-get text n xs (stretch 0 0 false no_job) (omega arith) in
    let put : c.put_stretch.new.page ≡ page ++ text x = rw before.task at c.put_stretch.ensures.text in
    record {
      onward = omega (arith, before.onward);
      within = omega arith;
      short = omega (arith, ap length put, length-append page (text x), c.put_stretch.ensures.short, before.short);
      task = c.put_stretch.ensures.task ∙ before.task;
      text = more ∙ ap (λ (l : List ℕ). l ++ text x) before.text ∙ append_assoc front page (text x) ∙ ap (λ (l : List ℕ). front ++ l) (sym put);
    }

pub returns-else-has_room-clause-onward : goal.returns-else-has_room-clause-onward
returns-else-has_room-clause-onward g c = omega (arith, c.has_room.ensures.none c.if-has_room.false, c.elements.invariant.short)
