use Rattle.rt_effects.proofs.Common.{refl, ◌∙◌, arith}
use Rattle.rt_effects.proofs.WindowLemmas.{told-nothing}
use Rattle.rt_effects.proofs.window.fill_page.Goals as goal

pub ticks-init : goal.ticks-init
ticks-init g c =
    let before = c.requires.before in
    record {
      within = omega arith;
      count = refl;
      words = refl;
      short = rw c.requires.empty (omega arith);
      told = λ set from words begun stands cut.
          rw c.requires.empty (told-nothing set c.args.asked from c.args.n c.args.machine.now.tick c.args.machine.now refl stands (λ _. cut));
    }

pub ticks-preserved : goal.ticks-preserved
ticks-preserved g c =
    let so_far = c.ticks.invariant in
    let next = c.put_next.ensures in
    record {
      within = next.within;
      count = next.count ∙ so_far.count;
      words = next.words ∙ so_far.words;
      short = omega (arith, next.short, next.onward, so_far.short);
      told = λ set from words begun stands cut.
          next.told set from c.args.machine.now.tick (so_far.words ∙ words) (omega (arith, begun, so_far.short)) (so_far.told set from words begun stands cut);
    }

pub returns-else-has_room-clause-onward : goal.returns-else-has_room-clause-onward
returns-else-has_room-clause-onward g c = omega (arith, c.has_room.ensures.none c.if-has_room.false, c.ticks.invariant.short)
