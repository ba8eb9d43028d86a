use Rattle.rt_waves.proofs.Common.{◌<◌, ◌-◌, ℕ, List, ◌++◌, sym, ap, ◌∙◌, arith, flat_map, range_with_len, told_block}
use Rattle.rt_waves.proofs.dump.DumpLemmas.{none-yet, on-text}
use Rattle.rt_waves.proofs.dump.dump.fill_page.Goals as goal

pub ticks-init : goal.ticks-init
ticks-init g c = record {
  within = let before = c.requires.before in omega arith;
  later = omega arith;
  together = c.requires.together;
  count = c.requires.count;
  short = rw c.requires.empty (omega arith);
  told = λ set from start stands. record { stands = start; told = stands; text = c.requires.empty ∙ sym (none-yet set from c.args.machine.now.tick) };
}

pub ticks-preserved : goal.ticks-preserved
ticks-preserved g c =
    let before = c.ticks.invariant in
    let t = c.ticks.machine.tick in
    let e = c.put_entry.ensures in
    let u = c.put_entry.new.machine.tick in
    let less : t < c.args.end = omega arith in
    let on = e.onward less in
    record {
      within = e.within;
      later = omega (arith, on, before.later);
      together = e.together;
      count = e.counts;
      short = omega (arith, e.short, before.short, on);
      told = λ set from start stands.
          let so_far = before.told set from start stands in
          record {
            stands = e.stands set so_far.stands;
            told = e.told set from so_far.stands so_far.told;
            text = e.text set from so_far.stands so_far.told
                ∙ ap (λ (x : List ℕ). x ++ flat_map (told_block set from) (range_with_len t (u - t))) so_far.text
                ∙ on-text set from c.args.machine.now.tick t u before.later (omega (arith, on));
          };
    }

pub returns-else-has_room-clause-onward : goal.returns-else-has_room-clause-onward
returns-else-has_room-clause-onward g c = omega (arith, c.has_room.ensures.none c.if-has_room.false, c.ticks.invariant.short)
