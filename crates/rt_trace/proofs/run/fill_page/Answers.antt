use Rattle.rt_trace.proofs.Common.{refl, arith}
use Rattle.rt_trace.proofs.EntryLemmas.{told-nothing}
use Rattle.rt_trace.proofs.run.fill_page.Goals as goal

pub ticks-init : goal.ticks-init
ticks-init g c =
    let before = c.requires.before in
    record {
      within = omega arith;
      short = rw c.requires.empty (omega arith);
      told = λ set stands cut.
          rw c.requires.empty (told-nothing set c.args.n c.args.machine.now.tick c.args.machine.now refl stands (λ _. cut));
      at = c.requires.at;
      stands = λ set stands. stands;
      heard = λ first set stands heard. heard;
    }

pub ticks-preserved-then-go : goal.ticks-preserved-then-go
ticks-preserved-then-go g c =
    let start = c.args.machine.now.tick in
    let so_far = c.ticks.invariant in
    let gone = c.go.ensures in
    record {
      within = c.put_stop.ensures.within;
      short = omega (arith, c.put_stop.ensures.short, gone.short, so_far.short);
      told = λ set stands cut. c.put_stop.ensures.told set start (gone.told set start (so_far.told set stands cut));
      at = c.put_stop.ensures.at;
      stands = λ set stands. c.put_stop.ensures.stands set (gone.stands set (so_far.stands set stands));
      heard = λ first set stands heard.
          let here = so_far.stands set stands in
          c.put_stop.ensures.heard first set (gone.stands set here) (gone.heard first set here (so_far.heard first set stands heard));
    }

pub ticks-preserved : goal.ticks-preserved
ticks-preserved g c =
    let start = c.args.machine.now.tick in
    let so_far = c.ticks.invariant in
    let gone = c.go.ensures in
    record {
      within = gone.within;
      short = omega (arith, gone.short, so_far.short);
      told = λ set stands cut. gone.told set start (so_far.told set stands cut);
      at = gone.at;
      stands = λ set stands. gone.stands set (so_far.stands set stands);
      heard = λ first set stands heard. gone.heard first set (so_far.stands set stands) (so_far.heard first set stands heard);
    }

pub returns-else-has_room-clause-onward : goal.returns-else-has_room-clause-onward
returns-else-has_room-clause-onward g c = omega (arith, c.has_room.ensures.none c.if-has_room.false, c.ticks.invariant.short)
