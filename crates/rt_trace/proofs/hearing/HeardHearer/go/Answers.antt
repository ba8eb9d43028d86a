use Rattle.rt_trace.proofs.Common.{◌≤◌, ◌+◌, ◌-◌, arith}
use Rattle.rt_trace.proofs.EntryLemmas.{told-going}
use Rattle.rt_trace.proofs.hearing.HeardHearer.go.Goals as goal

pub returns-clause-told : goal.returns-clause-told
returns-clause-told g c = λ set t told.
    let old = c.args.machine.now in
    let gone = c.show_plain-ticks.ensures in
    let ticks = c.show_plain-ticks.result in
    let plain = gone.legal set old.tick told.stands in
    let limit : ticks.count ≤ c.args.n - old.tick = omega (arith, gone.within.within, c.now.ensures.value) in
    let within : old.tick + ticks.count ≤ c.args.n = omega (arith, limit, c.requires.before) in
    told-going set c.args.n t c.args.page.now.text c.show_plain-ticks.new.watcher.text ticks.count old c.show_plain-ticks.new.self told
    record { plain = λ j less. (ticks.task, plain.plain j less); stands = plain.stands; said = gone.said set old.tick told.stands } within
