use Rattle.rt_trace.proofs.Common.{◌≤◌, ◌+◌, ◌-◌, arith}
use Rattle.rt_trace.proofs.EntryLemmas.{told-going}
use Rattle.rt_trace.proofs.hearing.UnheardHearer.go.Goals as goal

pub returns-clause-told : goal.returns-clause-told
returns-clause-told g c = λ set t told.
    let old = c.args.machine.now in
    let gone = c.go_turns.ensures in
    let k = c.go_turns.result.count in
    let limit : k ≤ c.args.n - old.tick = omega (arith, gone.within, c.now.ensures.value) in
    let within : old.tick + k ≤ c.args.n = omega (arith, limit, c.requires.before) in
    told-going set c.args.n t c.args.page.now.text c.go_turns.new.watcher.text k old c.go_turns.new.self told (gone.legal set old.tick told.stands) within
