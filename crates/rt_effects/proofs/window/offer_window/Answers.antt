use Rattle.rt_effects.proofs.Common.{◌≡◌, ◌+◌, ◌-◌, arith}
use Rattle.rt_effects.proofs.window.offer_window.Goals as goal

pub returns-clause-counts : goal.returns-clause-counts
returns-clause-counts g c = λ set words start.
    let from = c.args.machine.now.tick in
    let all : c.args.n ≡ from + (c.args.n - from) = omega (arith, c.requires.before) in
    let offered = rw all at (c.offer_ticks.ensures.offers set words start) in
    c.end.ensures c.args.writer.now.sink.now _ c.requires.is_open offered
