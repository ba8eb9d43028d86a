use Rattle.rt_certify.proofs.Common.{arith}
use Rattle.rt_certify.proofs.Along.{stands-plainly}
use Rattle.rt_certify.proofs.certifying.tell_plain.Goals as goal

pub returns-clause-ticks : goal.returns-clause-ticks
returns-clause-ticks g c = omega (arith, c.go_plain-ticks.ensures.clock, c.add_plain.ensures.ticks)

pub returns-clause-stands : goal.returns-clause-stands
returns-clause-stands g c = λ set s stands only st.
    let t = c.args.machine.now.tick in
    let ticks = c.go_plain-ticks.result in
    let plain = c.go_plain-ticks.ensures.legal set t stands in
    stands-plainly set t c.go_plain-ticks.new.self.tick s ticks.task ticks.count c.args.trial.now.limits c.args.trial.now c.add_plain.new.self
    c.go_plain-ticks.ensures.clock only (λ some. omega (arith, c.go_plain-ticks.ensures.within.task some, c.requires)) plain.plain c.add_plain.ensures.stands st
