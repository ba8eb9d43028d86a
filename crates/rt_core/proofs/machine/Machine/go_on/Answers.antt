use Rattle.rt_core.proofs.Common.{ℕ, List, Option, Some, sym, ap, subst, IsLeast, MachineState}
use Rattle.rt_history.specs.Working.Bounded.{IsBounded}
use Rattle.rt_core.specs.Working.Ran.{IsAsking}
use Rattle.rt_core.proofs.ReserveLemmas.{asking-deadlines, asking-asked}
use Rattle.rt_core.proofs.machine.Machine.go_on.Goals as goal

pub answer-requires-clause-named : goal.answer-requires-clause-named
answer-requires-clause-named g c =
    let asking : IsAsking c.in-Some.least.1 c.in-Asks.pc c.in-Asks.word c.in-Asks.budget c.args.self.now c.attempt.new.self = c.in-Asks.ensures in
    subst (λ (keys : List (Option ℕ)). IsLeast keys (Some c.in-Some.least))
    (sym (asking-deadlines c.in-Some.least.1 c.in-Asks.pc c.in-Asks.word c.in-Asks.budget c.args.self.now c.attempt.new.self asking)) c.in-Some.ensures

pub answer-requires-clause-asked : goal.answer-requires-clause-asked
answer-requires-clause-asked g c = λ x there.
    let asking : IsAsking c.in-Some.least.1 c.in-Asks.pc c.in-Asks.word c.in-Asks.budget c.args.self.now c.attempt.new.self = c.in-Asks.ensures in
    let about = asking-asked c.in-Some.least.1 c.in-Asks.pc c.in-Asks.word c.in-Asks.budget c.args.self.now c.attempt.new.self asking x there in
    (about.0, subst (λ (t : ℕ). IsBounded t x.serving.account) (sym (ap (λ (m : MachineState). m.tick) c.self.view_is)) about.1)
