use Rattle.rt_core.proofs.Common.{◌≡◌, ◌+◌, ◌-◌, refl, ap, ◌∙◌, arith, MachineState}
use Rattle.std.proofs.Common.{min, max}
use Rattle.rt_history.specs.Working.Step.{passed}
use Rattle.rt_core.proofs.GoingLemmas.{idles_without, idles_until}
use Rattle.rt_core.proofs.machine.Machine.idle.Goals as goal
use Rattle.rt_core.proofs.machine.Machine.idle.Goals.{in-Some, in-None}

pub returns : goal.returns
returns g c =
    let old = c.args.self.now in
    let now : c.self.inside.clock ≡ old.tick = ap (λ (m : MachineState). m.tick) c.self.view_is in
    let n = c.match-next_wake.until - c.self.inside.clock in
    let state : c.wake_due.new.self ≡ passed n old = c.wake_due.ensures ∙ rw c.pass.ensures refl in
    elim c.match-next_wake.branch [
      | in-Some w ↦
          let until : c.match-next_wake.until ≡ min (max w.in-Some.w (old.tick + 1)) (old.tick + c.args.most) = w.until-is ∙ w.min-until.ensures ∙ rw (w.max.ensures, now) refl in
          let length : n ≡ c.match-next_wake.until - old.tick = rw now refl in
          rw state (idles_until c.args.most n c.match-next_wake.until old (w.in-Some.w, w.in-Some.field-0-1) c.requires.idle (rw w.in-Some.is at c.next_wake.ensures) c.requires.some until length)
      | in-None w ↦
          let all : n ≡ c.args.most = omega (arith, w.until-is) in
          rw (state, all) (idles_without c.args.most old c.requires.idle (rw w.in-None.is at c.next_wake.ensures) c.requires.some)
    ]
