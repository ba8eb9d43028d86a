use Rattle.rt_report.proofs.Common.{◌≡◌, ◌+◌, ℕ, sym, ap, subst, ◌∙◌, arith, IsSound, plain_for}
use Rattle.rt_report.specs.Working.Waiting.{counted, MayWait}
use Rattle.rt_report.proofs.WaitingLaws.{counted-none, waits-more, may-wait-more}
use Rattle.rt_report.proofs.lazy_tally.LazyTally.take_plain.Goals as goal

pub invariant_of-self : goal.invariant_of-self
invariant_of-self c = λ _.
    let m = c.self.inside.waiting in
    let x = c.self.inside.tally in
    let sound = subst (IsSound c.args.u) (sym c.self.view_is) c.requires.sound in
    subst (MayWait (m + c.args.n)) (sym c.end_at.ensures)
    (may-wait-more c.args.u m c.args.n x c.self.invariant (c.may_wait.ensures.active c.if-may_wait.true) (c.may_wait.ensures.begun c.if-may_wait.true) c.requires.some c.requires.limit sound)

pub returns-then-may_wait : goal.returns-then-may_wait
returns-then-may_wait c =
    let m = c.self.inside.waiting in
    let x = c.self.inside.tally in
    let sound = subst (IsSound c.args.u) (sym c.self.view_is) c.requires.sound in
    ap (counted (m + c.args.n)) c.end_at.ensures
    ∙ sym (waits-more c.args.u m c.args.n x c.self.invariant (c.may_wait.ensures.active c.if-may_wait.true) (c.may_wait.ensures.begun c.if-may_wait.true) c.requires.some sound)
    ∙ ap (plain_for c.args.u c.args.n) c.self.view_is

pub take_plain-requires-clause-sound : goal.take_plain-requires-clause-sound
take_plain-requires-clause-sound c =
    let x = c.self.inside.tally in
    let none : c.self.inside.waiting ≡ 0 = c.may_wait.ensures.first c.if-may_wait.false in
    let same : x ≡ c.args.self.now = sym (counted-none x) ∙ ap (λ (k : ℕ). counted k x) (sym none) ∙ c.self.view_is in
    subst (IsSound c.args.u) (sym same) c.requires.sound

pub invariant_of-self-else-may_wait : goal.invariant_of-self-else-may_wait
invariant_of-self-else-may_wait c = λ some.
    let none : c.self.inside.waiting ≡ 0 = c.may_wait.ensures.first c.if-may_wait.false in
    absurd (omega (arith, none, some))

pub returns-else-may_wait : goal.returns-else-may_wait
returns-else-may_wait c =
    let x = c.self.inside.tally in
    let y = c.take_plain.new.self in
    let none : c.self.inside.waiting ≡ 0 = c.may_wait.ensures.first c.if-may_wait.false in
    let same : x ≡ c.args.self.now = sym (counted-none x) ∙ ap (λ (k : ℕ). counted k x) (sym none) ∙ c.self.view_is in
    ap (λ (k : ℕ). counted k y) none ∙ counted-none y ∙ c.take_plain.ensures ∙ ap (plain_for c.args.u c.args.n) same
