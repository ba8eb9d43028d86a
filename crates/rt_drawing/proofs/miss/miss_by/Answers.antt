use Rattle.rt_drawing.proofs.Common.{◌≡◌, ℕ, nat_le, max, true, false, Option, None, Some, refl, sym, ap, ◌∙◌, arith, nat_tests, Account, Serving, due}
use Rattle.rt_drawing.specs.Working.Shown.{active_from, miss_from}
use Rattle.rt_drawing.proofs.MissLaws.{miss_from_is}
use Rattle.rt_drawing.proofs.miss.miss_by.Goals as goal

pub returns-in_err-active : goal.returns-in_err-active
returns-in_err-active c =
    let s = c.args.serving.now in
    let a = (due c.args.u s).account in
    let never : active_from c.args.from s.mode ≡ None = ap (active_from c.args.from) (sym c.mode.ensures) ∙ sym c.active_from.ensures ∙ c.in_err-active.was in
    let none : miss_from (active_from c.args.from s.mode) c.args.u a ≡ None = ap (λ (k : Option ℕ). miss_from k c.args.u a) never in
    c.from_residual.ensures ∙ sym none ∙ miss_from_is c.args.from c.args.u s

pub returns-then-tick-u : goal.returns-then-tick-u
returns-then-tick-u c =
    let s = c.args.serving.now in
    let a = (due c.args.u s).account in
    let k = c.in_ok-active.active in
    let active : active_from c.args.from s.mode ≡ Some k = ap (active_from c.args.from) (sym c.mode.ensures) ∙ sym c.active_from.ensures ∙ c.in_ok-active.was in
    let deadline : c.d.result ≡ a.d = c.d.ensures ∙ ap (λ (x : Account). x.d) c.server.ensures ∙ ap (λ (x : Serving). x.account.d) c.wake_due.ensures in
    let late : nat_le (max k a.d) c.args.u ≡ false = grind (arith, nat_tests, c.if-tick-u.true, c.max-tick.ensures, deadline) in
    let none : miss_from (active_from c.args.from s.mode) c.args.u a ≡ None = ap (λ (o : Option ℕ). miss_from o c.args.u a) active ∙ rw late refl in
    sym none ∙ miss_from_is c.args.from c.args.u s

pub returns : goal.returns
returns c =
    let s = c.args.serving.now in
    let a = (due c.args.u s).account in
    let k = c.in_ok-active.active in
    let active : active_from c.args.from s.mode ≡ Some k = ap (active_from c.args.from) (sym c.mode.ensures) ∙ sym c.active_from.ensures ∙ c.in_ok-active.was in
    let deadline : c.d.result ≡ a.d = c.d.ensures ∙ ap (λ (x : Account). x.d) c.server.ensures ∙ ap (λ (x : Serving). x.account.d) c.wake_due.ensures in
    let again : c.d-2.result ≡ a.d = c.d-2.ensures ∙ ap (λ (x : Account). x.d) c.server-2.ensures ∙ ap (λ (x : Serving). x.account.d) c.wake_due.ensures in
    let left : c.from.result ≡ a.c =
    c.from.ensures ∙ c.c.ensures ∙ ap (λ (x : Account). x.c) c.server-3.ensures ∙ ap (λ (x : Serving). x.account.c) c.wake_due.ensures in
    let tick : c.max-tick.result ≡ max k a.d = c.max-tick.ensures ∙ ap (max k) deadline in
    let here : nat_le (max k a.d) c.args.u ≡ true = grind (arith, nat_tests, c.if-tick-u.false, tick) in
    let some : miss_from (active_from c.args.from s.mode) c.args.u a ≡ Some (record { tick = c.max-tick.result; deadline = c.d-2.result; unspent = c.from.result }) =
    ap (λ (o : Option ℕ). miss_from o c.args.u a) active ∙ rw (here, tick, again, left) refl in
    sym some ∙ miss_from_is c.args.from c.args.u s
