use Rattle.rt_laws.proofs.Common.{◌≡◌, ℕ, ◌+◌, ◌≤◌, ◌<◌, None, sym, ap, subst, ◌∙◌, arith, Account, spent_times}
use Rattle.rt_laws.proofs.breach.Budgets.{times-less, times-all}
use Rattle.rt_laws.proofs.breach.busy_server.BusyServer.spend.Goals as goal

pub returns-then-self-eq0 : goal.returns-then-self-eq0
returns-then-self-eq0 c =
    let s = c.self.inside in
    let a : Account = record { q = s.budget; p = s.period; c = s.left; d = s.deadline; pending = None } in
    let is : a ≡ c.args.self.now = c.self.view_is in
    let some : 1 ≤ a.c = subst (λ (b : Account). 1 ≤ b.c) (sym is) c.requires.some in
    let within : c.args.ticks ≤ a.c = subst (λ (b : Account). c.args.ticks ≤ b.c) (sym is) c.requires.within in
    let whole : a.c ≡ c.args.ticks = omega (arith, c.if-self-eq0.true) in
    ap (λ (n : ℕ). record { q = s.budget; p = s.period; c = s.budget; d = s.deadline + n; pending = None }) c.from.ensures
    ∙ sym (times-all c.args.ticks a whole (omega arith)) ∙ ap (spent_times c.args.ticks) is

pub returns-else-self-eq0 : goal.returns-else-self-eq0
returns-else-self-eq0 c =
    let s = c.self.inside in
    let a : Account = record { q = s.budget; p = s.period; c = s.left; d = s.deadline; pending = None } in
    let is : a ≡ c.args.self.now = c.self.view_is in
    let within : c.args.ticks ≤ a.c = subst (λ (b : Account). c.args.ticks ≤ b.c) (sym is) c.requires.within in
    let less : c.args.ticks < a.c = omega (arith, c.if-self-eq0.false) in
    sym (times-less c.args.ticks a less) ∙ ap (spent_times c.args.ticks) is
