use Rattle.rt_profile.proofs.Common.{◌≡◌, ◌≤◌, ◌^◌, ℕ, List, [], ◌++◌, Bool, true, false, cond, None, length, length-append, sym, ap, subst, ◌∙◌, arith, executed, kept_at, kept_costs, TaskCounts}
use Rattle.std.proofs.Common.{codes}
use Rattle.rt_profile.specs.CallgrindText.{is_empty, task_head, cost_lines}
use Rattle.rt_profile.proofs.callgrind.offer_task.Goals as goal

abbrev costs : ℕ → TaskCounts → Bool → List ℕ
costs i x b = cond b [] (task_head i ++ cost_lines x.labels (kept_at x) None (executed x) ++ codes "\n")

pub returns-then-is_idle-clause-offers : goal.returns-then-is_idle-clause-offers
returns-then-is_idle-clause-offers g c =
    let none : is_empty (executed c.args.task.now) ≡ true = sym c.is_idle.ensures ∙ c.if-is_idle.true in
    subst (λ (t : List ℕ). g.O.Out.offers c.args.out.now t c.args.out.now) (sym (ap (costs c.args.number c.args.task.now) none)) (g.met.O.Out.nothing _)

pub returns-then-is_idle-clause-short : goal.returns-then-is_idle-clause-short
returns-then-is_idle-clause-short g c =
    let none : is_empty (executed c.args.task.now) ≡ true = sym c.is_idle.ensures ∙ c.if-is_idle.true in
    omega (arith, ap length (ap (costs c.args.number c.args.task.now) none))

pub returns-clause-offers : goal.returns-clause-offers
returns-clause-offers g c =
    let some : is_empty (executed c.args.task.now) ≡ false = sym c.is_idle.ensures ∙ c.if-is_idle.false in
    let lines = g.met.O.Out.joined _ _ _ _ _ c.offer_head.ensures.offers c.offer_addresses.ensures.offers in
    subst (λ (t : List ℕ). g.O.Out.offers c.args.out.now t c.put.new.self) (sym (ap (costs c.args.number c.args.task.now) some)) (g.met.O.Out.joined _ _ _ _ _ lines c.put.ensures)

pub returns-clause-short : goal.returns-clause-short
returns-clause-short g c =
    let x = c.args.task.now in
    let some : is_empty (executed x) ≡ false = sym c.is_idle.ensures ∙ c.if-is_idle.false in
    let head = task_head c.args.number in
    let lines = cost_lines x.labels (kept_at x) None (executed x) in
    omega (arith, ap length (ap (costs c.args.number x) some), length-append (head ++ lines) (codes "\n"), length-append head lines, c.offer_head.ensures.short, c.offer_addresses.ensures.short)
