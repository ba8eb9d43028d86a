use Rattle.std.proofs.Common.{◌≡◌, ℕ, ◌+◌, ◌-◌, ◌*◌, ◌<◌, ◌≤◌, max, refl, sym, ap, ◌∙◌, arith}
use Rattle.rt_server.specs.Account.{Account}
use Rattle.rt_server.specs.Recharge.{spent_for, used_up_for}
use Rattle.rt_server.proofs.SpendingLaws.{spends-within, spends-all, spends-over}
use Rattle.rt_server.proofs.server.Server.spend_for.Goals as goal

pub returns-then-n-left-clause-account : goal.returns-then-n-left-clause-account
returns-then-n-left-clause-account c =
    let s : Account = record { q = c.self.inside.q; p = c.self.inside.p; c = c.self.inside.c; d = c.self.inside.d; pending = c.self.inside.pending } in
    let less : c.args.n < max s.c 1 = omega (arith, c.if-n-left.true, c.from-left.ensures) in
    sym (ap (spent_for c.args.n) (sym c.self.view_is) ∙ (spends-within c.args.n s less).0)

pub returns-then-n-left-clause-answer : goal.returns-then-n-left-clause-answer
returns-then-n-left-clause-answer c =
    let s : Account = record { q = c.self.inside.q; p = c.self.inside.p; c = c.self.inside.c; d = c.self.inside.d; pending = c.self.inside.pending } in
    let less : c.args.n < max s.c 1 = omega (arith, c.if-n-left.true, c.from-left.ensures) in
    sym (ap (used_up_for c.args.n) (sym c.self.view_is) ∙ (spends-within c.args.n s less).1)

pub returns-then-n-eq0-clause-account : goal.returns-then-n-eq0-clause-account
returns-then-n-eq0-clause-account c =
    let s : Account = c.args.self.now in
    let same : s.c - 0 ≡ s.c = omega arith in
    let none : spent_for 0 s ≡ s = (spends-within 0 s (omega arith)).0 ∙ ap (λ (k : ℕ). record s { c = k }) same in
    rw c.if-n-eq0.true (sym none)

pub returns-then-n-eq0-clause-answer : goal.returns-then-n-eq0-clause-answer
returns-then-n-eq0-clause-answer c =
    let s : Account = c.args.self.now in
    let less : c.args.n < max s.c 1 = omega (arith, c.if-n-eq0.true) in
    sym (spends-within c.args.n s less).1

pub begin_next_budget-requires : goal.begin_next_budget-requires
begin_next_budget-requires c =
    let old : Account = c.args.self.now in
    let some : 1 ≤ c.args.n = omega (arith, c.if-n-eq0.false) in
    let grows : old.p ≤ old.p * c.args.n = grind (arith, some) in
    omega (arith, grows, c.requires)

pub returns-then-n-left-2-clause-account : goal.returns-then-n-left-2-clause-account
returns-then-n-left-2-clause-account c =
    let old : Account = c.args.self.now in
    let left : c.self.inside.c ≡ old.c = ap (λ (a : Account). a.c) c.self.view_is in
    let all : c.args.n ≡ max old.c 1 = omega (arith, c.if-n-left-2.true, c.from-left.ensures, c.if-n-eq0.false, left) in
    rw all (c.begin_next_budget.ensures ∙ sym (spends-all old).0)

pub returns-then-n-left-2-clause-answer : goal.returns-then-n-left-2-clause-answer
returns-then-n-left-2-clause-answer c =
    let old : Account = c.args.self.now in
    let left : c.self.inside.c ≡ old.c = ap (λ (a : Account). a.c) c.self.view_is in
    let all : c.args.n ≡ max old.c 1 = omega (arith, c.if-n-left-2.true, c.from-left.ensures, c.if-n-eq0.false, left) in
    rw all (sym (spends-all old).1)

pub returns-clause-account : goal.returns-clause-account
returns-clause-account c =
    let s : Account = record { q = c.self.inside.q; p = c.self.inside.p; c = c.self.inside.c; d = c.self.inside.d; pending = c.self.inside.pending } in
    let first : c.max.result ≡ max s.c 1 = rw (← c.from-left.ensures) c.max.ensures in
    let m = c.whole_budgets-whole.result.0 in
    let r = c.whole_budgets-whole.result.1 in
    let whole : c.args.n - max s.c 1 ≡ m * s.q + r = rw (← first) (c.whole_budgets-whole.ensures.whole ∙ rw c.from.ensures refl) in
    let rest : r < s.q = omega (arith, c.whole_budgets-whole.ensures.rest, c.from.ensures) in
    let over : max s.c 1 ≤ c.args.n = omega (arith, c.if-n-left.false, c.if-n-left-2.false, c.from-left.ensures) in
    rw c.from-2.ensures (sym (ap (spent_for c.args.n) (sym c.self.view_is) ∙ (spends-over c.args.n m r s c.self.invariant.0 over whole rest).0))

pub returns-clause-answer : goal.returns-clause-answer
returns-clause-answer c =
    let s : Account = record { q = c.self.inside.q; p = c.self.inside.p; c = c.self.inside.c; d = c.self.inside.d; pending = c.self.inside.pending } in
    let first : c.max.result ≡ max s.c 1 = rw (← c.from-left.ensures) c.max.ensures in
    let m = c.whole_budgets-whole.result.0 in
    let r = c.whole_budgets-whole.result.1 in
    let whole : c.args.n - max s.c 1 ≡ m * s.q + r = rw (← first) (c.whole_budgets-whole.ensures.whole ∙ rw c.from.ensures refl) in
    let rest : r < s.q = omega (arith, c.whole_budgets-whole.ensures.rest, c.from.ensures) in
    let over : max s.c 1 ≤ c.args.n = omega (arith, c.if-n-left.false, c.if-n-left-2.false, c.from-left.ensures) in
    sym (ap (used_up_for c.args.n) (sym c.self.view_is) ∙ (spends-over c.args.n m r s c.self.invariant.0 over whole rest).1)
