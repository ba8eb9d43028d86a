use Rattle.rt_names.proofs.Common.{◌≡◌, Bool, true, false, cond, sym, ap, ◌∙◌, label, is_nearer}
use Rattle.rt_names.proofs.parts.nearest_of.Goals as goal

pub returns-then-is_nearer_than : goal.returns-then-is_nearer_than
returns-then-is_nearer_than c =
    let is : is_nearer (label c.args.symbol) (label c.in-Some.other) ≡ true = sym c.is_nearer_than.ensures ∙ c.if-is_nearer_than.true in
    rw c.in-Some.is (sym (ap (λ (b : Bool). cond b (label c.args.symbol) (label c.in-Some.other)) is))

pub returns-else-is_nearer_than : goal.returns-else-is_nearer_than
returns-else-is_nearer_than c =
    let is : is_nearer (label c.args.symbol) (label c.in-Some.other) ≡ false = sym c.is_nearer_than.ensures ∙ c.if-is_nearer_than.false in
    rw c.in-Some.is (sym (ap (λ (b : Bool). cond b (label c.args.symbol) (label c.in-Some.other)) is))
