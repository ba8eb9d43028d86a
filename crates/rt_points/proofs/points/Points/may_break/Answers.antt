use Rattle.std.proofs.Common.{◌≡◌, None, sym, subst, ◌∙◌, List}
use Rattle.rt_points.specs.declared.point.Point.{Point}
use Rattle.rt_points.specs.Met.{break_at}
use Rattle.rt_points.proofs.PointLemmas.{unmarked_meets_none}
use Rattle.rt_points.proofs.points.Points.may_break.Goals as goal

pub returns-else-self : goal.returns-else-self
returns-else-self c = λ unmarked.
    subst (λ (points : List Point). break_at points c.args.task c.args.pc ≡ None) c.self.view_is
    (unmarked_meets_none c.self.inside.marks.words.items c.self.inside.points.items c.args.task c.args.pc c.self.invariant.1 (sym c.self.invariant.2 ∙ c.if-self.false) (sym c.has.ensures ∙ unmarked))
