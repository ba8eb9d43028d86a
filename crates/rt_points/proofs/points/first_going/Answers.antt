use Rattle.std.proofs.Common.{sym, ◌∙◌, subst, false, ◌≡◌, List}
use Rattle.std.proofs.lemmas.List.{take_all}
use Rattle.std.specs.List.{list_any}
use Rattle.rt_points.specs.declared.point.Point.{Point}
use Rattle.rt_points.specs.Working.Going.{goes}
use Rattle.rt_points.proofs.PointLemmas.{without_one, without_none}
use Rattle.rt_points.proofs.points.first_going.Goals as goal

pub returns-then-takes-clause-same : goal.returns-then-takes-clause-same
returns-then-takes-clause-same c =
    without_one (goes c.args.going) c.args.points.now c.loop-place.place _ c.loop-place-test.true (sym c.takes.ensures ∙ c.if-takes.true)

pub returns-clause-none : goal.returns-clause-none
returns-clause-none c = λ _.
    without_none (goes c.args.going) c.args.points.now
    (subst (λ (points : List Point). list_any (goes c.args.going) points ≡ false) (take_all c.loop-place.place c.args.points.now c.loop-place-test.false) c.loop-place.invariant)
