use Rattle.std.proofs.Common.{◌≡◌, false, ℕ, List, None, sym, ap, subst, ◌∙◌}
use Rattle.std.specs.List.{list_any}
use Rattle.rt_points.specs.declared.point.Point.{Point}
use Rattle.rt_points.specs.Met.{watch_at}
use Rattle.rt_points.specs.Working.Touched.{is_touched}
use Rattle.rt_points.proofs.TouchLemmas.{untouched_none}
use Rattle.rt_points.proofs.points.Points.may_watch.Goals as goal

pub returns : goal.returns
returns c = λ untouched task.
    subst (λ (points : List Point). watch_at points task c.args.access ≡ None) c.self.view_is
    (untouched_none c.self.inside.points.items c.args.access (ap (list_any (is_touched c.args.access)) (sym c.deref.ensures.value) ∙ sym c.any_touched.ensures ∙ untouched) task)
