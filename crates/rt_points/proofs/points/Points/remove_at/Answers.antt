use Rattle.std.proofs.Common.{arith, ◌<◌, List, length, sym, ap, subst, ◌∙◌}
use Rattle.std.specs.List.{list_any}
use Rattle.std.proofs.lemmas.List.Edits.{length-remove}
use Rattle.rt_points.specs.declared.point.Point.{Point}
use Rattle.rt_points.specs.Working.Marked.{HaveMarks, is_general}
use Rattle.rt_points.proofs.PointLemmas.{one_less_marked}
use Rattle.rt_points.proofs.points.Points.remove_at.Goals as goal

pub invariant_of-self : goal.invariant_of-self
invariant_of-self c =
    let points = c.self.inside.points.items in
    let within : c.args.place < length points = omega (arith, ap length c.self.view_is, c.requires) in
    let fewer = length-remove points c.args.place within in
    let left = c.deref-2.ensures.value ∙ c.remove-gone.ensures.items in
    let marked = one_less_marked c.self.inside.marks.words.items points c.args.place within c.self.invariant.1 in (
      rw c.remove-gone.ensures.items (omega (arith, fewer, c.self.invariant.0)),
      subst (λ (ps : List Point). HaveMarks c.unmark.new.marks.words.items ps) c.deref-2.ensures.value
          (c.unmark.ensures (subst (λ (ps : List Point). HaveMarks c.self.inside.marks.words.items ps) (sym left) marked)),
      c.any_general-self-inside.ensures ∙ ap (λ (ps : List Point). list_any is_general ps) c.deref.ensures.value,
    )
