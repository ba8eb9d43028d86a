use Rattle.std.proofs.Common.{◌≡◌, ◌<◌, ◌≤◌, List, [], ◌∷◌, ◌++◌, length, arith, ap, ◌∙◌, length-append}
use Rattle.rt_points.specs.declared.point.Point.{Point}
use Rattle.rt_points.specs.Points.{point_limit}
use Rattle.rt_points.proofs.PointLemmas.{all_marked_still, one_more_marked, one_more_general}
use Rattle.rt_points.proofs.points.Points.insert.Goals as goal

full : (points : List Point) (point : Point) → length points < point_limit → length (points ++ point ∷ []) ≤ point_limit
full points point room = omega (arith, length-append points (point ∷ []))

pub invariant_of-self-in_err-mark : goal.invariant_of-self-in_err-mark
invariant_of-self-in_err-mark c =
    rw c.reserve.ensures.items (c.self.invariant.0, all_marked_still c.self.inside.marks.words.items c.mark.new.marks.words.items c.self.inside.points.items c.mark.ensures.kept c.self.invariant.1, c.self.invariant.2)

pub invariant_of-self-2 : goal.invariant_of-self-2
invariant_of-self-2 c =
    let points = c.self.inside.points.items in
    let marks = c.mark.new.marks.words.items in
    let pushed : c.push.new.self.items ≡ c.reserve.new.self.items ++ c.args.point ∷ [] = rw c.if-is_err.ensures.negation at c.push.ensures.items in
    let items : c.push.new.self.items ≡ points ++ c.args.point ∷ [] = pushed ∙ ap (λ (ps : List Point). ps ++ c.args.point ∷ []) c.reserve.ensures.items in
    let before = all_marked_still c.self.inside.marks.words.items marks points c.mark.ensures.kept c.self.invariant.1 in
    rw items (
      full points c.args.point (omega (arith, c.if-len-ge-MAX_POINTS.false, c.len.ensures)),
      one_more_marked marks points c.args.point before (c.in_ok-mark.ensures.marked),
      one_more_general c.self.inside.every c.is_general-is_general.result points c.args.point c.self.invariant.2 c.is_general-is_general.ensures,
    )
