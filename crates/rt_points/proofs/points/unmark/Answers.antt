use Rattle.std.proofs.Common.{sym}
use Rattle.rt_points.proofs.PointLemmas.{all_marked_apart}
use Rattle.rt_points.proofs.points.unmark.Goals as goal

pub returns-then-not-any_shares : goal.returns-then-not-any_shares
returns-then-not-any_shares c = λ marked.
    all_marked_apart c.in-Some.place c.args.marks.now.words.items c.remove.new.self.words.items c.args.points.now c.remove.ensures.kept (sym c.if-not-any_shares.ensures) marked
