use Rattle.rt_walk.proofs.Common.{arith, ◌∙◌, tick_of}
use Rattle.rt_walk.proofs.KeptLemmas.{keeps_one}
use Rattle.rt_walk.proofs.checkpoints.Checkpoints.add.Goals as goal

pub returns-then-len-self-clause-kept : goal.returns-then-len-self-clause-kept
returns-then-len-self-clause-kept g c = λ start before whole.
    keeps_one tick_of start c.args.self.now.due c.args.self.now.distance c.args.self.now.most _ _ _ _ _ c.args.place.now _ _ _ _ before whole c.keep.ensures.whole c.is_ok-is_kept.ensures.value c.keep.ensures.kept
    (c.keep.ensures.due ∙ c.saturating_add-self.ensures) c.keep.ensures.distance c.keep.ensures.most
    (omega (arith, c.now.ensures.value, c.if-now-self.false)) (omega (arith, c.now.ensures.limit, c.if-now-self.false)) c.args.self.now.two
