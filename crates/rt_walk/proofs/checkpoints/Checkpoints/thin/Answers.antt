use Rattle.rt_walk.proofs.Common.{arith, tick_of}
use Rattle.std.proofs.Common.{rules}
use Rattle.std.proofs.lemmas.Fn.{filter_same}
use Rattle.rt_walk.proofs.KeptLemmas.{thins_out, at_multiple}
use Rattle.rt_walk.proofs.checkpoints.Checkpoints.thin.Goals as goal

pub returns-clause-kept : goal.returns-clause-kept
returns-clause-kept g c = λ start kept.
    let left = filter_same _ (at_multiple tick_of c.saturating_mul-distance.result) _ (λ x b f' k. search rules) _ _ c.retain.ensures.filtered in
    thins_out tick_of start _ _ _ _ _ _ _ kept c.args.self.now.apart c.args.self.now.two (omega (arith, c.if-len-self.false, c.len.ensures)) c.args.self.now.few c.saturating_mul-distance.ensures c.due_behind-self.ensures left
