use Rattle.rt_walk.proofs.Common.{refl, tick_of}
use Rattle.rt_walk.proofs.KeptLemmas.{none_kept}
use Rattle.rt_walk.proofs.checkpoints.Checkpoints.new.Goals as goal

pub returns-clause-kept : goal.returns-clause-kept
returns-clause-kept g c = none_kept tick_of c.args.start _ _ _ _ c.new.ensures.items c.requires refl refl
