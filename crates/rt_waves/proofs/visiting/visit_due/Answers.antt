use Rattle.rt_waves.proofs.Common.{All, sym, subst, WakesFrom}
use Rattle.rt_waves.proofs.SoundLemmas.{wakes-all-visited}
use Rattle.rt_waves.proofs.visiting.visit_due.Goals as goal

pub returns-clause-wakes : goal.returns-clause-wakes
returns-clause-wakes c =
    subst (All (WakesFrom c.args.next_wake)) (sym c.visit_changed.ensures.visited)
    (wakes-all-visited c.args.next_wake c.args.moment.now.tick c.args.moment.now.of c.args.tasks.now c.requires.wakes)
