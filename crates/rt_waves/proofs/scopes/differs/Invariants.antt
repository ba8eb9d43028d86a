use Rattle.rt_waves.proofs.Common.{◌≡◌}
use Rattle.rt_waves.specs.WavesText as text
use Rattle.rt_waves.proofs.scopes.differs.Given as goal

abbrev pub invariant-loop-other : goal.invariant-loop-other
invariant-loop-other l = l.differs ≡ text.differs l.names l.task l.other
