use Rattle.rt_points.specs.declared.points.Breaking.TheVariants as breaking
use Rattle.rt_remote.proofs.stops.PointLemmas.{none_alone}
use Rattle.rt_remote.proofs.stops.looks.NowhereHalt.may_meet.Goals as goal

pub returns : goal.returns
returns g c = λ _. none_alone c.args.self.now.way breaking.Nowhere c.args._task c.args._pc c.args._machine.now c.args.self.now.alone (λ breaks. breaks c.args._task c.args._pc)
