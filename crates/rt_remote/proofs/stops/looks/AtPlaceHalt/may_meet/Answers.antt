use Rattle.rt_points.specs.declared.points.Breaking.TheVariants as breaking
use Rattle.rt_remote.proofs.stops.PointLemmas.{none_alone, another_pc, another_task}
use Rattle.rt_remote.proofs.stops.looks.AtPlaceHalt.may_meet.Goals as goal

pub returns-then-self-task : goal.returns-then-self-task
returns-then-self-task g c = λ elsewhere.
    let place = c.args.self.now.place in
    none_alone c.args.self.now.way (breaking.At place) c.args.task c.args.pc c.args._machine.now c.args.self.now.alone
    (λ breaks. breaks c.args.task c.args.pc (another_pc place.task c.args.task place.pc c.args.pc elsewhere))

pub returns-else-self-task : goal.returns-else-self-task
returns-else-self-task g c = λ other.
    let place = c.args.self.now.place in
    none_alone c.args.self.now.way (breaking.At place) c.args.task c.args.pc c.args._machine.now c.args.self.now.alone
    (λ breaks. breaks c.args.task c.args.pc (another_task place.task c.args.task place.pc c.args.pc other))
