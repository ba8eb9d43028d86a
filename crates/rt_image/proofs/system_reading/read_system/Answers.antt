use Rattle.rt_image.proofs.Common.{ap, subst, ◌∙◌, arith, Gives}
use Rattle.rt_image.specs.SystemFile.{task_set}
use Rattle.rt_image.specs.SystemReading.{system_of}
use Rattle.rt_image.proofs.Systems.{is_found, system_again}
use Rattle.rt_image.proofs.system_reading.read_system.Goals as goal

pub returns-clause-found : goal.returns-clause-found
returns-clause-found c = is_found c.args.file.now c.whole_system.result (λ i. omega (arith, c.type_inv.file i)) c.whole_system.ensures

pub returns-clause-only : goal.returns-clause-only
returns-clause-only c = λ o fits e. subst (λ f. Gives task_set c.whole_system.result f) (ap system_of e ∙ system_again o fits) c.whole_system.ensures
