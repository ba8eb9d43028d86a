-- A set that has a spelling has one in version Two.
use Rattle.rt_programs.proofs.Common.{List, [], ◌∷◌, refl, TaskSet}
use Rattle.rt_image.specs.declared.system.Version.{Version}
use Rattle.rt_image.specs.declared.system.Version.TheVariants.{Two}
use Rattle.rt_image.specs.SystemFile.{SetTask, IsTask, AreTasks, IsSystem}
use Rattle.rt_programs.specs.Convert.{in_version_two}

task_fits_two : (version : Version) (t : SetTask) → IsTask version t → IsTask Two t
task_fits_two version t fits = record {
  budget_fits = fits.budget_fits;
  period_fits = fits.period_fits;
  start_fits = fits.start_fits;
  flag_fits = refl;
  ram_fits = fits.ram_fits;
  object_fits = fits.object_fits;
}

tasks_fit_two : (version : Version) (ts : List SetTask) → AreTasks version ts → AreTasks Two ts
tasks_fit_two version [] fits = tt
tasks_fit_two version (t ∷ ts) fits = (task_fits_two version t fits.0, tasks_fit_two version ts fits.1)

pub fits_two : (s : TaskSet) → IsSystem s → IsSystem (in_version_two s)
fits_two s fits = record { hyper_fits = fits.hyper_fits; count = fits.count; tasks_fit = tasks_fit_two s.version s.tasks fits.tasks_fit }
