-- A set whose tasks can be certified.
use Rattle.std.specs.Prelude.{◌≡◌, None}
use Rattle.rt_image.specs.SystemFile.{IsSystem, task_set}
use Rattle.rt_history.specs.Admitted.{IsAdmittedSet}
use Rattle.rt_core.specs.Loading.{load_fault}
use Rattle.rt_names.specs.TaskNames.{task_names}
use Rattle.rt_programs.specs.declared.certify_set.CertifiableSet.{CertifiableSet}

-- it is admitted and can be run, and these are the names of its tasks
pub record IsCertifiable (set : CertifiableSet) : Type 0 where
  pub valid : IsSystem (task_set set.system)
  pub admitted : IsAdmittedSet (task_set set.system)
  pub loads : load_fault (task_set set.system) ≡ None
  pub named : set.names ≡ task_names (task_set set.system)
