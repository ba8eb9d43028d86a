-- What a file's system gives to what shows the names of its tasks.
use Rattle.rt_programs.proofs.Common.{ℕ, ◌<◌, List, [], ◌∷◌, length, arith, Task, object_value, set_tasks}
use Rattle.std.proofs.Common.{zero, suc, get_or, All}
use Rattle.rt_image.specs.declared.system.Version.{Version}
use Rattle.rt_image.specs.ObjectFile.{IsObject}
use Rattle.rt_image.specs.SystemFile.{AreTasks}

-- each task of a set that has a spelling has an object that has one
object_fits : (version : Version) (ts : List Task) → AreTasks version (set_tasks ts) → (k : ℕ) (d : Task) → k < length ts → IsObject (object_value (get_or ts k d).object)
object_fits version [] fit k d below = absurd (omega arith)
object_fits version (t ∷ ts) fit zero d below = fit.0.object_fits
object_fits version (t ∷ ts) fit (suc k) d below = object_fits version ts fit.1 k d (omega arith)

pub objects_fit : (version : Version) (ts : List Task) → AreTasks version (set_tasks ts) → All (λ (t : Task). IsObject (object_value t.object)) ts
objects_fit version ts fit = λ k d below. object_fits version ts fit k d below
