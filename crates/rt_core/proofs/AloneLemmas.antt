-- Isolation at a machine that stands after a legal history.
use Rattle.rt_core.proofs.Common.{◌≡◌, ℕ, ◌<◌, length, get_or, slice_get, Some, refl, SetTask, TaskSet, TaskState, MachineState, state_at}
use Rattle.std.proofs.lemmas.Option.{slice_get_read}
use Rattle.rt_laws.specs.Alone.{alone_in}
use Rattle.rt_laws.proofs.Isolation.{stands_as_alone}

-- one of its tasks
pub program_alone : (set : TaskSet) (t i : ℕ) (m : MachineState) (s : SetTask) (x : TaskState) → m ≡ state_at set t → slice_get set.tasks i ≡ Some s
    → i < length m.tasks → x ≡ get_or m.tasks i x → x.program ≡ alone_in set t i s
program_alone set t i m s x at there below found = stands_as_alone m set t i s x at there (slice_get_read m.tasks (length m.tasks) i x refl below found)
