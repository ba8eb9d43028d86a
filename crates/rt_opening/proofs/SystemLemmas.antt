-- What a file's system gives to its machine.
use Rattle.std.proofs.Common.{◌≡◌, ℕ, zero, suc, ◌<◌, true, List, [], ◌∷◌, length, get_or, All, arith}
use Rattle.rt_words.specs.Limits.{is_ram_size}
use Rattle.rt_image.specs.declared.system.Version.{Version}
use Rattle.rt_image.specs.declared.system.Task.{Task}
use Rattle.rt_image.specs.SystemFile.{set_tasks, AreTasks}

-- each task of a set that has a spelling has a size of RAM
size_fits : (version : Version) (ts : List Task) → AreTasks version (set_tasks ts) → (k : ℕ) (d : Task) → k < length ts → is_ram_size (get_or ts k d).ram ≡ true
size_fits version [] fit k d below = absurd (omega arith)
size_fits version (t ∷ ts) fit zero d below = fit.0.ram_fits
size_fits version (t ∷ ts) fit (suc k) d below = size_fits version ts fit.1 k d (omega arith)

pub sizes_fit : (version : Version) (ts : List Task) → AreTasks version (set_tasks ts) → All (λ (t : Task). is_ram_size t.ram ≡ true) ts
sizes_fit version ts fit = λ k d below. size_fits version ts fit k d below
