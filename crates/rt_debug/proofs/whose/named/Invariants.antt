use Rattle.std.proofs.Common.{◌≡◌, drop, None}
use Rattle.std.specs.Str.{bytes_eq}
use Rattle.rt_image.specs.SystemFile.{set_tasks}
use Rattle.rt_names.specs.TaskNames.{names_from}
use Rattle.rt_debug.proofs.NamedLemmas.{lone}
use Rattle.rt_debug.proofs.whose.named.Given as goal

abbrev pub invariant-loop-number : goal.invariant-loop-number
invariant-loop-number l = lone (λ n. bytes_eq n l.name) None 0 (names_from 0 (set_tasks l.tasks)) ≡ lone (λ n. bytes_eq n l.name) l.found l.number (names_from l.number (set_tasks (drop l.number l.tasks)))
