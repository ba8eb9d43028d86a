use Rattle.std.proofs.Common.{◌≡◌, drop}
use Rattle.std.specs.Prelude.{map}
use Rattle.std.specs.Map.{lookup}
use Rattle.std.specs.Str.{bytes_eq}
use Rattle.rt_command.specs.Working.Rows.{seen_row}
use Rattle.rt_command.proofs.verb.value_of.Given as goal

abbrev pub invariant-loop-row_name : goal.invariant-loop-row_name
invariant-loop-row_name l = lookup (bytes_eq l.name) (map seen_row l.table) ≡ lookup (bytes_eq l.name) (map seen_row (drop l.row_name-index l.table))
