use Rattle.rt_text.proofs.Common.{◌≡◌, drop, value_of, seen_row}
use Rattle.std.specs.Prelude.{map}
use Rattle.rt_text.proofs.names.value_of.Given as goal

abbrev pub invariant-loop-row_name : goal.invariant-loop-row_name
invariant-loop-row_name g l = value_of (map seen_row l.table) l.name ≡ value_of (map seen_row (drop l.row_name-index l.table)) l.name
