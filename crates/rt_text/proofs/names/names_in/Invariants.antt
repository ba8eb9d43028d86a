use Rattle.rt_text.proofs.Common.{◌≡◌, map, take, seen_row}
use Rattle.rt_text.proofs.names.names_in.Given as goal

abbrev pub invariant-loop-name : goal.invariant-loop-name
invariant-loop-name g l = map (λ name. name.now) l.names.items ≡ map (λ row. row.0) (map seen_row (take l.name-index l.table))
