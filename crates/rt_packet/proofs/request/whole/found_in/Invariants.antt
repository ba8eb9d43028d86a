use Rattle.rt_packet.proofs.Common.{◌≡◌, drop, bytes_eq}
use Rattle.std.specs.Prelude.{map}
use Rattle.std.specs.Map.{lookup}
use Rattle.rt_packet.specs.request.Working.Rows.{seen_whole}
use Rattle.rt_packet.proofs.request.whole.found_in.Given as goal

abbrev pub invariant-loop-text : goal.invariant-loop-text
invariant-loop-text l = lookup (bytes_eq l.payload) (map seen_whole l.table) ≡ lookup (bytes_eq l.payload) (map seen_whole (drop l.text-index l.table))
