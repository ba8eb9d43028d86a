use Rattle.rt_packet.proofs.Common.{◌≡◌, drop}
use Rattle.std.specs.Prelude.{map}
use Rattle.rt_packet.specs.request.Requests.{by_prefix}
use Rattle.rt_packet.specs.request.Working.Rows.{seen_prefix}
use Rattle.rt_packet.proofs.request.prefixes.found_in.Given as goal

abbrev pub invariant-loop-text : goal.invariant-loop-text
invariant-loop-text l = by_prefix (map seen_prefix l.table) l.payload ≡ by_prefix (map seen_prefix (drop l.text-index l.table)) l.payload
