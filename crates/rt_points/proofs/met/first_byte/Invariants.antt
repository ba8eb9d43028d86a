use Rattle.std.proofs.Common.{◌≡◌, ◌-◌}
use Rattle.std.specs.List.{find}
use Rattle.rt_points.specs.Access.{addresses_from, bytes_of}
use Rattle.rt_points.specs.Met.{covers}
use Rattle.rt_points.proofs.met.first_byte.Given as goal

abbrev pub invariant-loop-place : goal.invariant-loop-place
invariant-loop-place l = find (covers l.point) (bytes_of l.access) ≡ find (covers l.point) (addresses_from l.access.address l.place (l.access.bytes - l.place))
