-- The points of a program where gdb wants a stop.
use Rattle.std.specs.Prelude.{ℕ, ◌==◌, List, [], ◌∷◌, Option, None, if◌then◌else◌}
use Rattle.std.specs.Option.{option_map}
use Rattle.std.specs.Str.{byte}
use Rattle.rt_points.specs.declared.point.PointKind.{PointKind}
use Rattle.rt_packet.specs.declared.request.points.Spot.{Spot}
use Rattle.rt_packet.specs.request.Numbers.{two_numbers}

-- a point of a kind, from an address on
abbrev pub spot : PointKind → ℕ × ℕ → Spot
spot kind numbers = record { kind = kind; address = numbers.0; length = numbers.1 }

-- what stands behind the kind: ",ADDRESS,LENGTH"
abbrev pub spot_of : PointKind → List ℕ → Option Spot
spot_of kind [] = None
spot_of kind (b ∷ bs) = if b == byte "," then option_map (spot kind) (two_numbers bs) else None
