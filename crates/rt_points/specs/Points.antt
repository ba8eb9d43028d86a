-- A set of points, in the order in which they were inserted.
use Rattle.std.specs.Prelude.{◌≡◌, ◌≤◌, ℕ, ◌==◌, ◌&&◌, not, nat_eq, nat_lt, if◌then◌else◌, Bool, false, List, [], ◌∷◌, ◌++◌, length, filter, Option, Some, Result, Ok, Err}
use Rattle.std.specs.List.{list_any}
use Rattle.std.specs.Option.{option_eq}
use Rattle.rt_points.specs.declared.point.BreakKind.TheVariants.{Software, Hardware}
use Rattle.rt_points.specs.declared.point.WatchKind.TheVariants.{Write, Read, Access}
use Rattle.rt_points.specs.declared.point.PointKind.{PointKind}
use Rattle.rt_points.specs.declared.point.PointKind.TheVariants.{Break, Watch}
use Rattle.rt_points.specs.declared.point.Point.{Point}
use Rattle.rt_points.specs.declared.fault.PointFault.{PointFault}
use Rattle.rt_points.specs.declared.fault.PointFault.TheVariants.{TooMany, NoMemory}

-- the kinds by number, which is their order
abbrev pub kind_number : PointKind → ℕ
kind_number (Break Software) = 0
kind_number (Break Hardware) = 1
kind_number (Watch Write) = 2
kind_number (Watch Read) = 3
kind_number (Watch Access) = 4

-- whether both are one task, or both every task
abbrev pub is_same_task : Option ℕ → Option ℕ → Bool
is_same_task a b = option_eq nat_eq a b

-- whether both are one point
abbrev pub is_same : Point → Point → Bool
is_same a b = (kind_number a.kind == kind_number b.kind) && is_same_task a.task b.task && (a.address == b.address) && (a.length == b.length)

-- whether a point is of this one task alone
abbrev pub is_own : ℕ → Point → Bool
is_own task point = is_same_task point.task (Some task)

-- the most points of a set
abbrev pub point_limit : ℕ
point_limit = 1024

-- whether the point is there
abbrev pub is_in : List Point → Point → Bool
is_in points point = list_any (is_same point) points

-- a point more is the last one, unless it is there already
abbrev pub with_point : List Point → Point → List Point
with_point points point = if is_in points point then points else points ++ point ∷ []

-- A point is inserted unless there are 1024 others, or memory runs out. All is then as it was.
abbrev pub Inserts : Point → List Point → Result (Unit {0}) PointFault → List Point → Type 0
Inserts point old (Ok done) new = (new ≡ with_point old point) × (length new ≤ point_limit)
Inserts point old (Err fault) new = (new ≡ old) × (is_in old point ≡ false) × (fault ≡ (if nat_lt (length old) point_limit then NoMemory else TooMany))

-- the points without those that go, in their order
abbrev pub without : (Point → Bool) → List Point → List Point
without goes points = filter (λ p. not (goes p)) points
