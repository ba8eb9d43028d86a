-- Which breakpoints have a mark, and which need none.
use Rattle.std.specs.Prelude.{◌≡◌, ℕ, Bool, true, false, List, Option, Some, None}
use Rattle.std.specs.List.{list_all}
use Rattle.rt_points.specs.declared.marks.Place.{Place}
use Rattle.rt_points.specs.declared.point.PointKind.{PointKind}
use Rattle.rt_points.specs.declared.point.PointKind.TheVariants.{Break, Watch}
use Rattle.rt_points.specs.declared.point.Point.{Point}
use Rattle.rt_points.specs.Marks.{is_marked, share_mark}

-- whether it is a breakpoint of every task
abbrev pub breaks_all : PointKind → Option ℕ → Bool
breaks_all (Break kind) None = true
breaks_all (Break kind) (Some task) = false
breaks_all (Watch kind) owner = false

abbrev pub is_general : Point → Bool
is_general point = breaks_all point.kind point.task

-- the place of a breakpoint of one task
abbrev pub place_for : PointKind → Option ℕ → ℕ → Option Place
place_for (Break kind) (Some task) pc = Some (record { task = task; pc = pc })
place_for (Break kind) None pc = None
place_for (Watch kind) owner pc = None

abbrev pub place_of : Point → Option Place
place_of point = place_for point.kind point.task point.address

-- whether a place, where there is one, is marked
abbrev pub is_place_marked : List ℕ → Option Place → Bool
is_place_marked words None = true
is_place_marked words (Some place) = is_marked words place.task place.pc

abbrev pub has_mark : List ℕ → Point → Bool
has_mark words point = is_place_marked words (place_of point)

-- each of these has
abbrev pub HaveMarks : List ℕ → List Point → Type 0
HaveMarks words points = list_all (has_mark words) points ≡ true

-- whether a point has the mark of this place
abbrev pub is_place_shared : Place → Option Place → Bool
is_place_shared place None = false
is_place_shared place (Some other) = share_mark place.task place.pc other.task other.pc

abbrev pub shares : Place → Point → Bool
shares place point = is_place_shared place (place_of point)
