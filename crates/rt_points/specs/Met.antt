-- Which points an attempt meets: breakpoints at its pc, and watchpoints by the access of its word.
use Rattle.std.specs.Prelude.{◌≡◌, ℕ, ◌+◌, min, ◌==◌, ◌&&◌, not, nat_lt, nat_le, if◌then◌else◌, Bool, true, false, List, [], ◌∷◌, Option, Some, None}
use Rattle.std.specs.List.{list_any, find}
use Rattle.std.specs.Option.{option_or, option_map}
use Rattle.rt_points.specs.declared.point.BreakKind.{BreakKind}
use Rattle.rt_points.specs.declared.point.BreakKind.TheVariants.{Software, Hardware}
use Rattle.rt_points.specs.declared.point.WatchKind.{WatchKind}
use Rattle.rt_points.specs.declared.point.WatchKind.TheVariants as kinds
use Rattle.rt_points.specs.declared.point.PointKind.{PointKind}
use Rattle.rt_points.specs.declared.point.PointKind.TheVariants.{Break, Watch}
use Rattle.rt_points.specs.declared.point.Point.{Point}
use Rattle.rt_points.specs.declared.access.Access.{Access}
use Rattle.rt_points.specs.declared.met.Watched.{Watched}
use Rattle.rt_points.specs.declared.points.Breaking.{Breaking}
use Rattle.rt_points.specs.declared.points.Breaking.TheVariants.{Nowhere, At, Anywhere}
use Rattle.rt_points.specs.Points.{kind_number}
use Rattle.rt_points.specs.Access.{bytes_of}

-- whether a point with this owner is of a task: of this one, or of every task
abbrev pub is_of : ℕ → Option ℕ → Bool
is_of task None = true
is_of task (Some owner) = owner == task

-- whether a point is of this kind and breaks a task at pc
abbrev pub breaks : BreakKind → ℕ → ℕ → Point → Bool
breaks kind task pc point = (kind_number point.kind == kind_number (Break kind)) && is_of task point.task && (point.address == pc)

-- the least kind of a breakpoint that is met
abbrev pub break_at : List Point → ℕ → ℕ → Option BreakKind
break_at points task pc =
    if list_any (breaks Software task pc) points
    then Some Software
    else (if list_any (breaks Hardware task pc) points then Some Hardware else None)

-- whether a point is a watchpoint
abbrev pub watches_any : PointKind → Bool
watches_any (Break kind) = false
watches_any (Watch kind) = true

abbrev pub is_watch : Point → Bool
is_watch point = watches_any point.kind

-- whether a point is of this kind and watches a task
abbrev pub watches : WatchKind → ℕ → Point → Bool
watches kind task point = (kind_number point.kind == kind_number (Watch kind)) && is_of task point.task

-- whether a byte is one of a point's
abbrev pub covers : Point → ℕ → Bool
covers point address = nat_le point.address address && nat_lt address (point.address + point.length)

-- whether this kind is met by a store, and by a load
abbrev pub is_met_by : WatchKind → Bool → Bool
is_met_by kinds.Write is_store = is_store
is_met_by kinds.Read is_store = not is_store
is_met_by kinds.Access is_store = true

-- the first byte of an access that is one of a point's
abbrev pub first_byte : Access → Point → Option ℕ
first_byte access point = find (covers point) (bytes_of access)

-- the same of a watchpoint of this kind that watches a task
abbrev pub watched_byte : WatchKind → ℕ → Access → Point → Option ℕ
watched_byte kind task access point = if watches kind task point then first_byte access point else None

-- the lesser address, as far as there are any
abbrev pub lesser : Option ℕ → Option ℕ → Option ℕ
lesser None b = b
lesser (Some a) None = Some a
lesser (Some a) (Some b) = Some (min a b)

-- the least such byte of all points of this kind
abbrev pub least_byte : WatchKind → ℕ → Access → List Point → Option ℕ
least_byte kind task access [] = None
least_byte kind task access (p ∷ ps) = lesser (watched_byte kind task access p) (least_byte kind task access ps)

abbrev pub watched : WatchKind → Option ℕ → Option Watched
watched kind byte = option_map (λ a. record { kind = kind; address = a }) byte

-- what a kind of watchpoint is met with, if this access meets it
abbrev pub watch_of : WatchKind → List Point → ℕ → Access → Option Watched
watch_of kind points task access = if is_met_by kind access.is_store then watched kind (least_byte kind task access points) else None

-- the least kind of a watchpoint that is met
abbrev pub watch_at : List Point → ℕ → Access → Option Watched
watch_at points task access =
    option_or (watch_of kinds.Write points task access) (option_or (watch_of kinds.Read points task access) (watch_of kinds.Access points task access))

-- where these points may be met as breakpoints: at no other place
abbrev pub BreaksAt : List Point → Breaking → Type 0
BreaksAt points Nowhere = (task pc : ℕ) → break_at points task pc ≡ None
BreaksAt points (At place) = (task pc : ℕ) → ((place.task == task) && (place.pc == pc)) ≡ false → break_at points task pc ≡ None
BreaksAt points Anywhere = Unit {0}
