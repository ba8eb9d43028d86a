-- The points that are inserted and removed.
use Rattle.std.specs.Prelude.{◌≡◌, ℕ, ◌+◌, ◌^◌, ◌%◌, ◌==◌, ◌&&◌, nat_le, nat_lt, if◌then◌else◌, Bool, true, false, Option, Some, None, Result, Ok, Err}
use Rattle.rt_exec.specs.mem.Access.{is_inside}
use Rattle.rt_core.specs.View.{TaskView}
use Rattle.rt_points.specs.declared.point.Point.{Point}
use Rattle.rt_points.specs.declared.point.PointKind.{PointKind}
use Rattle.rt_points.specs.declared.point.PointKind.TheVariants.{Break, Watch}
use Rattle.rt_points.specs.declared.fault.PointFault.{PointFault}
use Rattle.rt_points.specs.declared.fault.PointFault.TheVariants as faults
use Rattle.rt_points.specs.Points.{Inserts, without, is_same}
use Rattle.rt_packet.specs.declared.request.points.Spot.{Spot}
use Rattle.rt_packet.specs.declared.answer.ids.Ids.{Ids}
use Rattle.rt_packet.specs.declared.answer.ids.Ids.TheVariants.{Processes, Threads}
use Rattle.rt_packet.specs.declared.answer.replies.Refused.TheVariants.{NoMemory, NotInRam, TooManyPoints}
use Rattle.rt_packet.specs.declared.answer.replies.Reply.TheVariants as replies
use Rattle.rt_remote.specs.Remote.{RemoteState}
use Rattle.rt_remote.specs.Said.{Said, says_reply, refuses}
use Rattle.rt_remote.specs.Selects.{Tells}
use Rattle.rt_remote.specs.Shows.{shown_view}

-- the point of a place, for the shown task, or for all where ids have no processes; a breakpoint has no length
abbrev pub owner_of : Ids → ℕ → Option ℕ
owner_of Processes shown = Some shown
owner_of Threads shown = None

abbrev pub length_of : PointKind → ℕ → ℕ
length_of (Break kind) n = 0
length_of (Watch kind) n = n

abbrev pub point_of : RemoteState → Spot → Point
point_of state spot = record {
  kind = spot.kind;
  task = owner_of state.selection.ids state.selection.shown;
  address = spot.address;
  length = length_of spot.kind spot.length;
}

-- a breakpoint is at a multiple of 4 whose word is in the shown task's RAM, a watchpoint of at least one byte below 2^32
abbrev pub is_code : Option TaskView → ℕ → Bool
is_code None address = false
is_code (Some v) address = (address % 4 == 0) && is_inside 4 v.state.ram address

abbrev pub may_be : RemoteState → PointKind → ℕ → ℕ → Bool
may_be state (Break kind) address n = is_code (shown_view state) address
may_be state (Watch kind) address n = nat_lt 0 n && nat_le (address + n) (2 ^ 32)

-- addresses have 32 bits
abbrev pub is_address : Spot → Bool
is_address spot = nat_lt spot.address (2 ^ 32)

abbrev pub may_insert : RemoteState → Spot → Bool
may_insert state spot = is_address spot && may_be state spot.kind spot.address spot.length

-- without the point of a place
abbrev pub removed : RemoteState → Spot → RemoteState
removed state spot = if is_address spot then record state { points = without (is_same (point_of state spot)) state.points } else state

abbrev pub inserted : Result (Unit {0}) PointFault → Said
inserted (Ok done) = says_reply replies.Done
inserted (Err faults.TooMany) = refuses TooManyPoints
inserted (Err faults.NoMemory) = refuses NoMemory

abbrev pub InsertsPoint : Bool → RemoteState → Point → Said → RemoteState → Type 0
InsertsPoint false old point said new = Tells old (refuses NotInRam) said new
InsertsPoint true old point said new =
    (result : Result (Unit {0}) PointFault) × Inserts point old.points result new.points × (new ≡ record old { points = new.points }) × (said ≡ inserted result)
