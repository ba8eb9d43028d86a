-- What a way on needn't look for.
use Rattle.std.specs.Prelude.{◌≡◌, false}
use Rattle.std.specs.List.{list_any}
use Rattle.rt_points.specs.declared.points.Breaking.{Breaking}
use Rattle.rt_points.specs.Events.{any_asked}
use Rattle.rt_points.specs.Met.{is_watch, BreaksAt}
use Rattle.rt_remote.specs.declared.stops.onward.Onward.{Onward}
use Rattle.rt_remote.specs.stops.Looked.{is_step}

-- no task is stepped, no event is asked for, there is no watchpoint, and breakpoints may be met there alone
pub record BreaksAlone (breaking : Breaking) (way : Onward) : Type 0 where
  pub unstepped : list_any is_step way.actions.now ≡ false
  pub unasked : any_asked way.events.now ≡ false
  pub unwatched : list_any is_watch way.points.now ≡ false
  pub breaks : BreaksAt way.points.now breaking
