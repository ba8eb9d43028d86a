-- Events of a machine that are asked for, each of some tasks.
use Rattle.std.specs.Prelude.{ℕ, ◌||◌, nat_lt, if◌then◌else◌, Bool, false, List, slice_get, slice_set, replicate, codes, Option, Some, None}
use Rattle.std.specs.Str.{bytes_eq}
use Rattle.std.specs.List.{list_any}
use Rattle.std.specs.Option.{unwrap_or}
use Rattle.rt_points.specs.declared.events.Event.{Event}
use Rattle.rt_points.specs.declared.events.Event.TheVariants.{Wake, Dispatch, Postponed, Finish, Over, Fault}
use Rattle.rt_points.specs.declared.events.Events.{Events}

-- the words
abbrev pub name_of : Event → List ℕ
name_of Wake = codes "wake"
name_of Dispatch = codes "dispatch"
name_of Postponed = codes "postponed"
name_of Finish = codes "finish"
name_of Over = codes "over"
name_of Fault = codes "fault"

abbrev pub event_named : List ℕ → Option Event
event_named word =
    if bytes_eq word (name_of Wake) then Some Wake
    else (if bytes_eq word (name_of Dispatch) then Some Dispatch
    else (if bytes_eq word (name_of Postponed) then Some Postponed
    else (if bytes_eq word (name_of Finish) then Some Finish
    else (if bytes_eq word (name_of Over) then Some Over
    else (if bytes_eq word (name_of Fault) then Some Fault else None)))))

-- whether each task is asked for
abbrev pub asked_of : Events → Event → List Bool
asked_of events Wake = events.wake
asked_of events Dispatch = events.dispatch
asked_of events Postponed = events.postponed
asked_of events Finish = events.finish
asked_of events Over = events.over
asked_of events Fault = events.fault

abbrev pub asks : Events → Event → ℕ → Bool
asks events event task = unwrap_or (slice_get (asked_of events event) task) false

-- where one task, or every one, is from now on or no more
abbrev pub changed : Bool → Option ℕ → List Bool → List Bool
changed is_asked None tasks = replicate 64 is_asked
changed is_asked (Some task) tasks = if nat_lt task 64 then slice_set tasks task is_asked else tasks

abbrev pub with_event : Event → Option ℕ → Bool → Events → Events
with_event Wake task is_asked events = record events { wake = changed is_asked task events.wake }
with_event Dispatch task is_asked events = record events { dispatch = changed is_asked task events.dispatch }
with_event Postponed task is_asked events = record events { postponed = changed is_asked task events.postponed }
with_event Finish task is_asked events = record events { finish = changed is_asked task events.finish }
with_event Over task is_asked events = record events { over = changed is_asked task events.over }
with_event Fault task is_asked events = record events { fault = changed is_asked task events.fault }

abbrev pub none_asked : List Bool
none_asked = replicate 64 false

abbrev pub no_events : Events
no_events = record { wake = none_asked; dispatch = none_asked; postponed = none_asked; finish = none_asked; over = none_asked; fault = none_asked }

-- whether an event is asked for at all
abbrev pub is_any : List Bool → Bool
is_any tasks = list_any (λ asked. asked) tasks

abbrev pub any_asked : Events → Bool
any_asked events = is_any events.wake || (is_any events.dispatch || (is_any events.postponed || (is_any events.finish || (is_any events.over || is_any events.fault))))
