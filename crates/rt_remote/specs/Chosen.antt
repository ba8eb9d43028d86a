-- Which tasks a request means, and which it resumes.
use Rattle.std.specs.Prelude.{ℕ, ◌==◌, if◌then◌else◌, Bool, List, map, filter, Option, Some, None}
use Rattle.std.specs.List.{list_any, range_with_len}
use Rattle.std.specs.Option.{is_some}
use Rattle.rt_packet.specs.declared.request.actions.Action.{Action}
use Rattle.rt_packet.specs.declared.request.actions.Action.TheVariants.{Continue, Step}
use Rattle.rt_packet.specs.declared.request.ids.Tasks.{Tasks}
use Rattle.rt_packet.specs.declared.request.ids.Tasks.TheVariants.{All, One}
use Rattle.rt_packet.specs.request.Actions.{action_of}
use Rattle.rt_packet.specs.request.Ids.{names, is_among}
use Rattle.rt_remote.specs.Remote.{RemoteState, is_listed}

-- the numbers of the most tasks
abbrev pub task_numbers : List ℕ
task_numbers = range_with_len 0 64

-- the listed tasks, in their order
abbrev pub listed : RemoteState → List ℕ
listed state = filter (is_listed state) task_numbers

-- whether each task is listed, by its number
abbrev pub listing : RemoteState → List Bool
listing state = map (is_listed state) task_numbers

-- an id means every listed task, or a task that is listed
abbrev pub is_id : RemoteState → Tasks → Bool
is_id state tasks = is_among (listing state) tasks

-- the one listed task that an id means
abbrev pub one_task : RemoteState → Tasks → Option ℕ
one_task state All = None
one_task state (One i) = if is_listed state i then Some i else None

-- each task's action by number, where it is listed
abbrev pub by_number : RemoteState → (ℕ → Option Action) → List (Option Action)
by_number state action = map (λ i. if is_listed state i then action i else None) task_numbers

-- `vCont`: the first action that is for it
abbrev pub resumed_by : RemoteState → List (Action × Tasks) → List (Option Action)
resumed_by state actions = by_number state (action_of actions)

-- the task that `s` and `bs` step: the one of `c`, or the shown one
abbrev pub one_or : ℕ → Tasks → ℕ
one_or shown All = shown
one_or shown (One i) = i

abbrev pub stepped : RemoteState → ℕ
stepped state = one_or state.selection.shown state.selection.resumed

-- `c`: on for the tasks of `c`; `s`: the stepped one of them by a tick
abbrev pub continued : RemoteState → List (Option Action)
continued state = by_number state (λ i. if names state.selection.resumed i then Some Continue else None)

abbrev pub stepped_too : RemoteState → List (Option Action)
stepped_too state = by_number state (λ i. if names state.selection.resumed i then Some (if i == stepped state then Step else Continue) else None)

-- `bc`: those of `c`, or all where none of them is listed
abbrev pub are_any : List (Option Action) → Bool
are_any actions = list_any is_some actions

abbrev pub continued_back : RemoteState → List (Option Action)
continued_back state = if are_any (continued state) then continued state else by_number state (λ i. Some Continue)
