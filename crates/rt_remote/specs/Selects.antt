-- What a session agrees on and selects: ids, the shown task, the tasks to be resumed.
use Rattle.std.specs.Prelude.{◌≡◌, ℕ, if◌then◌else◌, Bool, true, false}
use Rattle.rt_packet.specs.declared.request.ids.Tasks.{Tasks}
use Rattle.rt_packet.specs.declared.request.ids.Tasks.TheVariants.{All, One}
use Rattle.rt_packet.specs.declared.request.request.Selected.{Selected}
use Rattle.rt_packet.specs.declared.request.request.Selected.TheVariants.{Shown, Resumed}
use Rattle.rt_packet.specs.declared.answer.ids.Ids.{Ids}
use Rattle.rt_packet.specs.declared.answer.ids.Ids.TheVariants.{Processes, Threads}
use Rattle.rt_packet.specs.declared.answer.replies.Refused.TheVariants.{Malformed}
use Rattle.rt_packet.specs.declared.answer.replies.Reply.TheVariants as replies
use Rattle.rt_remote.specs.Remote.{RemoteState}
use Rattle.rt_remote.specs.Said.{Said, says_reply, refuses}

-- the ids that were agreed
abbrev pub ids_of : Bool → Ids
ids_of true = Processes
ids_of false = Threads

abbrev pub with_ids : Ids → RemoteState → RemoteState
with_ids ids state = record state { selection = record state.selection { ids = ids } }

-- this is said, and nothing changes
abbrev pub Tells : RemoteState → Said → Said → RemoteState → Type 0
Tells old want said new = (new ≡ old) × (said ≡ want)

-- with this shown task
abbrev pub with_shown : ℕ → RemoteState → RemoteState
with_shown i state = record state { selection = record state.selection { shown = i } }

-- with these tasks to be resumed
abbrev pub with_resumed : Tasks → RemoteState → RemoteState
with_resumed tasks state = record state { selection = record state.selection { resumed = tasks } }

-- `Hg` of all tasks changes nothing
abbrev pub selected : Selected → Tasks → RemoteState → RemoteState
selected Shown All state = state
selected Shown (One i) state = with_shown i state
selected Resumed tasks state = with_resumed tasks state

-- this is done and answered `OK`, where it may be; else it is refused
abbrev pub Does : RemoteState → Bool → RemoteState → Said → RemoteState → Type 0
Does old may next said new = (new ≡ (if may then next else old)) × (said ≡ (if may then says_reply replies.Done else refuses Malformed))
