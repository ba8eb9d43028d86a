-- The requests that ask the pace of a run.
use Rattle.std.specs.Prelude.{if◌then◌else◌, Bool, true, false}
use Rattle.rt_packet.specs.declared.request.request.Request.{Request}
use Rattle.rt_packet.specs.declared.request.request.Request.TheVariants as requests
use Rattle.rt_remote.specs.Remote.{RemoteState}

-- those that go on or back to a stop; one instruction back asks none
abbrev pub is_paced : Request → Bool
is_paced (requests.Resume actions) = true
is_paced requests.Continue = true
is_paced requests.Step = true
is_paced requests.BackContinue = true
is_paced request = false

-- but where an interrupt is kept, none does
abbrev pub asks : RemoteState → Request → Bool
asks state request = if state.has_interrupt then false else is_paced request
