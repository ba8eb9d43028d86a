-- A whole session: requests, one after the other.
use Rattle.std.specs.Prelude.{◌≡◌, Bool, true, false, List, [], ◌∷◌}
use Rattle.rt_packet.specs.declared.request.request.Request.{Request}
use Rattle.rt_remote.specs.Remote.{RemoteState, with_interrupt}
use Rattle.rt_remote.specs.Said.{Said}
use Rattle.rt_remote.specs.Executes.{Executes}

-- with an interrupt that has come, or as it is
abbrev pub interrupted_if : Bool → RemoteState → RemoteState
interrupted_if true state = with_interrupt state
interrupted_if false state = state

-- one request after the other, whatever is said to each, wherever each was interrupted, and whether or not an interrupt came before it
abbrev pub Talks : RemoteState → List Request → RemoteState → Type 0
Talks old [] new = new ≡ old
Talks old (request ∷ requests) new =
    (came : Bool) × (paused : Bool) × (said : Said) × (mid : RemoteState) × Executes (interrupted_if came old) request paused said mid × Talks mid requests new
