-- What a wire does while a run asks it.
use Rattle.std.specs.Prelude.{◌≡◌, ℕ, ◌==◌, not, true, false, List, Option, Some, Result, Err}
use Rattle.rt_sink.specs.Seen.{Seen}
use Rattle.rt_sink.specs.declared.sink.DeviceFault.{DeviceFault}
use Rattle.rt_sink.specs.Buffered.{BufferedSink}
use Rattle.rt_opening.specs.declared.fault.SimFault.TheVariants.{Device}
use Rattle.rt_dialogue.specs.declared.fault.DebugFault.{DebugFault}
use Rattle.rt_dialogue.specs.declared.fault.DebugFault.TheVariants.{Sim}
use Rattle.rt_dialogue.specs.declared.remote.beats.Beaten.{Beaten}
use Rattle.rt_dialogue.specs.remote.Beats.{Beats}
use Rattle.rt_dialogue.specs.Saying.{HasSaid}
use Rattle.rt_dialogue.specs.remote.Working.Runs.{is_going, Runs}

-- the bytes of the input that are left, where they are known; the sink; the entries to the next beat, 0 where the run is to pause; and how
-- the last beat was answered
pub record WireState (S : Type 0) : Type 0 where
  pub input : Option (List ℕ)
  pub out : BufferedSink S
  pub left : ℕ
  pub beaten : Result Beaten DebugFault

-- it is to pause exactly where the last beat wasn't answered by going on
abbrev pub IsPaused : {S : Type 0} → WireState S → Type 0
IsPaused wire = (wire.left == 0) ≡ not (is_going wire.beaten)

-- a fault of the device is told only where it failed
abbrev pub HasFailed : {S : Type 0} → (S → Seen) → Result Beaten DebugFault → BufferedSink S → Type 0
HasFailed seen beaten out = (fault : DeviceFault) → beaten ≡ Err (Sim (Device fault)) → (seen out.inner).failed ≡ true

-- once it is to pause it does nothing more
pub record Waits {S : Type 0} (seen : S → Seen) (old new : WireState S) : Type 0 where
  pub rests : is_going old.beaten ≡ false → IsPaused old → new ≡ old
  pub pauses : IsPaused old → IsPaused new
  pub fails : HasFailed seen old.beaten old.out → HasFailed seen new.beaten new.out
  pub runs : (bytes text : List ℕ) → is_going old.beaten ≡ true → IsPaused old → old.input ≡ Some bytes → HasSaid seen text old.out
      → Runs seen Beats bytes text new.beaten new.input new.out

-- whatever came here, comes there
abbrev pub Leads : {S : Type 0} → (S → Seen) → WireState S → WireState S → Type 0
Leads {S} seen old new = (first : WireState S) → Waits seen first old → Waits seen first new
