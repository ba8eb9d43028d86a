-- What a text that was printed of a file leaves at a sink that had taken nothing.
use Rattle.std.specs.Prelude.{◌≡◌, ℕ, ◌^◌, ◌<◌, List, [], length, take, true, false, Option, Some, None, Result, Ok, Err}
use Rattle.rt_sink.specs.Seen.{Seen}
use Rattle.rt_sink.specs.declared.sink.DeviceFault.{DeviceFault}
use Rattle.rt_opening.specs.declared.fault.SimFault.{SimFault}
use Rattle.rt_opening.specs.declared.fault.SimFault.TheVariants.{Memory, Device}

-- the first bytes of a text have arrived at a sink: all of them, unless it has failed
pub record HasArrived {S : Type 0} (seen : S → Seen) (text : List ℕ) (sink : S) : Type 0 where
  pub whole : (seen sink).failed ≡ false → (seen sink).contents ≡ Some text
  pub first : (n : ℕ) × ((seen sink).contents ≡ Some (take n text))

-- All of a text has arrived at a sink; or the sink failed within it, and of a text below 2^64 bytes so many of its first bytes have
-- arrived as the fault says.
abbrev pub IsDelivered : {S X : Type 0} → (S → Seen) → List ℕ → Result X DeviceFault → S → Type 0
IsDelivered seen text (Ok x) sink = (seen sink).contents ≡ Some text
IsDelivered seen text (Err fault) sink =
    ((seen sink).failed ≡ true) × (fault.written < length text) × (length text < 2 ^ 64 → (seen sink).contents ≡ Some (take fault.written text))

-- `Means` says what the file means: a text, and a refusal or none. Where there is none, the text is delivered, or the device failed
-- within it. A refusal is answered whether the text beside it has arrived or met a device that failed. Where there is no memory,
-- nothing has arrived.
abbrev pub Prints : {S X : Type 0} → (S → Seen) → (List ℕ → Option SimFault → Type 0) → Result X SimFault → S → Type 0
Prints seen Means (Ok x) sink = (text : List ℕ) × Means text None × ((seen sink).contents ≡ Some text)
Prints {X = X} seen Means (Err (Device fault)) sink = (text : List ℕ) × Means text None × IsDelivered {X = X} seen text (Err fault) sink
Prints seen Means (Err Memory) sink = (seen sink).contents ≡ Some []
Prints seen Means (Err fault) sink = (text : List ℕ) × Means text (Some fault) × HasArrived seen text sink
