-- What a sink that gathers has at the end of each thing that is said.
use Rattle.std.specs.Prelude.{◌≡◌, ℕ, ◌^◌, ◌<◌, ◌≤◌, false, List, length, take, Some, Result, Ok, Err}
use Rattle.rt_sink.specs.Seen.{Seen}
use Rattle.rt_sink.specs.declared.sink.DeviceFault.{DeviceFault}
use Rattle.rt_sink.specs.Buffered.{BufferedSink, told}

-- the other sink is open, was told just this text, and has it
pub record HasSaid {S : Type 0} (seen : S → Seen) (text : List ℕ) (out : BufferedSink S) : Type 0 where
  pub is_open : (seen out.inner).failed ≡ false
  pub told_all : told seen out ≡ Some text
  pub arrived : (seen out.inner).contents ≡ Some text

-- the other sink failed within the text: of at most 2^64 bytes it has fewer, as many as the fault says
abbrev pub SaysLess : {S : Type 0} → (S → Seen) → List ℕ → DeviceFault → BufferedSink S → Type 0
SaysLess seen text fault out = length text ≤ 2 ^ 64 → (fault.written < length text) × ((seen out.inner).contents ≡ Some (take fault.written text))

-- all of the text was said, or less
abbrev pub Speaks : {S X : Type 0} → (S → Seen) → List ℕ → Result X DeviceFault → BufferedSink S → Type 0
Speaks seen text (Ok x) out = HasSaid seen text out
Speaks seen text (Err fault) out = SaysLess seen text fault out
