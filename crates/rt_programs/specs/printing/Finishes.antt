-- The end of a run whose text went through a sink that gathers.
use Rattle.std.specs.Prelude.{◌≡◌, ℕ, Result, Ok, Err}
use Rattle.rt_sink.specs.Seen.{Seen}
use Rattle.rt_opening.specs.declared.fault.SimFault.{SimFault}
use Rattle.rt_opening.specs.declared.fault.SimFault.TheVariants.{Device}
use Rattle.rt_sink.specs.Buffered.{BufferedSink, Flushes}
use Rattle.rt_sink.specs.declared.sink.DeviceFault.{DeviceFault}

-- What is answered after the flush: what the input is refused for, whatever the device did; else the device's fault, if it failed.
abbrev pub answer_after : {X : Type 0} → Result ℕ SimFault → Result X DeviceFault → Result X SimFault
answer_after (Ok n) (Ok x) = Ok x
answer_after (Ok n) (Err e) = Err (Device e)
answer_after (Err (Device f)) (Err e) = Err (Device e)
answer_after (Err fault) flushed = Err fault

-- all that was gathered is delivered, whatever was answered before, and a fault of the device counts what really was
abbrev pub Finishes : {S X : Type 0} → (S → Seen) → Result ℕ SimFault → BufferedSink S → Result X SimFault → BufferedSink S → Type 0
Finishes {X = X} seen done old result new = (flushed : Result X DeviceFault) × Flushes seen old flushed new × (result ≡ answer_after done flushed)
