-- A program ends as its contract says once its text was written, and where its set isn't loaded.
use Rattle.std.proofs.Common.{◌≡◌, ℕ, List, Result, Ok, Err, sym, subst}
use Rattle.rt_sink.specs.Seen.{Seen}
use Rattle.rt_sink.specs.Sink.{Counts}
use Rattle.rt_sink.specs.declared.sink.DeviceFault.{DeviceFault}
use Rattle.rt_opening.specs.Ends.{Ends, answer_of}
use Rattle.rt_opening.specs.declared.fault.SimFault.{SimFault}

module _ {S : Type 0} (seen : S → Seen) (Means : Result (List ℕ) SimFault → Type 0) (old new : S) (text : List ℕ) where
  ends : (written : Result ℕ DeviceFault) → Means (Ok text) → Counts seen old text written new → Ends seen Means old (answer_of written) new
  ends (Ok length) means took = (text, means, took.1, took.0)
  ends (Err fault) means took = (text, means, took)

  pub ends-written : (written : Result ℕ DeviceFault) (result : Result ℕ SimFault) → result ≡ answer_of written → Means (Ok text) → Counts seen old text written new
      → Ends seen Means old result new
  ends-written written result is means took = subst (λ (r : Result ℕ SimFault). Ends seen Means old r new) (sym is) (ends written means took)
