-- How a program that writes a text ends: its answer, and what it does to a sink.
use Rattle.std.specs.Prelude.{◌≡◌, ℕ, List, [], length, Option, Some, None, Result, Ok, Err}
use Rattle.rt_sink.specs.Seen.{Seen}
use Rattle.rt_sink.specs.Sink.{Took, TookFirst, Writes}
use Rattle.rt_sink.specs.declared.sink.DeviceFault.{DeviceFault}
use Rattle.rt_opening.specs.declared.fault.SimFault.{SimFault}
use Rattle.rt_opening.specs.declared.fault.SimFault.TheVariants.{Memory, Device}

-- `Means` says what its input means: a text, or a refusal. The sink took the whole text, and its length is the answer; or it
-- failed, and took the first bytes, as many as the fault says; or there is a refusal or no memory, and it took nothing.
abbrev pub Ends : {S : Type 0} → (S → Seen) → (Result (List ℕ) SimFault → Type 0) → S → Result ℕ SimFault → S → Type 0
Ends seen Means old (Ok count) new = (text : List ℕ) × Means (Ok text) × Took seen old text new × (count ≡ length text)
Ends seen Means old (Err (Device fault)) new = (text : List ℕ) × Means (Ok text) × TookFirst seen old text fault.written new
Ends seen Means old (Err Memory) new = new ≡ old
Ends seen Means old (Err fault) new = Means (Err fault) × (new ≡ old)

-- what a program answers whose text was written
abbrev pub answer_of : Result ℕ DeviceFault → Result ℕ SimFault
answer_of (Ok length) = Ok length
answer_of (Err fault) = Err (Device fault)

-- a text was told beside a refusal: all of it, or what of it a sink took before it failed; of an empty one nothing
abbrev pub IsTold : {S : Type 0} → (S → Seen) → S → List ℕ → S → Type 0
IsTold seen old text new = (told : Result (Unit {0}) DeviceFault) × Writes seen old text told new × (text ≡ [] → new ≡ old)

-- The same of a program that tells a text with a refusal too. `Means` says what its input means: a text, and a refusal or none. Where
-- there is none, the sink took the whole text, and its length is the answer; or it failed, and took the first bytes. A refusal is the
-- answer whether the sink took the whole text beside it or failed within it. Where that text is empty, or there is no memory, it took
-- nothing.
abbrev pub EndsTelling : {S : Type 0} → (S → Seen) → (List ℕ → Option SimFault → Type 0) → S → Result ℕ SimFault → S → Type 0
EndsTelling seen Means old (Ok count) new = (text : List ℕ) × Means text None × Took seen old text new × (count ≡ length text)
EndsTelling seen Means old (Err (Device fault)) new =
    (text : List ℕ) × Means text None × TookFirst seen old text fault.written new
EndsTelling seen Means old (Err Memory) new = new ≡ old
EndsTelling seen Means old (Err fault) new =
    (text : List ℕ) × Means text (Some fault) × IsTold seen old text new

-- what an input means that has a text or a refusal, and never both
abbrev pub Apart : (Result (List ℕ) SimFault → Type 0) → List ℕ → Option SimFault → Type 0
Apart Means text None = Means (Ok text)
Apart Means text (Some fault) = Means (Err fault) × (text ≡ [])
