-- What came of one byte, and of the bytes that were read in the middle of its run.
use Rattle.std.specs.Prelude.{◌≡◌, ◌⊎◌, ℕ, Bool, true, false, List, [], ◌++◌, Option, Some, Result, Ok, Err}
use Rattle.rt_sink.specs.Seen.{Seen}
use Rattle.rt_sink.specs.Buffered.{BufferedSink}
use Rattle.rt_dialogue.specs.declared.fault.DebugFault.{DebugFault}
use Rattle.rt_dialogue.specs.Conversed.{EndsBy}
use Rattle.rt_dialogue.specs.remote.Dialogue.{DialogueState, Step}
use Rattle.rt_dialogue.specs.Saying.{HasSaid}

-- these bytes were used, and the session goes on, whatever comes behind them
pub record Went {S : Type 0} (seen : S → Seen) (Does : List ℕ → Step → Type 0) (bytes text : List ℕ) (input : Option (List ℕ)) (out : BufferedSink S)
    (new : DialogueState) : Type 0 where
  pub used : List ℕ
  pub left : List ℕ
  pub more : List ℕ
  pub parts : bytes ≡ used ++ left
  pub unread : input ≡ Some left
  pub said : HasSaid seen (text ++ more) out
  pub does : (tail : List ℕ) → Does (used ++ tail) (record { text = more; left = tail; state = new; goes = true })

-- the session has ended
pub record Ended {S : Type 0} (seen : S → Seen) (Does : List ℕ → Step → Type 0) (bytes text : List ℕ) (out : BufferedSink S) : Type 0 where
  pub step : Step
  pub does : Does bytes step
  pub ends : step.goes ≡ false
  pub arrived : (seen out.inner).contents ≡ Some (text ++ step.text)

-- it failed within what is said to these bytes, as if the input ended there
pub record Broke {S : Type 0} (seen : S → Seen) (Does : List ℕ → Step → Type 0) (bytes text : List ℕ) (fault : DebugFault) (out : BufferedSink S) : Type 0 where
  pub used : List ℕ
  pub left : List ℕ
  pub parts : bytes ≡ used ++ left
  pub step : Step
  pub does : Does used step
  pub all : step.goes ≡ true → step.left ≡ []
  pub by : EndsBy seen fault (text ++ step.text) out.inner

-- of these bytes, behind a text: it goes on; has ended; or failed, perhaps before anything of it was said
abbrev pub Took : {S : Type 0} → (S → Seen) → (List ℕ → Step → Type 0) → List ℕ → List ℕ → Result Bool DebugFault → Option (List ℕ) → BufferedSink S → DialogueState → Type 0
Took seen Does bytes text (Ok true) input out new = Went seen Does bytes text input out new
Took seen Does bytes text (Ok false) input out new = Ended seen Does bytes text out
Took seen Does bytes text (Err fault) input out new = EndsBy seen fault text out.inner ⊎ Broke seen Does bytes text fault out
