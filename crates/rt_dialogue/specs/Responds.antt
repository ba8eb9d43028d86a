-- What came of one part of an input that a session responded to.
use Rattle.std.specs.Prelude.{◌≡◌, ℕ, Bool, true, false, List, ◌++◌, Option, Some, Result, Ok, Err}
use Rattle.rt_sink.specs.Seen.{Seen}
use Rattle.rt_sink.specs.Buffered.{BufferedSink}
use Rattle.rt_dialogue.specs.declared.fault.DebugFault.{DebugFault}
use Rattle.rt_dialogue.specs.Conversed.{EndsBy}
use Rattle.rt_dialogue.specs.Saying.{HasSaid}

-- More was said behind a text, and the session goes on: what it says later to the bytes that are left, comes behind that. `Says` is
-- what it says to all bytes of the input, or to the first of them.
pub record GoesOn {S : Type 0} (seen : S → Seen) (Says : List ℕ → Bool → Type 0) (text : List ℕ) (input : Option (List ℕ)) (out : BufferedSink S)
    (Later : List ℕ → List ℕ → Bool → Type 0) : Type 0 where
  pub left : List ℕ
  pub more : List ℕ
  pub unread : input ≡ Some left
  pub said : HasSaid seen (text ++ more) out
  pub leads : (rest : List ℕ) (is_all : Bool) → Later left rest is_all → Says (more ++ rest) is_all

-- the session goes on, came to its end, or ended early
abbrev pub Responds : {S : Type 0} → (S → Seen) → (List ℕ → Bool → Type 0) → List ℕ → Result Bool DebugFault → Option (List ℕ) → BufferedSink S
    → (List ℕ → List ℕ → Bool → Type 0) → Type 0
Responds seen Says text (Ok true) input out Later = GoesOn seen Says text input out Later
Responds seen Says text (Ok false) input out Later = (more : List ℕ) × Says more true × ((seen out.inner).contents ≡ Some (text ++ more))
Responds seen Says text (Err fault) input out Later = (more : List ℕ) × Says more false × EndsBy seen fault (text ++ more) out.inner
