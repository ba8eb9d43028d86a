-- What was read and said in beats.
use Rattle.std.specs.Prelude.{◌≡◌, ℕ, Bool, true, false, List, [], ◌++◌, Option, Some, Result, Ok, Err}
use Rattle.rt_sink.specs.Seen.{Seen}
use Rattle.rt_sink.specs.Buffered.{BufferedSink}
use Rattle.rt_dialogue.specs.declared.fault.DebugFault.{DebugFault}
use Rattle.rt_dialogue.specs.Conversed.{EndsBy}
use Rattle.rt_dialogue.specs.declared.remote.beats.Beaten.{Beaten}
use Rattle.rt_dialogue.specs.declared.remote.beats.Beaten.TheVariants.{Ended}
use Rattle.rt_dialogue.specs.remote.Beats.{beat, answer_to_beat, goes_on}
use Rattle.rt_dialogue.specs.Saying.{HasSaid}

-- one beat: what is said, how these bytes answer it, and those that are left
abbrev pub OneBeat : List ℕ → List ℕ → Beaten → List ℕ → Type 0
OneBeat bytes text beaten left = (text ≡ beat ++ (answer_to_beat bytes).said) × ((answer_to_beat bytes).beaten ≡ beaten) × ((answer_to_beat bytes).left ≡ left)

-- whether a run goes on, which no failure lets it
abbrev pub is_going : Result Beaten DebugFault → Bool
is_going (Ok beaten) = goes_on beaten
is_going (Err fault) = false

-- These bytes were used, and this was said to them, behind a text: whatever comes behind them, where the input didn't end there; or as
-- if it ended there, where the sink or the input failed.
abbrev pub Used : {S : Type 0} → (S → Seen) → (List ℕ → List ℕ → Beaten → List ℕ → Type 0) → List ℕ → List ℕ → List ℕ → List ℕ
    → Result Beaten DebugFault → Option (List ℕ) → BufferedSink S → Type 0
Used seen Says used left text more (Ok beaten) input out =
    (input ≡ Some left) × HasSaid seen (text ++ more) out × (beaten ≡ Ended → left ≡ [])
    × ((tail : List ℕ) → (beaten ≡ Ended → tail ≡ []) → Says (used ++ tail) more beaten tail)
Used seen Says used left text more (Err fault) input out = EndsBy seen fault (text ++ more) out.inner × Says used more Ended []

pub record Runs {S : Type 0} (seen : S → Seen) (Says : List ℕ → List ℕ → Beaten → List ℕ → Type 0) (bytes text : List ℕ)
    (beaten : Result Beaten DebugFault) (input : Option (List ℕ)) (out : BufferedSink S) : Type 0 where
  pub used : List ℕ
  pub left : List ℕ
  pub more : List ℕ
  pub parts : bytes ≡ used ++ left
  pub came : Used seen Says used left text more beaten input out

abbrev pub is_ended : Beaten → Bool
is_ended Ended = true
is_ended beaten = false
