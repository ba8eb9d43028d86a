-- What is said and read in the middle of a run, so that gdb may interrupt it.
use Rattle.std.specs.Prelude.{◌≡◌, ℕ, zero, suc, ◌==◌, if◌then◌else◌, Bool, true, false, List, [], ◌∷◌, ◌++◌, codes, Option, Some, None}
use Rattle.std.specs.Str.{byte}
use Rattle.rt_packet.specs.Packet.{dollar, minus, interrupt, packet_of}
use Rattle.rt_dialogue.specs.declared.remote.beats.Beaten.{Beaten}
use Rattle.rt_dialogue.specs.declared.remote.beats.Beaten.TheVariants.{GoesOn, Interrupted, Begun, Ended}

-- an empty text on the console, which shows nothing, and which gdb acknowledges
abbrev pub beat : List ℕ
beat = packet_of (codes "O")

-- how one byte answers a beat, if it does
abbrev pub beaten_by : ℕ → Option Beaten
beaten_by b =
    if b == byte "+" then Some GoesOn else (if b == interrupt then Some Interrupted else (if b == dollar then Some Begun else None))

-- what is said to a byte that doesn't: `-` asks for the beat again, and every other one is dropped
abbrev pub said_to : ℕ → List ℕ
said_to b = if b == minus then beat else []

-- how bytes answer a beat, what is said to those before the answer, and the bytes behind it
pub record BeatAnswer : Type 0 where
  pub beaten : Beaten
  pub said : List ℕ
  pub left : List ℕ

abbrev pub answered_by : Option Beaten → ℕ → List ℕ → BeatAnswer → BeatAnswer
answered_by (Some beaten) b bytes later = record { beaten = beaten; said = []; left = bytes }
answered_by None b bytes later = record later { said = said_to b ++ later.said }

abbrev pub answer_to_beat : List ℕ → BeatAnswer
answer_to_beat [] = record { beaten = Ended; said = []; left = [] }
answer_to_beat (b ∷ bytes) = answered_by (beaten_by b) b bytes (answer_to_beat bytes)

-- what holds where a run goes on behind a beat, and where it doesn't
abbrev pub Behind : Beaten → Type 0 → Type 0 → Type 0
Behind GoesOn on paused = on
Behind beaten on paused = paused

abbrev pub goes_on : Beaten → Bool
goes_on GoesOn = true
goes_on beaten = false

-- so many beats, each but the last of which is answered by going on
abbrev pub ManyBeats : ℕ → List ℕ → List ℕ → Beaten → List ℕ → Type 0
ManyBeats zero bytes text beaten left = (text ≡ []) × (beaten ≡ GoesOn) × (left ≡ bytes)
ManyBeats (suc n) bytes text beaten left =
    let answer = answer_to_beat bytes in
    (more : List ℕ) × (text ≡ beat ++ (answer.said ++ more))
    × Behind answer.beaten (ManyBeats n answer.left more beaten left) ((n ≡ 0) × (more ≡ []) × (beaten ≡ answer.beaten) × (left ≡ answer.left))

-- the beats of a run: what is said, how the last one is answered, and the bytes behind
abbrev pub Beats : List ℕ → List ℕ → Beaten → List ℕ → Type 0
Beats bytes text beaten left = (count : ℕ) × ManyBeats count bytes text beaten left

-- the beats of a request, which says none unless it is a run
abbrev pub BeatsOf : Bool → List ℕ → List ℕ → Beaten → List ℕ → Type 0
BeatsOf true = Beats
BeatsOf false = λ bytes text beaten left. (text ≡ []) × (beaten ≡ GoesOn) × (left ≡ bytes)
