-- The answers of a session to the lines of an input, and which of them a sink has.
use Rattle.std.specs.Prelude.{◌≡◌, ℕ, zero, suc, ◌<◌, Bool, true, List, [], ◌++◌, length, Result}
use Rattle.std.specs.Io.BufRead.{first_line, drop_through}
use Rattle.rt_sink.specs.Seen.{Seen}
use Rattle.rt_admit.specs.declared.admission.Admission.{Admission}
use Rattle.rt_image.specs.SystemFile.{TaskSet}
use Rattle.rt_history.specs.MachineState.{MachineState}
use Rattle.rt_command.specs.CommandLine.{command_of}
use Rattle.rt_command.specs.declared.refusal.Refusal.{Refusal}
use Rattle.rt_debug.specs.declared.line.Answer.{Answer}
use Rattle.rt_debug.specs.declared.line.After.{After}
use Rattle.rt_debug.specs.declared.line.After.TheVariants.{NextLine, End}
use Rattle.rt_points.specs.declared.marks.Place.{Place as PlaceStop}
use Rattle.rt_debug.specs.Stopping.{Stopping, no_stopping}
use Rattle.rt_debug.specs.PlaceStop.{is_at}
use Rattle.rt_walk.specs.Position.{WalkState}
use Rattle.rt_debug.specs.Answer.{answer_text, after_of}
use Rattle.rt_debug.specs.Line.{Obeys}
use Rattle.rt_debug.specs.Talk.{fresh}
use Rattle.rt_dialogue.specs.declared.fault.DebugFault.{DebugFault}
use Rattle.rt_dialogue.specs.Conversed.{Ends, Comes}

-- what holds at the end, or at the next line
abbrev pub Next : After → Type 0 → Type 0 → Type 0
Next End end more = end
Next NextLine end more = more

-- What a session says to the first lines of an input, so many of them: a line's answer, and then what it says to those behind it.
-- Nothing follows `quit`. Where this is all, no line is left.
abbrev pub Talks : TaskSet → WalkState → Stopping PlaceStop → List ℕ → ℕ → List ℕ → Bool → Type 0
Talks set old stops bytes zero text is_all = (text ≡ []) × (is_all ≡ true → bytes ≡ [])
Talks set old stops bytes (suc lines) text is_all =
    (0 < length bytes) × (answer : Result Answer Refusal) × (new : WalkState) × (later : Stopping PlaceStop) × (rest : List ℕ)
    × Obeys (λ place. place) is_at set old stops (command_of (first_line bytes)) answer new later × (text ≡ answer_text answer ++ rest)
    × Next (after_of answer) ((rest ≡ []) × (lines ≡ 0)) (Talks set new later (drop_through 10 bytes) lines rest is_all)

-- a session of a machine says this to the lines of an input: to all, or to the first of them
abbrev pub Replies : TaskSet → MachineState → List ℕ → List ℕ → Bool → Type 0
Replies set machine bytes text is_all = (lines : ℕ) × Talks set (fresh machine) no_stopping bytes lines text is_all

-- what came of a session of a machine on the bytes of an input
abbrev pub Converses : {S : Type 0} → (S → Seen) → TaskSet → MachineState → List ℕ → Result (Unit {0}) DebugFault → S → Type 0
Converses seen set machine bytes result sink = Ends seen (Replies set machine bytes) result sink

-- what came of a session on the bytes of a file and of an input, and of a sink that had taken nothing
abbrev pub Debugs : {S : Type 0} → (S → Seen) → List ℕ → Admission → List ℕ → Result (Unit {0}) DebugFault → S → Type 0
Debugs seen file admission bytes result sink = Comes seen (λ set machine. Replies set machine bytes) file admission result sink
