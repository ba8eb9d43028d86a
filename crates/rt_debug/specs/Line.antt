-- One command line of a session: what it does and answers, and which of that a sink has.
use Rattle.std.specs.Prelude.{◌≡◌, ℕ, Bool, Result, Ok, Err}
use Rattle.rt_sink.specs.Seen.{Seen}
use Rattle.rt_words.specs.Chain.{mapped}
use Rattle.rt_image.specs.SystemFile.{TaskSet}
use Rattle.rt_sink.specs.Sink.{Counts}
use Rattle.rt_sink.specs.declared.sink.DeviceFault.{DeviceFault}
use Rattle.rt_command.specs.declared.command.Command.{Command}
use Rattle.rt_command.specs.declared.command.Command.TheVariants.{Break}
use Rattle.rt_command.specs.declared.refusal.Refusal.{Refusal}
use Rattle.rt_debug.specs.declared.reply.reply.Reply as replies
use Rattle.rt_points.specs.declared.marks.Place.{Place as PlaceStop}
use Rattle.rt_debug.specs.declared.line.Answer.{Answer}
use Rattle.rt_debug.specs.declared.line.Answer.TheVariants.{Reply, Added}
use Rattle.rt_debug.specs.declared.line.Done.{Done}
use Rattle.rt_debug.specs.Stopping.{Stopping, AddsTo}
use Rattle.rt_debug.specs.Answer.{answer_text, after_of}
use Rattle.rt_walk.specs.Position.{WalkState}
use Rattle.rt_debug.specs.Looking.{place_pc}
use Rattle.rt_debug.specs.Session.{Executes}

-- a stop of task i is added at this pc, if there is one
abbrev pub Breaks : {B : Type 0} → (PlaceStop → B) → Stopping B → ℕ → Result ℕ Refusal → Result Answer Refusal → Stopping B → Type 0
Breaks at stops i (Err refusal) answer later = (answer ≡ Err refusal) × (later ≡ stops)
Breaks at stops i (Ok pc) answer later =
    let place : PlaceStop = record { task = i; pc = pc } in
    (added : Result ℕ Refusal) × AddsTo (at place) stops added later × (answer ≡ mapped (λ k. Added k place) added)

-- A line that is a command is executed, and a `break` adds its stop; any other is refused, and nothing has changed. Memory may run out
-- for a `back` and for a `break`, and for nothing else.
abbrev pub Obeys : {B : Type 0} → (PlaceStop → B) → (B → ℕ → ℕ → Bool) → TaskSet → WalkState → Stopping B → Result Command Refusal → Result Answer Refusal → WalkState → Stopping B → Type 0
Obeys at meets set old stops (Err refusal) answer new later = (answer ≡ Err refusal) × (new ≡ old) × (later ≡ stops)
Obeys at meets set old stops (Ok (Break i place)) answer new later = (new ≡ old) × Breaks at stops i (place_pc set old.shown.machine i place) answer later
Obeys at meets set old stops (Ok command) answer new later = (result : Result replies.Reply Refusal) × Executes meets set old stops command result new later × (answer ≡ mapped Reply result)

-- the text of an answer was written, or as much of it as the fault says; and what is to follow
abbrev pub Tells : {S : Type 0} → (S → Seen) → S → Result Answer Refusal → Result Done DeviceFault → S → Type 0
Tells seen old answer (Ok done) new = Counts seen old (answer_text answer) (Ok done.written) new × (done.after ≡ after_of answer)
Tells seen old answer (Err fault) new = Counts seen old (answer_text answer) (Err fault) new
