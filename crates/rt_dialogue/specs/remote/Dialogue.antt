-- What a session says to the bytes of an input.
use Rattle.std.specs.Prelude.{◌≡◌, ℕ, zero, suc, not, Bool, true, false, List, [], ◌∷◌, ◌++◌, codes, is_some, Option, Some, None, Result}
use Rattle.rt_sink.specs.Seen.{Seen}
use Rattle.rt_admit.specs.declared.admission.Admission.{Admission}
use Rattle.rt_image.specs.SystemFile.{TaskSet}
use Rattle.rt_names.specs.TaskNames.{task_names}
use Rattle.rt_history.specs.MachineState.{MachineState}
use Rattle.rt_dialogue.specs.declared.fault.DebugFault.{DebugFault}
use Rattle.rt_dialogue.specs.Conversed.{Comes}
use Rattle.rt_packet.specs.Packet.{packet_of}
use Rattle.rt_packet.specs.Frame.{Frame, Outside, begun, hears, kept_of}
use Rattle.rt_packet.specs.declared.decoder.Heard.{Heard}
use Rattle.rt_packet.specs.declared.decoder.Heard.TheVariants.{Nothing, Right, TooLong, Wrong, Again, Interrupt}
use Rattle.rt_packet.specs.request.Requests.{request_of}
use Rattle.rt_remote.specs.Remote.{RemoteState, opening, with_interrupt}
use Rattle.rt_remote.specs.Said.{Said}
use Rattle.rt_remote.specs.Paced.{asks}
use Rattle.rt_remote.specs.Executes.{Executes}
use Rattle.rt_dialogue.specs.declared.remote.beats.Beaten.{Beaten}
use Rattle.rt_dialogue.specs.declared.remote.beats.Beaten.TheVariants.{Begun, Ended}
use Rattle.rt_dialogue.specs.remote.Beats.{goes_on, BeatsOf}
use Rattle.rt_dialogue.specs.remote.Packets.{packets, last_sent, again}

-- what was heard of a packet, the last packet that was sent, and the session
pub record DialogueState : Type 0 where
  pub frame : Frame
  pub last : Option (List ℕ)
  pub session : RemoteState

-- at the begin, on a machine of these tasks
abbrev pub started : TaskSet → MachineState → DialogueState
started set machine = record { frame = Outside []; last = None; session = opening (task_names set) machine }

-- what came of a byte: what was said, the bytes of the input that are left, how the session stands, and whether it goes on
pub record Step : Type 0 where
  pub text : List ℕ
  pub left : List ℕ
  pub state : DialogueState
  pub goes : Bool

-- this is said, and nothing else of the input is read
abbrev pub says : List ℕ → List ℕ → DialogueState → Step
says text bytes state = record { text = text; left = bytes; state = state; goes = true }

-- within a packet that began in the middle of a run, or outside
abbrev pub frame_behind : Beaten → Frame → Frame
frame_behind Begun frame = begun
frame_behind beaten frame = frame

-- nothing more is said where the input ended in the middle of a run
abbrev pub unless_ended : Beaten → List ℕ → List ℕ
unless_ended Ended text = []
unless_ended beaten text = text

-- whether anything may follow: not behind the end of the input, nor behind a request without an answer
abbrev pub may_follow : Beaten → Option (List ℕ) → Bool
may_follow Ended answer = false
may_follow beaten answer = is_some answer

-- A right packet: it is acknowledged, and then its request is executed. In a run beats are sent and answered meanwhile; it is paused
-- exactly where one isn't answered by going on. Then what is said to the request.
pub record Serves (now : DialogueState) (bytes : List ℕ) (step : Step) : Type 0 where
  pub beats_text : List ℕ
  pub beaten : Beaten
  pub said : Said
  pub session : RemoteState
  pub beats : BeatsOf (asks now.session (request_of (kept_of now.frame))) bytes beats_text beaten step.left
  pub executes : Executes now.session (request_of (kept_of now.frame)) (not (goes_on beaten)) said session
  pub text : step.text ≡ codes "+" ++ beats_text ++ unless_ended beaten (packets said)
  pub state : step.state ≡ record { frame = frame_behind beaten now.frame; last = last_sent now.last said.answer; session = session }
  pub goes : step.goes ≡ may_follow beaten said.answer

-- What came of a byte that completed this, and left the frame so. A payload that is too long is answered as an unknown request. To an
-- interrupt nothing is said: it is kept.
abbrev pub Answers : DialogueState → Heard → List ℕ → Step → Type 0
Answers now Nothing bytes step = step ≡ says [] bytes now
Answers now Again bytes step = step ≡ says (again now.last) bytes now
Answers now Wrong bytes step = step ≡ says (codes "-") bytes now
Answers now TooLong bytes step = step ≡ says (codes "+" ++ packet_of []) bytes (record now { last = Some (packet_of []) })
Answers now Interrupt bytes step = step ≡ says [] bytes (record now { session = with_interrupt now.session })
Answers now Right bytes step = Serves now bytes step

-- the next byte of an input
abbrev pub Hears : DialogueState → ℕ → List ℕ → Step → Type 0
Hears old b bytes step = let heard = hears old.frame b in Answers (record old { frame = heard.0 }) heard.1 bytes step

-- what holds where a session goes on, or ends
abbrev pub Next : Bool → Type 0 → Type 0 → Type 0
Next true more end = more
Next false more end = end

-- what a session says to all bytes of an input, in so many steps: to the first of them, and then to those that are left
abbrev pub Talks : DialogueState → List ℕ → ℕ → List ℕ → Type 0
Talks old bytes zero text = (text ≡ []) × (bytes ≡ [])
Talks old [] (suc steps) text = ⊥
Talks old (b ∷ bytes) (suc steps) text =
    (step : Step) × (rest : List ℕ) × Hears old b bytes step × (text ≡ step.text ++ rest)
    × Next step.goes (Talks step.state step.left steps rest) ((rest ≡ []) × (steps ≡ 0))

abbrev pub RepliesToAll : DialogueState → List ℕ → List ℕ → Type 0
RepliesToAll now bytes text = (steps : ℕ) × Talks now bytes steps text

-- a session says this to the bytes of an input: to all of them, or to the first of them as if the input ended there
abbrev pub RepliesFrom : DialogueState → List ℕ → List ℕ → Bool → Type 0
RepliesFrom now bytes text true = RepliesToAll now bytes text
RepliesFrom now bytes text false = (first : List ℕ) × (left : List ℕ) × (bytes ≡ first ++ left) × RepliesToAll now first text

-- the same of a session of a machine, from its begin
abbrev pub Replies : TaskSet → MachineState → List ℕ → List ℕ → Bool → Type 0
Replies set machine = RepliesFrom (started set machine)

-- what came of a session on the bytes of a file and of an input, and of a sink that had taken nothing
abbrev pub DebugsRemotely : {S : Type 0} → (S → Seen) → List ℕ → Admission → List ℕ → Result (Unit {0}) DebugFault → S → Type 0
DebugsRemotely seen file admission bytes result sink = Comes seen (λ set machine. Replies set machine bytes) file admission result sink
