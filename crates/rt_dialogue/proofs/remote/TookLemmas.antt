-- What came of a byte, by what was said to it.
use Rattle.rt_dialogue.proofs.Common.{◌≡◌, inl, inr, ℕ, ◌+◌, ◌≤◌, Bool, true, false, not, List, [], ◌∷◌, ◌++◌, length, length-append, append-nil, append_assoc, Option, Some, Result, Ok, Err, refl, sym, ap, subst, ◌∙◌, arith, Seen, DeviceFault, BufferedSink, Device, DebugFault, Sim, EndsBy, packet_of, Beaten, GoesOn, Interrupted, Begun, Ended, DialogueState, Answers, HasSaid, SaysLess, is_going, Runs, Took}
use Rattle.std.specs.Prelude.{codes, is_some}
use Rattle.std.proofs.lemmas.List.{take-append-le}
use Rattle.rt_packet.specs.Frame.{kept_of}
use Rattle.rt_packet.specs.declared.decoder.Heard.{Heard}
use Rattle.rt_packet.specs.request.Requests.{request_of}
use Rattle.rt_remote.specs.Remote.{RemoteState}
use Rattle.rt_remote.specs.Said.{Said}
use Rattle.rt_remote.specs.Paced.{asks}
use Rattle.rt_remote.specs.Executes.{Executes}
use Rattle.rt_dialogue.specs.remote.Beats.{goes_on, BeatsOf}
use Rattle.rt_dialogue.specs.remote.Packets.{console_packets, answer_packet, packets, last_sent}
use Rattle.rt_dialogue.specs.remote.Dialogue.{Step, frame_behind, unless_ended, may_follow, Serves}
use Rattle.rt_dialogue.specs.remote.Working.Runs.{is_ended}
use Rattle.rt_dialogue.proofs.FaultLemmas.{by_device}

module _ {S : Type 0} (seen : S → Seen) (Does : List ℕ → Step → Type 0) (bytes text : List ℕ) (input : Option (List ℕ)) (new : DialogueState) where
  -- something was said, and nothing else was read
  pub took_said : (said : List ℕ) (out : BufferedSink S) → input ≡ Some bytes → HasSaid seen (text ++ said) out → ((tail : List ℕ) → Does tail (record { text = said; left = tail; state = new; goes = true }))
      → Took seen Does bytes text (Ok true) input out new
  took_said said out unread has does = record { used = []; left = bytes; more = said; parts = refl; unread = unread; said = has; does = does }

  pub took_failing : (said : List ℕ) (out : BufferedSink S) (fault : DeviceFault) (state : DialogueState) → SaysLess seen (text ++ said) fault out
      → Does [] (record { text = said; left = []; state = state; goes = true }) → Took seen Does bytes text (Err (Sim (Device fault))) input out new
  took_failing said out fault state speaks does = inr (record {
    used = [];
    left = bytes;
    parts = refl;
    step = record { text = said; left = []; state = state; goes = true };
    does = does;
    all = λ _. refl;
    by = by_device seen (text ++ said) fault out speaks;
  })

  pub took_at : (result : Result Bool DebugFault) (fault : DebugFault) (out : BufferedSink S) → (e : DebugFault) × (result ≡ Err e) × (e ≡ fault)
      → Took seen Does bytes text (Err fault) input out new → Took seen Does bytes text result input out new
  took_at result fault out is took = subst (λ (r : Result Bool DebugFault). Took seen Does bytes text r input out new) (sym (is.1 ∙ ap Err is.2)) took

pub answers_as : {S : Type 0} (seen : S → Seen) (now : DialogueState) (bytes text : List ℕ) (result : Result Bool DebugFault) (input : Option (List ℕ)) (out : BufferedSink S) (new : DialogueState) (heard same : Heard)
    → heard ≡ same → Took seen (Answers now same) bytes text result input out new → Took seen (Answers now heard) bytes text result input out new
answers_as seen now bytes text result input out new heard same is took = subst (λ (h : Heard). Took seen (Answers now h) bytes text result input out new) (sym is) took

-- nothing of one byte was said
pub took_nothing : {S : Type 0} (seen : S → Seen) (Does : List ℕ → Step → Type 0) (bytes text : List ℕ) (input : Option (List ℕ)) (out : BufferedSink S) (new : DialogueState) (fault : DeviceFault) (b : ℕ)
    → SaysLess seen (text ++ b ∷ []) fault out → Took seen Does bytes text (Err (Sim (Device fault))) input out new
took_nothing seen Does bytes text input out new fault b speaks = inl (λ limit.
    let size : length (text ++ b ∷ []) ≡ length text + 1 = length-append text (b ∷ []) in
    let part = speaks (omega (arith, size, limit)) in
    let low : fault.written ≤ length text = omega (arith, part.0, size) in
    (low, part.1 ∙ ap Some (take-append-le fault.written text (b ∷ []) low)))

unless_is : (beaten : Beaten) (text : List ℕ) → is_ended beaten ≡ false → unless_ended beaten text ≡ text
unless_is GoesOn text is = refl
unless_is Interrupted text is = refl
unless_is Begun text is = refl
unless_is Ended text is = absurd cc

may_is : (beaten : Beaten) (answer : Option (List ℕ)) → is_ended beaten ≡ false → may_follow beaten answer ≡ is_some answer
may_is GoesOn answer is = refl
may_is Interrupted answer is = refl
may_is Begun answer is = refl
may_is Ended answer is = absurd cc

ended_is : (beaten : Beaten) → is_ended beaten ≡ true → beaten ≡ Ended
ended_is GoesOn is = absurd cc
ended_is Interrupted is = absurd cc
ended_is Begun is = absurd cc
ended_is Ended is = refl

not_ended : (beaten : Beaten) → is_ended beaten ≡ false → beaten ≡ Ended → ⊥
not_ended GoesOn is e = absurd cc
not_ended Interrupted is e = absurd cc
not_ended Begun is e = absurd cc
not_ended Ended is e = absurd cc

-- ---- a right packet, whose `+` was said

module _ (now : DialogueState) (said : Said) (session : RemoteState) where
  abbrev InRun : List ℕ → List ℕ → Beaten → List ℕ → Type 0
  InRun = BeatsOf (asks now.session (request_of (kept_of now.frame)))

  abbrev step_of : List ℕ → Beaten → List ℕ → Step
  step_of more beaten left = record {
    text = codes "+" ++ more ++ unless_ended beaten (packets said);
    left = left;
    state = record { frame = frame_behind beaten now.frame; last = last_sent now.last said.answer; session = session };
    goes = may_follow beaten said.answer;
  }

  serves_of : (bytes more : List ℕ) (beaten : Beaten) (left : List ℕ) → InRun bytes more beaten left
      → Executes now.session (request_of (kept_of now.frame)) (not (goes_on beaten)) said session → Serves now bytes (step_of more beaten left)
  serves_of bytes more beaten left beats executes = record {
    beats_text = more;
    beaten = beaten;
    said = said;
    session = session;
    beats = beats;
    executes = executes;
    text = refl;
    state = refl;
    goes = refl;
  }

  module _ {S : Type 0} (seen : S → Seen) (bytes text : List ℕ) (input : Option (List ℕ)) (out : BufferedSink S) where
    ran_as : (ran same : Result Beaten DebugFault) → ran ≡ same → Runs seen InRun bytes (text ++ codes "+") ran input out → Executes now.session (request_of (kept_of now.frame)) (not (is_going ran)) said session
        → Runs seen InRun bytes (text ++ codes "+") same input out × Executes now.session (request_of (kept_of now.frame)) (not (is_going same)) said session
    ran_as ran same is run executes = (
      subst (λ (r : Result Beaten DebugFault). Runs seen InRun bytes (text ++ codes "+") r input out) is run,
      subst (λ (r : Result Beaten DebugFault). Executes now.session (request_of (kept_of now.frame)) (not (is_going r)) said session) is executes,
    )

    -- the run broke off
    pub ran_broke : (ran : Result Beaten DebugFault) (fault : DebugFault) (new : DialogueState) → ran ≡ Err fault → Runs seen InRun bytes (text ++ codes "+") ran input out
        → Executes now.session (request_of (kept_of now.frame)) (not (is_going ran)) said session → Took seen (Serves now) bytes text (Err fault) input out new
    ran_broke ran fault new is went did = let (run, executes) = ran_as ran (Err fault) is went did in inr (record {
      used = run.used;
      left = run.left;
      parts = run.parts;
      step = step_of run.more Ended [];
      does = serves_of run.used run.more Ended [] run.came.1 executes;
      all = λ e. absurd cc;
      by = subst (λ (l : List ℕ). EndsBy seen fault l out.inner) (append_assoc text (codes "+") run.more ∙ ap (λ (l : List ℕ). text ++ l) (sym (append-nil (codes "+" ++ run.more)))) run.came.0;
    })

    -- the input ended in it
    pub ran_ended : (ran : Result Beaten DebugFault) (beaten : Beaten) (new : DialogueState) → ran ≡ Ok beaten → is_ended beaten ≡ true → Runs seen InRun bytes (text ++ codes "+") ran input out
        → Executes now.session (request_of (kept_of now.frame)) (not (is_going ran)) said session → Took seen (Serves now) bytes text (Ok false) input out new
    ran_ended ran beaten new at is went did =
        let (run, executes) = ran_as ran (Ok Ended) (at ∙ ap Ok (ended_is beaten is)) went did in
        let none : run.left ≡ [] = run.came.2 refl in
        let all : run.used ++ [] ≡ bytes = sym (run.parts ∙ ap (λ (l : List ℕ). run.used ++ l) none) in
        record {
          step = step_of run.more Ended [];
          does = serves_of bytes run.more Ended [] (subst (λ (l : List ℕ). InRun l run.more Ended []) all (run.came.3 [] (λ _. refl))) executes;
          ends = refl;
          arrived = run.came.1.arrived ∙ ap Some (append_assoc text (codes "+") run.more ∙ ap (λ (l : List ℕ). text ++ l) (sym (append-nil (codes "+" ++ run.more))));
        }

    module _ (ran : Result Beaten DebugFault) (beaten : Beaten) (at : ran ≡ Ok beaten) (is : is_ended beaten ≡ false) (went : Runs seen InRun bytes (text ++ codes "+") ran input out)
        (did : Executes now.session (request_of (kept_of now.frame)) (not (is_going ran)) said session) (after : BufferedSink S) where
      pub ran_on : Runs seen InRun bytes (text ++ codes "+") (Ok beaten) input out
      ran_on = (ran_as ran (Ok beaten) at went did).0

      abbrev run : Runs seen InRun bytes (text ++ codes "+") (Ok beaten) input out
      run = ran_on

      executes : Executes now.session (request_of (kept_of now.frame)) (not (goes_on beaten)) said session
      executes = (ran_as ran (Ok beaten) at went did).1

      all_text : ((text ++ codes "+") ++ run.more) ++ packets said ≡ text ++ (codes "+" ++ run.more ++ unless_ended beaten (packets said))
      all_text = ap (λ (l : List ℕ). l ++ packets said) (append_assoc text (codes "+") run.more) ∙ append_assoc text (codes "+" ++ run.more) (packets said)
          ∙ ap (λ (l : List ℕ). text ++ (codes "+" ++ run.more ++ l)) (sym (unless_is beaten (packets said) is))

      -- what is answered was said
      pub ran_told : (goes : Bool) (new : DialogueState) → goes ≡ is_some said.answer → new ≡ record { frame = frame_behind beaten now.frame; last = last_sent now.last said.answer; session = session }
          → HasSaid seen (((text ++ codes "+") ++ run.more) ++ packets said) after → Took seen (Serves now) bytes text (Ok goes) input after new
      ran_told true new goes_is new_is has = record {
        used = run.used;
        left = run.left;
        more = codes "+" ++ run.more ++ unless_ended beaten (packets said);
        parts = run.parts;
        unread = run.came.0;
        said = subst (λ (l : List ℕ). HasSaid seen l after) all_text has;
        does = λ tail. record {
          beats_text = run.more;
          beaten = beaten;
          said = said;
          session = session;
          beats = run.came.3 tail (λ e. absurd (not_ended beaten is e));
          executes = executes;
          text = refl;
          state = new_is;
          goes = goes_is ∙ sym (may_is beaten said.answer is);
        };
      }
      ran_told false new goes_is new_is has = record {
        step = step_of run.more beaten run.left;
        does = serves_of bytes run.more beaten run.left (subst (λ (l : List ℕ). InRun l run.more beaten run.left) (sym run.parts) (run.came.3 run.left (λ e. absurd (not_ended beaten is e)))) executes;
        ends = may_is beaten said.answer is ∙ sym goes_is;
        arrived = has.arrived ∙ ap Some all_text;
      }

      -- or not all of it
      pub ran_failing : (fault : DeviceFault) (new : DialogueState) → SaysLess seen (((text ++ codes "+") ++ run.more) ++ packets said) fault after
          → Took seen (Serves now) bytes text (Err (Sim (Device fault))) input after new
      ran_failing fault new speaks = inr (record {
        used = run.used;
        left = run.left;
        parts = run.parts;
        step = step_of run.more beaten [];
        does = serves_of run.used run.more beaten [] (subst (λ (l : List ℕ). InRun l run.more beaten []) (append-nil run.used) (run.came.3 [] (λ _. refl))) executes;
        all = λ _. refl;
        by = subst (λ (l : List ℕ). EndsBy seen (Sim (Device fault)) l after.inner) all_text (by_device seen (((text ++ codes "+") ++ run.more) ++ packets said) fault after speaks);
      })

-- the states between, joined
pub states_join : (now mid behind new : DialogueState) (beaten : Beaten) (answer : Option (List ℕ)) → mid ≡ record now { session = mid.session } → behind ≡ record mid { frame = frame_behind beaten mid.frame }
    → new ≡ record behind { last = last_sent behind.last answer } → new ≡ record { frame = frame_behind beaten now.frame; last = last_sent now.last answer; session = mid.session }
states_join now mid behind new beaten answer first second third =
    third ∙ ap (λ (x : DialogueState). record x { last = last_sent x.last answer })
    (second ∙ ap (λ (x : DialogueState). record x { frame = frame_behind beaten x.frame; session = mid.session }) first)

-- what was told of a request with an answer
pub told_text : (text console bytes answer : List ℕ) (said : Said) → console ≡ said.console → bytes ≡ packet_of answer → Some answer ≡ said.answer → (text ++ console_packets console) ++ bytes ≡ text ++ packets said
told_text text console bytes answer said console_is bytes_is answer_is =
    append_assoc text (console_packets console) bytes ∙ ap (λ (l : List ℕ). text ++ (console_packets l ++ bytes)) console_is
    ∙ ap (λ (l : List ℕ). text ++ (console_packets said.console ++ l)) (bytes_is ∙ ap answer_packet answer_is)

-- the console's text alone
pub told_part : (text console : List ℕ) (said : Said) → console ≡ said.console → (text ++ console_packets console) ++ answer_packet said.answer ≡ text ++ packets said
told_part text console said console_is = append_assoc text (console_packets console) (answer_packet said.answer) ∙ ap (λ (l : List ℕ). text ++ (console_packets l ++ answer_packet said.answer)) console_is
