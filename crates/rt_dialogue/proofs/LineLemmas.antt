-- A session answers one line more.
use Rattle.rt_dialogue.proofs.Common.{◌≡◌, ℕ, suc, ◌<◌, Bool, true, false, true≢false, ltb, List, [], ◌∷◌, ◌++◌, length, append-nil, Option, Result, Ok, Err, refl, sym, ap, subst, ◌∙◌, inl, inr, arith, Seen, DeviceFault, BufferedSink, Flushes, TaskSet, HasSaid, Speaks, IsNext, SaysOn}
use Rattle.std.proofs.Common.{◌≢◌, lt-ltb, nat_lt, cond}
use Rattle.std.specs.Prelude.{IsOkAnd}
use Rattle.std.proofs.lemmas.Bool.{cases_lt, ltb-true, ltb-false}
use Rattle.std.specs.Io.BufRead.{first_line, drop_through}
use Rattle.rt_sink.specs.Buffered.{gathering}
use Rattle.rt_history.specs.MachineState.{MachineState}
use Rattle.rt_command.specs.CommandLine.{command_of, in_words, words, or_unknown}
use Rattle.rt_command.specs.declared.command.Command.{Command}
use Rattle.rt_command.specs.declared.refusal.Refusal.{Refusal}
use Rattle.rt_command.specs.declared.refusal.Refusal.TheVariants.{UnknownCommand}
use Rattle.rt_points.specs.declared.marks.Place.{Place as PlaceStop}
use Rattle.rt_debug.specs.declared.line.Answer.{Answer}
use Rattle.rt_debug.specs.declared.line.After.{After}
use Rattle.rt_debug.specs.declared.line.After.TheVariants.{NextLine, End}
use Rattle.rt_debug.specs.declared.line.Done.{Done}
use Rattle.rt_debug.specs.declared.stops.AnyStop.{AnyStop}
use Rattle.rt_debug.specs.declared.stops.AnyStop.TheVariants.{Place}
use Rattle.rt_points.specs.declared.events.Events.{Events}
use Rattle.rt_points.specs.Events.{no_events}
use Rattle.rt_debug.specs.StopSlots.{meets_of}
use Rattle.rt_debug.specs.Stopping.{Stopping, stopping, no_stopping}
use Rattle.rt_debug.specs.Answer.{answer_text, after_of}
use Rattle.rt_debug.specs.Line.{Obeys, Tells}
use Rattle.rt_debug.specs.Talk.{fresh}
use Rattle.rt_walk.specs.Position.{PositionState, WalkState}
use Rattle.rt_dialogue.specs.Dialogue.{Next, Talks, Replies}
use Rattle.rt_dialogue.specs.Working.Places.{placed}
use Rattle.rt_dialogue.proofs.PlacedLemmas.{same_obey}
use Rattle.rt_dialogue.proofs.SayLemmas.{spoken}

-- what is kept of a line means what the line means
same_command : (bytes line : List ℕ) (is_there : Bool) → IsNext bytes line is_there → command_of line ≡ command_of (first_line bytes)
same_command bytes line is_there next = elim (cases_lt 512 (length (first_line bytes))) [
  | inl over ↦
      let long : ltb 512 (length (first_line bytes)) ≡ true = lt-ltb 512 (length (first_line bytes)) over in
      let kept : ltb 512 (length line) ≡ true = lt-ltb 512 (length line) (next.long over) in
      unknown line kept ∙ sym (unknown (first_line bytes) long)
  | inr within ↦ ap command_of (next.whole within)
]
  where
    unknown : (l : List ℕ) → ltb 512 (length l) ≡ true → command_of l ≡ Err UnknownCommand
    unknown l is = ap (λ (b : Bool). cond b (Err UnknownCommand) (or_unknown (in_words (words l)))) is

some_there : (is_there : Bool) → is_there ≡ true → (n : ℕ) → is_there ≡ nat_lt 0 n → 0 < n
some_there true some n is = ltb-true 0 n (sym is)
some_there false some n is = absurd cc

-- the input has ended
pub none_there : (is_there : Bool) → is_there ≡ false → (bytes : List ℕ) → is_there ≡ nat_lt 0 (length bytes) → bytes ≡ []
none_there true none bytes is = absurd cc
none_there false none [] is = refl
none_there false none (x ∷ xs) is = absurd (let low = ltb-false 0 (length (x ∷ xs)) (sym is) in omega (arith, low))

goes_on : (end more : Type 0) (after : After) → after ≢ End → more → Next after end more
goes_on end more NextLine not_end m = m
goes_on end more End not_end m = absurd (not_end refl)

ends : (end more : Type 0) (after : After) → after ≡ End → end → Next after end more
ends end more NextLine is e = absurd cc
ends end more End is e = e

either : (end more : Type 0) (after : After) → end → more → Next after end more
either end more NextLine e m = m
either end more End e m = e

module _ {B : Type 0} (meets : B → ℕ → ℕ → Bool) (set : TaskSet) (walk new : WalkState) (stops later : Stopping (AnyStop B)) (line : List ℕ) (answer : Result Answer Refusal) (is_there : Bool)
    (bytes : List ℕ) (next : IsNext bytes line is_there) (some : is_there ≡ true) (obeys : Obeys Place (meets_of meets) set walk stops (command_of line) answer new later) where
  says_line : (rest : List ℕ) (is_all : Bool)
      → ((kept : Stopping PlaceStop) → later ≡ placed kept → (lines : ℕ) × Next (after_of answer) ((rest ≡ []) × (lines ≡ 0)) (Talks set new kept (drop_through 10 bytes) lines rest is_all))
      → SaysOn set walk stops bytes (answer_text answer ++ rest) is_all
  says_line rest is_all behind = λ places are.
      let obeys = subst (λ (c : Result Command Refusal). Obeys Place (meets_of meets) set walk stops c answer new later) (same_command bytes line is_there next) obeys in
      let obeys = subst (λ (s : Stopping (AnyStop B)). Obeys Place (meets_of meets) set walk s (command_of (first_line bytes)) answer new later) are obeys in
      let same = same_obey meets set walk new places later (command_of (first_line bytes)) answer obeys in
      let more = behind same.0 same.1 in
      (suc more.0, (some_there is_there some (length bytes) next.there, answer, new, same.0, rest, same.2, refl, more.1))

  -- and then the others
  pub says_more : after_of answer ≢ End → (rest : List ℕ) (is_all : Bool) → SaysOn set new later (drop_through 10 bytes) rest is_all → SaysOn set walk stops bytes (answer_text answer ++ rest) is_all
  says_more not_end rest is_all says = says_line rest is_all (λ kept are. let talk = says kept are in (talk.0, goes_on _ _ (after_of answer) not_end talk.1))

  -- the answer to `quit` is the last
  pub says_last : after_of answer ≡ End → SaysOn set walk stops bytes (answer_text answer) true
  says_last is_end = subst (λ (l : List ℕ). SaysOn set walk stops bytes l true) (append-nil (answer_text answer)) (says_line [] true (λ kept are. (0, ends _ _ (after_of answer) is_end (refl, refl))))

  -- nothing follows, whatever the line was
  pub says_first : SaysOn set walk stops bytes (answer_text answer) false
  says_first = subst (λ (l : List ℕ). SaysOn set walk stops bytes l false) (append-nil (answer_text answer))
      (says_line [] false (λ kept are. (0, either _ _ (after_of answer) (refl, refl) (refl, λ e. absurd cc))))

-- what a new session says
pub says_from_begin : {B : Type 0} (set : TaskSet) (machine : MachineState) (walk : WalkState) (slots : List (Option (AnyStop B))) (events : Events) (bytes : List ℕ)
    → walk.first ≡ (fresh machine).first → walk.shown ≡ walk.first → slots ≡ [] → events ≡ no_events → (text : List ℕ) (is_all : Bool) → SaysOn set walk (stopping slots events) bytes text is_all → Replies set machine bytes text is_all
says_from_begin set machine walk slots events bytes first shown none unasked text is_all says =
    let talk = says no_stopping (λ k. stopping (none k) (unasked k)) in
    (talk.0, subst (λ (w : WalkState). Talks set w no_stopping bytes talk.0 text is_all) (fresh_is walk (fresh machine).first first shown) talk.1)
  where
    fresh_is : (walk : WalkState) (here : PositionState) → walk.first ≡ here → walk.shown ≡ walk.first → walk ≡ record { first = here; shown = here }
    fresh_is walk here first shown =
        ap (λ (p : PositionState). record { first = p; shown = walk.shown }) first ∙ ap (λ (p : PositionState). record { first = here; shown = p }) (shown ∙ first)

-- ---- the text of an answer

module _ {S : Type 0} (seen : S → Seen) (before mid after : BufferedSink S) (answer : Result Answer Refusal) where
  -- it was written, and delivered
  pub answer_spoken : (text : List ℕ) (ran : Result Done DeviceFault) (flushed : Result (Unit {0}) DeviceFault) → HasSaid seen text before → Tells (gathering seen) before answer ran mid
      → Flushes seen mid flushed after → Speaks seen (text ++ answer_text answer) flushed after
  answer_spoken text (Ok done) flushed has tells flushes = spoken seen before mid after text (answer_text answer) (Ok tt) flushed has tells.0.1 flushes
  answer_spoken text (Err fault) flushed has tells flushes = spoken seen before mid after text (answer_text answer) (Err fault) flushed has tells flushes

  -- nothing is to follow
  pub is_last : (ran : Result Done DeviceFault) → Tells (gathering seen) before answer ran mid → IsOkAnd ran (λ done. done.after ≡ End) → after_of answer ≡ End
  is_last (Ok done) tells is = sym tells.1 ∙ is
  is_last (Err fault) tells is = absurd is

  -- or the next line, where the sink hasn't failed
  pub is_not_last : (ran : Result Done DeviceFault) (u : Unit {0}) → Tells (gathering seen) before answer ran mid → Flushes seen mid (Ok u) after → (IsOkAnd ran (λ done. done.after ≡ End) → ⊥) → after_of answer ≢ End
  is_not_last (Ok done) u tells flushed goes = λ is. goes (tells.1 ∙ is)
  is_not_last (Err fault) u tells flushed goes = absurd (true≢false (sym tells.is_failed ∙ flushed.0))
