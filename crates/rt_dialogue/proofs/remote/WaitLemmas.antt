-- A wire that is asked often says its beats one after the other.
use Rattle.rt_dialogue.proofs.Common.{◌≡◌, inl, inr, ℕ, ◌-◌, ◌<◌, Bool, true, false, not, eqb, List, [], ◌++◌, append-nil, append_assoc, Option, Some, Result, Ok, Err, refl, sym, ap, subst, ◌∙◌, arith, Seen, BufferedSink, DebugFault, Device, Sim, EndsBy, Beaten, GoesOn, Interrupted, Begun, Ended, HasSaid, is_going, OneBeat, Runs}
use Rattle.std.proofs.Common.{◌⊎◌, if◌then◌else◌}
use Rattle.std.proofs.lemmas.Bool.{cases_Bool, eqb-true}
use Rattle.rt_dialogue.specs.remote.Beats.{Beats, BeatsOf}
use Rattle.rt_dialogue.specs.remote.Working.Runs.{Used}
use Rattle.rt_dialogue.specs.remote.Working.Waits.{WireState, IsPaused, HasFailed, Waits, Leads}
use Rattle.rt_dialogue.proofs.remote.BeatLemmas.{no_beats, one_is_beats, join_beats}

going_is : (beaten : Result Beaten DebugFault) → is_going beaten ≡ true → beaten ≡ Ok GoesOn
going_is (Ok GoesOn) is = refl
going_is (Ok Interrupted) is = absurd cc
going_is (Ok Begun) is = absurd cc
going_is (Ok Ended) is = absurd cc
going_is (Err fault) is = absurd cc

module _ {S : Type 0} (seen : S → Seen) where
  none_used : (Says : List ℕ → List ℕ → Beaten → List ℕ → Type 0) → ((tail : List ℕ) → Says tail [] GoesOn tail) → (bytes text : List ℕ) (beaten : Result Beaten DebugFault) (input : Option (List ℕ))
      (out : BufferedSink S) → is_going beaten ≡ true → input ≡ Some bytes → HasSaid seen text out → Runs seen Says bytes text beaten input out
  none_used Says none bytes text beaten input out going is said = record {
    used = [];
    left = bytes;
    more = [];
    parts = refl;
    came = subst (λ (b : Result Beaten DebugFault). Used seen Says [] bytes text [] b input out) (sym (going_is beaten going))
        (is, subst (λ (l : List ℕ). HasSaid seen l out) (sym (append-nil text)) said, λ e. absurd cc, λ tail _. none tail);
  }

  pub one_used : (bytes text : List ℕ) (beaten : Result Beaten DebugFault) (input : Option (List ℕ)) (out : BufferedSink S) → Runs seen OneBeat bytes text beaten input out → Runs seen Beats bytes text beaten input out
  one_used bytes text (Ok beaten) input out run = record {
    used = run.used;
    left = run.left;
    more = run.more;
    parts = run.parts;
    came = (run.came.0, run.came.1, run.came.2, λ tail ends. one_is_beats (run.used ++ tail) run.more beaten tail (run.came.3 tail ends));
  }
  one_used bytes text (Err fault) input out run = record {
    used = run.used;
    left = run.left;
    more = run.more;
    parts = run.parts;
    came = (run.came.0, one_is_beats run.used run.more Ended [] run.came.1);
  }

  -- a run, and one that goes on with what it left
  join_used : (bytes text : List ℕ) (mid_input : Option (List ℕ)) (mid : BufferedSink S) (first : Runs seen Beats bytes text (Ok GoesOn) mid_input mid)
      (beaten : Result Beaten DebugFault) (input : Option (List ℕ)) (out : BufferedSink S) → Runs seen Beats first.left (text ++ first.more) beaten input out → Runs seen Beats bytes text beaten input out
  join_used bytes text mid_input mid first (Ok beaten) input out second = record {
    used = first.used ++ second.used;
    left = second.left;
    more = first.more ++ second.more;
    parts = first.parts ∙ ap (λ (l : List ℕ). first.used ++ l) second.parts ∙ sym (append_assoc first.used second.used second.left);
    came = (
      second.came.0,
      subst (λ (l : List ℕ). HasSaid seen l out) (append_assoc text first.more second.more) second.came.1,
      second.came.2,
      λ tail ends. subst (λ (l : List ℕ). Beats l (first.more ++ second.more) beaten tail) (sym (append_assoc first.used second.used tail))
          (join_beats (first.used ++ (second.used ++ tail)) first.more (second.used ++ tail) second.more beaten tail (first.came.3 (second.used ++ tail) (λ e. absurd cc)) (second.came.3 tail ends)),
    );
  }
  join_used bytes text mid_input mid first (Err fault) input out second = record {
    used = first.used ++ second.used;
    left = second.left;
    more = first.more ++ second.more;
    parts = first.parts ∙ ap (λ (l : List ℕ). first.used ++ l) second.parts ∙ sym (append_assoc first.used second.used second.left);
    came = (
      subst (λ (l : List ℕ). EndsBy seen fault l out.inner) (append_assoc text first.more second.more) second.came.0,
      join_beats (first.used ++ second.used) first.more second.used second.more Ended [] (first.came.3 second.used (λ e. absurd cc)) second.came.1,
    );
  }

  pub stays : (wire : WireState S) → Waits seen wire wire
  stays wire = record {
    rests = λ _ _. refl;
    pauses = λ h. h;
    fails = λ h. h;
    runs = λ bytes text going paused input said. none_used Beats no_beats bytes text wire.beaten wire.input wire.out going input said;
  }

  pub joins : (first second third : WireState S) → Waits seen first second → Waits seen second third → Waits seen first third
  joins first second third one two = record {
    rests = λ stopped paused.
        let same : second ≡ first = one.rests stopped paused in
        two.rests (ap (λ (w : WireState S). is_going w.beaten) same ∙ stopped) (one.pauses paused) ∙ same;
    pauses = λ paused. two.pauses (one.pauses paused);
    fails = λ failing. two.fails (one.fails failing);
    runs = λ bytes text going paused input said.
        let run = one.runs bytes text going paused input said in
        elim (cases_Bool (is_going second.beaten)) [
          | inl on ↦
              let here = subst (λ (b : Result Beaten DebugFault). Runs seen Beats bytes text b second.input second.out) (going_is second.beaten on) run in
              join_used bytes text second.input second.out here third.beaten third.input third.out
              (two.runs here.left (text ++ here.more) on (one.pauses paused) here.came.0 here.came.1)
          | inr stopped ↦
              let same : third ≡ second = two.rests stopped (one.pauses paused) in
              subst (λ (w : WireState S). Runs seen Beats bytes text w.beaten w.input w.out) (sym same) run
        ];
  }

  -- an entry more
  pub counts_down : (old new : WireState S) → 1 < old.left → new ≡ record old { left = old.left - 1 } → Waits seen old new
  counts_down old new some is = subst (Waits seen old) (sym is) (record {
    rests = λ stopped paused. absurd (runs_on old.left (is_going old.beaten) some paused stopped);
    pauses = λ paused. sym (same_test old.left some) ∙ paused;
    fails = λ h. h;
    runs = λ bytes text going paused input said. none_used Beats no_beats bytes text old.beaten old.input old.out going input said;
  })
    where
      runs_on : (left : ℕ) (going : Bool) → 1 < left → eqb left 0 ≡ not going → going ≡ false → ⊥
      runs_on left true some paused stopped = absurd cc
      runs_on left false some paused stopped = let zero : left ≡ 0 = eqb-true left 0 paused in omega (arith, some, zero)

      same_test : (left : ℕ) → 1 < left → eqb left 0 ≡ eqb (left - 1) 0
      same_test left some = grind (arith, some)

  -- a beat
  pub beats_once : (old new : WireState S) → 0 < old.left → IsPaused new → HasFailed seen new.beaten new.out
      → ((bytes text : List ℕ) → old.input ≡ Some bytes → HasSaid seen text old.out → Runs seen OneBeat bytes text new.beaten new.input new.out)
      → Waits seen old new
  beats_once old new some paused failing run = record {
    rests = λ stopped was. absurd (runs_on old.left (is_going old.beaten) some was stopped);
    pauses = λ _. paused;
    fails = λ _. failing;
    runs = λ bytes text going was input said. one_used bytes text new.beaten new.input new.out (run bytes text input said);
  }
    where
      runs_on : (left : ℕ) (going : Bool) → 0 < left → eqb left 0 ≡ not going → going ≡ false → ⊥
      runs_on left true some paused stopped = absurd cc
      runs_on left false some paused stopped = let zero : left ≡ 0 = eqb-true left 0 paused in omega (arith, some, zero)

  -- a run from its begin
  module _ (first new : WireState S) (left : first.left ≡ 4194304) (beaten : first.beaten ≡ Ok GoesOn) (led : Leads seen first new) where
    begun : IsPaused first
    begun = ap (λ (n : ℕ). eqb n 0) left ∙ sym (ap (λ (b : Result Beaten DebugFault). not (is_going b)) beaten)

    pub pauses_at_end : IsPaused new
    pauses_at_end = (led first (stays first)).pauses begun

    pub runs_to_end : (is_run : Bool) → (is_run ≡ false → new ≡ first) → (bytes text : List ℕ) → first.input ≡ Some bytes → HasSaid seen text first.out → Runs seen (BeatsOf is_run) bytes text new.beaten new.input new.out
    runs_to_end true same bytes text input said = (led first (stays first)).runs bytes text (ap is_going beaten) begun input said
    runs_to_end false same bytes text input said = subst (λ (w : WireState S). Runs seen (BeatsOf false) bytes text w.beaten w.input w.out) (sym (same refl))
        (none_used (BeatsOf false) (λ tail. (refl, refl, refl)) bytes text first.beaten first.input first.out (ap is_going beaten) input said)

    pub fails_at_end : HasFailed seen new.beaten new.out
    fails_at_end = (led first (stays first)).fails (λ fault is. absurd (let no : Ok GoesOn ≡ Err (Sim (Device fault)) = sym beaten ∙ is in cc))

-- no pace is asked: an interrupt is kept, or the request asks none
pub asked_none : (held paced : Bool) → (if held then false else paced) ≡ false → (held ≡ true) ⊎ (paced ≡ false)
asked_none true paced none = inl refl
asked_none false paced none = inr none
