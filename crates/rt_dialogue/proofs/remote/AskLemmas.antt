-- A beat is said, and its answer is read.
use Rattle.rt_dialogue.proofs.Common.{◌≡◌, ℕ, Bool, true, false, List, [], ◌∷◌, ◌++◌, append-nil, append_assoc, Option, Some, None, Result, Ok, Err, refl, sym, ap, subst, ◌∙◌, Seen, packet_of, DeviceFault, BufferedSink, Device, DebugFault, Sim, EndsBy, Beaten, GoesOn, Interrupted, Begun, Ended, HasSaid, SaysLess, Speaks, IsOfInput, IsNextByte, OneBeat, Runs}
use Rattle.std.specs.Prelude.{codes, if◌then◌else◌, ◌==◌}
use Rattle.std.specs.Str.{byte}
use Rattle.rt_words.specs.Hex.{hex}
use Rattle.rt_packet.specs.Packet.{dollar, interrupt}
use Rattle.rt_dialogue.specs.remote.Beats.{beat, beaten_by, said_to}
use Rattle.rt_dialogue.proofs.FaultLemmas.{by_device, by_input}
use Rattle.rt_dialogue.proofs.remote.BeatLemmas.{SoFar, none_so_far, more_so_far, answers_here, ends_here}

-- the bytes of a beat, and those that answer a packet which is too long
pub beat_is : codes "$O#4f" ≡ beat
unfolding hex
beat_is = refl

pub unknown_is : codes "+$#00" ≡ codes "+" ++ packet_of []
unfolding hex
unknown_is = refl

-- a byte never says that the input has ended
answered_ended : (p q r : Bool) → (if p then Some GoesOn else (if q then Some Interrupted else (if r then Some Begun else None))) ≡ Some Ended → ⊥
answered_ended true q r is = absurd cc
answered_ended false true r is = absurd cc
answered_ended false false true is = absurd cc
answered_ended false false false is = absurd cc

pub never_ended : (b : ℕ) (beaten : Beaten) → beaten_by b ≡ Some beaten → beaten ≡ Ended → ⊥
never_ended b beaten is e = answered_ended (b == byte "+") (b == interrupt) (b == dollar) (is ∙ ap Some e)

-- so many bytes were read that don't answer the beat
pub record InBeat {S : Type 0} (seen : S → Seen) (bytes text : List ℕ) (input : Option (List ℕ)) (out : BufferedSink S) : Type 0 where
  pub used : List ℕ
  pub left : List ℕ
  pub more : List ℕ
  pub parts : bytes ≡ used ++ left
  pub unread : input ≡ Some left
  pub said : HasSaid seen (text ++ more) out
  pub so_far : SoFar used more

module _ {S : Type 0} (seen : S → Seen) where
  pub runs_at : (Says : List ℕ → List ℕ → Beaten → List ℕ → Type 0) (bytes text : List ℕ) (result : Result Beaten DebugFault) (fault : DebugFault) (input : Option (List ℕ)) (out : BufferedSink S)
      → (e : DebugFault) × (result ≡ Err e) × (e ≡ fault) → Runs seen Says bytes text (Err fault) input out → Runs seen Says bytes text result input out
  runs_at Says bytes text result fault input out is run = subst (λ (r : Result Beaten DebugFault). Runs seen Says bytes text r input out) (sym (is.1 ∙ ap Err is.2)) run

  pub speaks_at : {X : Type 0} (text : List ℕ) (result : Result X DeviceFault) (fault : DeviceFault) (out : BufferedSink S)
      → (e : DeviceFault) × (result ≡ Err e) × (e ≡ fault) → SaysLess seen text fault out → Speaks seen text result out
  speaks_at {X = X} text result fault out is less = subst (λ (r : Result X DeviceFault). Speaks seen text r out) (sym (is.1 ∙ ap Err is.2)) less

  pub first_in : (bytes text : List ℕ) (input : Option (List ℕ)) (out : BufferedSink S) → input ≡ Some bytes → HasSaid seen text out → InBeat seen bytes text input out
  first_in bytes text input out unread said = record {
    used = [];
    left = bytes;
    more = [];
    parts = refl;
    unread = unread;
    said = subst (λ (l : List ℕ). HasSaid seen l out) (sym (append-nil text)) said;
    so_far = none_so_far;
  }

  module _ (bytes text : List ℕ) (input : Option (List ℕ)) (out : BufferedSink S) (i : InBeat seen bytes (text ++ beat) input out) where
    joined : (text ++ beat) ++ i.more ≡ text ++ (beat ++ i.more)
    joined = append_assoc text beat i.more

    -- the input has ended
    pub ended : (new : Option (List ℕ)) → ((rest : List ℕ) → input ≡ Some rest → IsNextByte rest None new) → Runs seen OneBeat bytes text (Ok Ended) new out
    ended new none = record {
      used = i.used;
      left = i.left;
      more = beat ++ i.more;
      parts = i.parts;
      came = (
        (none i.left i.unread).1 ∙ ap Some (sym (none i.left i.unread).0),
        subst (λ (l : List ℕ). HasSaid seen l out) joined i.said,
        λ _. (none i.left i.unread).0,
        λ tail ends. subst (λ (l : List ℕ). OneBeat (i.used ++ l) (beat ++ i.more) Ended l) (sym (ends refl))
            (subst (λ (l : List ℕ). OneBeat l (beat ++ i.more) Ended []) (sym (append-nil i.used)) (ends_here i.used i.more i.so_far)),
      );
    }

    -- or failed
    pub failing : (fault : DebugFault) (new : Option (List ℕ)) → IsOfInput fault → Runs seen OneBeat bytes text (Err fault) new out
    failing fault new which = record {
      used = i.used;
      left = i.left;
      more = beat ++ i.more;
      parts = i.parts;
      came = (by_input seen (text ++ (beat ++ i.more)) fault out which (subst (λ (l : List ℕ). HasSaid seen l out) joined i.said), ends_here i.used i.more i.so_far);
    }

    module _ (b : ℕ) (new : Option (List ℕ)) (next : (rest : List ℕ) → input ≡ Some rest → IsNextByte rest (Some b) new) where
      parts_behind : bytes ≡ (i.used ++ b ∷ []) ++ (next i.left i.unread).0
      parts_behind = i.parts ∙ ap (λ (l : List ℕ). i.used ++ l) (next i.left i.unread).1 ∙ sym (append_assoc i.used (b ∷ []) (next i.left i.unread).0)

      -- a byte answers
      pub answered : (beaten : Beaten) → beaten_by b ≡ Some beaten → (beaten ≡ Ended → ⊥) → Runs seen OneBeat bytes text (Ok beaten) new out
      answered beaten is not_ended = record {
        used = i.used ++ b ∷ [];
        left = (next i.left i.unread).0;
        more = beat ++ i.more;
        parts = parts_behind;
        came = (
          (next i.left i.unread).2,
          subst (λ (l : List ℕ). HasSaid seen l out) joined i.said,
          λ ends. absurd (not_ended ends),
          λ tail _. answers_here i.used i.more b beaten is i.so_far tail,
        );
      }

      pub passed_failing : (said : List ℕ) (after : BufferedSink S) (fault : DeviceFault) → beaten_by b ≡ None → said ≡ said_to b → SaysLess seen (((text ++ beat) ++ i.more) ++ said) fault after
          → Runs seen OneBeat bytes text (Err (Sim (Device fault))) new after
      passed_failing said after fault is said_is speaks = record {
        used = i.used ++ b ∷ [];
        left = (next i.left i.unread).0;
        more = beat ++ (i.more ++ said_to b);
        parts = parts_behind;
        came = (
          subst (λ (l : List ℕ). EndsBy seen (Sim (Device fault)) l after.inner)
              (append_assoc (text ++ beat) i.more said ∙ ap (λ (l : List ℕ). (text ++ beat) ++ (i.more ++ l)) said_is ∙ append_assoc text beat (i.more ++ said_to b))
              (by_device seen (((text ++ beat) ++ i.more) ++ said) fault after speaks),
          ends_here (i.used ++ b ∷ []) (i.more ++ said_to b) (more_so_far i.used i.more b is i.so_far),
        );
      }

  -- a byte is dropped, or asks for the beat again
  pub passed_on : (bytes text : List ℕ) (input : Option (List ℕ)) (out : BufferedSink S) (i : InBeat seen bytes text input out) (b : ℕ) (new : Option (List ℕ))
      (next : (rest : List ℕ) → input ≡ Some rest → IsNextByte rest (Some b) new) (said : List ℕ) (after : BufferedSink S) → beaten_by b ≡ None → said ≡ said_to b
      → HasSaid seen ((text ++ i.more) ++ said) after → InBeat seen bytes text new after
  passed_on bytes text input out i b new next said after is said_is has = record {
    used = i.used ++ b ∷ [];
    left = (next i.left i.unread).0;
    more = i.more ++ said_to b;
    parts = i.parts ∙ ap (λ (l : List ℕ). i.used ++ l) (next i.left i.unread).1 ∙ sym (append_assoc i.used (b ∷ []) (next i.left i.unread).0);
    unread = (next i.left i.unread).2;
    said = subst (λ (l : List ℕ). HasSaid seen l after) (append_assoc text i.more said ∙ ap (λ (l : List ℕ). text ++ (i.more ++ l)) said_is) has;
    so_far = more_so_far i.used i.more b is i.so_far;
  }

  -- the sink failed at the beat itself
  pub failing_at_once : (bytes text : List ℕ) (new : Option (List ℕ)) (after : BufferedSink S) (fault : DeviceFault) → SaysLess seen (text ++ beat) fault after
      → Runs seen OneBeat bytes text (Err (Sim (Device fault))) new after
  failing_at_once bytes text new after fault speaks = record {
    used = [];
    left = bytes;
    more = beat ++ [];
    parts = refl;
    came = (
      subst (λ (l : List ℕ). EndsBy seen (Sim (Device fault)) l after.inner) (ap (λ (l : List ℕ). text ++ l) (sym (append-nil beat))) (by_device seen (text ++ beat) fault after speaks),
      ends_here [] [] none_so_far,
    );
  }
