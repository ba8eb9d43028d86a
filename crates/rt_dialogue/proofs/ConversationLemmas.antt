-- What came of a part of an input, and of a session that has said a text.
use Rattle.rt_dialogue.proofs.Common.{◌≡◌, ℕ, Bool, true, false, not, List, [], ◌++◌, append-nil, append_assoc, Option, Some, Result, Ok, Err, refl, sym, ap, subst, ◌∙◌, Seen, BufferedSink, told, said_nothing, DebugFault, Input, IsOfInput, HasSaid, EndsBy, Ends, Responds}
use Rattle.rt_dialogue.specs.Responds.{GoesOn}
use Rattle.rt_dialogue.proofs.FaultLemmas.{by_input}

module _ {S : Type 0} (seen : S → Seen) (Says : List ℕ → Bool → Type 0) (text : List ℕ) (input : Option (List ℕ)) (out : BufferedSink S) (Later : List ℕ → List ℕ → Bool → Type 0) where
  -- it failed
  pub responds_failing : (result : Result Bool DebugFault) (fault : DebugFault) → (e : DebugFault) × (result ≡ Err e) × (e ≡ fault) → (more : List ℕ) → Says more false → EndsBy seen fault (text ++ more) out.inner
      → Responds seen Says text result input out Later
  responds_failing result fault is more says by = subst (λ (r : Result Bool DebugFault). Responds seen Says text r input out Later) (sym (is.1 ∙ ap Err is.2)) (more, says, by)

  -- the input failed before it
  pub responds_without_input : (result : Result Bool DebugFault) (fault : DebugFault) → (e : DebugFault) × (result ≡ Err e) × (e ≡ fault) → IsOfInput fault → HasSaid seen text out → Says [] false
      → Responds seen Says text result input out Later
  responds_without_input result fault is which said silent =
      responds_failing result fault is [] silent (subst (λ (l : List ℕ). EndsBy seen fault l out.inner) (sym (append-nil text)) (by_input seen text fault out which said))

  -- it was said, and is the last or not
  pub responds_unless_last : (is_last : Bool) → (is_last ≡ false → GoesOn seen Says text input out Later)
      → (is_last ≡ true → (more : List ℕ) × Says more true × ((seen out.inner).contents ≡ Some (text ++ more))) → Responds seen Says text (Ok (not is_last)) input out Later
  responds_unless_last true goes ends = ends refl
  responds_unless_last false goes ends = goes refl

-- another name for what it says
pub ends_as : {S : Type 0} (seen : S → Seen) (First Second : List ℕ → Bool → Type 0) → ((text : List ℕ) (is_all : Bool) → First text is_all → Second text is_all)
    → (result : Result (Unit {0}) DebugFault) (sink : S) → Ends seen First result sink → Ends seen Second result sink
ends_as seen First Second same (Ok u) sink ends = (ends.0, same ends.0 true ends.1, ends.2)
ends_as seen First Second same (Err fault) sink ends = (ends.0, same ends.0 false ends.1, ends.2)

-- ---- a whole session

-- nothing was read
pub begins : {S : Type 0} (seen : S → Seen) (Replies : List ℕ → List ℕ → Bool → Type 0) (bytes : List ℕ) (input : Option (List ℕ)) (out : BufferedSink S) → (seen out.inner).failed ≡ false → input ≡ Some bytes → told seen out ≡ Some []
    → GoesOn seen (Replies bytes) [] input out Replies
begins seen Replies bytes input out is_open unread none = record {
  left = bytes;
  more = [];
  unread = unread;
  said = record { is_open = is_open; told_all = none; arrived = (said_nothing seen out none).arrived };
  leads = λ rest is_all replies. replies;
}

module _ {S : Type 0} (seen : S → Seen) (Says : List ℕ → Bool → Type 0) (input : Option (List ℕ)) (out : BufferedSink S) (Now : List ℕ → List ℕ → Bool → Type 0) (g : GoesOn seen Says [] input out Now) where
  -- it goes on
  pub goes_on : (rest : Option (List ℕ)) (after : BufferedSink S) (Later : List ℕ → List ℕ → Bool → Type 0) → Responds seen (Now g.left) g.more (Ok true) rest after Later → GoesOn seen Says [] rest after Later
  goes_on rest after Later next = record {
    left = next.left;
    more = g.more ++ next.more;
    unread = next.unread;
    said = next.said;
    leads = λ text is_all later. subst (λ (l : List ℕ). Says l is_all) (sym (append_assoc g.more next.more text)) (g.leads (next.more ++ text) is_all (next.leads text is_all later));
  }

  -- it has ended
  pub ends : (u : Unit {0}) (rest : Option (List ℕ)) (after : BufferedSink S) (Later : List ℕ → List ℕ → Bool → Type 0) → Responds seen (Now g.left) g.more (Ok false) rest after Later → Ends seen Says (Ok u) after.inner
  ends u rest after Later last = (g.more ++ last.0, g.leads last.0 true last.1, last.2)

  -- or failed
  pub fails : (fault : DebugFault) (result : Result (Unit {0}) DebugFault) (rest : Option (List ℕ)) (after : BufferedSink S) (Later : List ℕ → List ℕ → Bool → Type 0) → (e : DebugFault) × (result ≡ Err e) × (e ≡ fault)
      → Responds seen (Now g.left) g.more (Err fault) rest after Later → Ends seen Says result after.inner
  fails fault result rest after Later is last = subst (λ (r : Result (Unit {0}) DebugFault). Ends seen Says r after.inner) (sym (is.1 ∙ ap Err is.2)) (g.more ++ last.0, g.leads last.0 false last.1, last.2)

  -- nothing more is read
  pub stops : Now g.left [] false → Ends seen Says (Err Input) out.inner
  stops silent = (g.more, subst (λ (l : List ℕ). Says l false) (append-nil g.more) (g.leads [] false silent), g.said.arrived)
