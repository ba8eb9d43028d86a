-- The text of a history that goes on by an entry.
use Rattle.rt_trace.proofs.Common.{◌≡◌, ℕ, zero, suc, ◌+◌, ◌-◌, ◌<◌, ◌≤◌, inl, List, [], ◌∷◌, ◌++◌, length, append_assoc, refl, sym, ap, subst, ◌∙◌, arith, append-nil, TaskSet, legal, state_at, line, history_text, IsCut, IsTold}
use Rattle.std.proofs.Common.{inr, min, replicate, None, IsSome}
use Rattle.std.specs.List.{flat_map}
use Rattle.std.proofs.lemmas.Bool.{cases_lt}
use Rattle.std.proofs.lemmas.List.Concat.{flat_map-append, flat_map-cons}
use Rattle.rt_words.specs.Limits.{tick_limit}
use Rattle.rt_history.specs.declared.record.Attempt.{Attempt}
use Rattle.rt_history.specs.declared.record.Record.{Record}
use Rattle.rt_history.specs.declared.record.Record.TheVariants.{Idle, Busy}
use Rattle.rt_history.specs.declared.record.Entry.{Entry}
use Rattle.rt_history.specs.declared.record.Entry.TheVariants as entry
use Rattle.rt_history.specs.Named.{named}
use Rattle.rt_history.specs.MachineState.{MachineState}
use Rattle.rt_history.specs.Legal.{record_at}
use Rattle.rt_history.specs.Entries.{entries_from}
use Rattle.rt_history.specs.Plain.{IsPlain, AreTurns, said_of, said_from}
use Rattle.rt_history.specs.Working.EndsBusy.{EndsBusy}
use Rattle.rt_history.proofs.EntryLaws.{EndsBusy-push, entries_from-busy, entries_from-ends, entries_from-idle}
use Rattle.rt_history.proofs.NamedLaws.{none_some}
use Rattle.rt_history.proofs.Steps.{length-legal, legal_next, legal-then, busy-named, tick_is}
use Rattle.rt_core.specs.Advance.{Goes, IsDue, Follows}
use Rattle.rt_core.specs.Plain.{GoesInTurns}

-- ---- text

text-busy : (h : List Record) (a : Attempt) (more : List Record) → history_text (h ++ Busy a ∷ more) ≡ history_text h ++ flat_map line (entries_from (length h) (Busy a ∷ more))
text-busy h a more =
    ap (flat_map line) (entries_from-busy 0 h a more ∙ ap (λ (u : ℕ). entries_from 0 h ++ entries_from u (Busy a ∷ more)) (omega arith))
    ∙ flat_map-append line (entries_from 0 h) (entries_from (length h) (Busy a ∷ more))

text-ends : (h more : List Record) → EndsBusy h → history_text (h ++ more) ≡ history_text h ++ flat_map line (entries_from (length h) more)
text-ends h more ends =
    ap (flat_map line) (entries_from-ends 0 h more ends ∙ ap (λ (u : ℕ). entries_from 0 h ++ entries_from u more) (omega arith))
    ∙ flat_map-append line (entries_from 0 h) (entries_from (length h) more)

one_line : (e : Entry) → flat_map line (e ∷ []) ≡ line e
one_line e = flat_map-cons line e [] ∙ append-nil (line e)

-- ---- where the text of a legal history may be cut

-- the text of a beginning begins the text
pub text-begins : (set : TaskSet) (t n : ℕ) → t ≤ n → (t < n → IsCut set t) → (rest : List ℕ) × (history_text (legal set n) ≡ history_text (legal set t) ++ rest)
text-begins set t n le cut =
    elim (cases_lt t n) [
      | inr last ↦ let same : t ≡ n = omega arith in ([], rw same (sym (append-nil (history_text (legal set n)))))
      | inl less ↦
          let k : ℕ = n - (t + 1) in
          let at : t + 1 + k ≡ n = omega arith in
          let m = state_at set t in
          let later = legal-then set t k in
          let whole : legal set n ≡ legal set t ++ record_at m ∷ later.0 = ap (legal set) (sym at) ∙ later.1 in
          elim (cut less) [
            | inl ends ↦
                (flat_map line (entries_from (length (legal set t)) (record_at m ∷ later.0)), ap history_text whole ∙ text-ends (legal set t) (record_at m ∷ later.0) ends)
            | inr some ↦
                let busy = busy-named m some in
                let whole_busy : legal set n ≡ legal set t ++ Busy busy.0 ∷ later.0 = whole ∙ ap (λ (r : Record). legal set t ++ r ∷ later.0) busy.1 in
                (flat_map line (entries_from (length (legal set t)) (Busy busy.0 ∷ later.0)), ap history_text whole_busy ∙ text-busy (legal set t) busy.0 later.0)
          ]
    ]

-- ---- one entry

-- from tick t of the legal history to a later one, by an entry
pub record GoesOn (set : TaskSet) (t n : ℕ) (e : Entry) (after : MachineState) : Type 0 where
  pub stands : after ≡ state_at set after.tick
  pub later : t < after.tick
  pub within : after.tick ≤ n
  pub text : history_text (legal set after.tick) ≡ history_text (legal set t) ++ line e
  pub cut : after.tick < n → IsCut set after.tick

goes_on_at : (set : TaskSet) (t n u : ℕ) (e : Entry) (after : MachineState) → after ≡ state_at set u → t < u → u ≤ n
    → history_text (legal set u) ≡ history_text (legal set t) ++ line e → (u < n → IsCut set u) → GoesOn set t n e after
goes_on_at set t n u e after stands later within text cut =
    let tick : u ≡ after.tick = sym (ap (λ (m : MachineState). m.tick) stands ∙ tick_is set u) in
    record {
      stands = subst (λ (v : ℕ). after ≡ state_at set v) tick stands;
      later = omega (arith, tick);
      within = omega (arith, tick);
      text = subst (λ (v : ℕ). history_text (legal set v) ≡ history_text (legal set t) ++ line e) tick text;
      cut = subst (λ (v : ℕ). v < n → IsCut set v) tick cut;
    }

ends_of : (set : TaskSet) (t : ℕ) → named (state_at set t).tasks ≡ None → IsCut set t → EndsBusy (legal set t)
ends_of set t idle cut = elim cut [ inl ends ↦ ends | inr some ↦ absurd (none_some (named (state_at set t).tasks) idle some) ]

busy_goes_on : (set : TaskSet) (t n u : ℕ) (a : Attempt) (after : MachineState) → t < n → u ≡ t → Follows set t (entry.Busy u a) after → GoesOn set t n (entry.Busy u a) after
busy_goes_on set t n u a after less at follows =
    let h = legal set t in
    let text : history_text (legal set (t + 1)) ≡ history_text h ++ line (entry.Busy u a) =
    ap history_text follows.history ∙ text-busy h a [] ∙ ap (λ (x : List ℕ). history_text h ++ x) (one_line (entry.Busy (length h) a))
    ∙ ap (λ (v : ℕ). history_text h ++ line (entry.Busy v a)) (length-legal set t ∙ sym at) in
    goes_on_at set t n (t + 1) (entry.Busy u a) after follows.stands (omega arith) (omega arith) text
    (λ _. inl (subst EndsBusy (sym follows.history) (EndsBusy-push h a)))

idle_goes_on : (set : TaskSet) (t n u k : ℕ) (after : MachineState) → t < n → u ≡ t → 1 ≤ k → t + k ≤ n → EndsBusy (legal set t)
    → (t + k < n → IsSome (named after.tasks)) → Follows set t (entry.Idle u k) after → GoesOn set t n (entry.Idle u k) after
idle_goes_on set t n u zero after less at some within ends next follows = absurd (omega arith)
idle_goes_on set t n u (suc k) after less at some within ends next follows =
    let h = legal set t in
    let text : history_text (legal set (t + suc k)) ≡ history_text h ++ line (entry.Idle u (suc k)) =
    ap history_text follows.history ∙ text-ends h (replicate (suc k) Idle) ends
    ∙ ap (λ (x : List ℕ). history_text h ++ x) (ap (flat_map line) (entries_from-idle (length h) k) ∙ one_line (entry.Idle (length h) (suc k)))
    ∙ ap (λ (v : ℕ). history_text h ++ line (entry.Idle v (suc k))) (length-legal set t ∙ sym at) in
    goes_on_at set t n (t + suc k) (entry.Idle u (suc k)) after follows.stands (omega arith) within text
    (λ more. inr (subst (λ (m : MachineState). IsSome (named m.tasks)) follows.stands (next more)))

pub goes_on : (set : TaskSet) (t n : ℕ) (e : Entry) (old after : MachineState) → old ≡ state_at set t → t < n → n ≤ tick_limit → IsCut set t
    → Goes (min (n - t) (tick_limit - t)) old e after → IsDue (min (n - t) (tick_limit - t)) old e after → Follows set t e after → GoesOn set t n e after
goes_on set t n (entry.Busy u a) old after is less limit cut goes due follows =
    busy_goes_on set t n u a after less (goes.start ∙ ap (λ (m : MachineState). m.tick) is ∙ tick_is set t) follows
goes_on set t n (entry.Idle u k) old after is less limit cut goes due follows =
    let at : u ≡ t = goes.start ∙ ap (λ (m : MachineState). m.tick) is ∙ tick_is set t in
    let idle : named (state_at set t).tasks ≡ None = sym (ap (λ (m : MachineState). named m.tasks) is) ∙ due.0 in
    let within : t + k ≤ n = omega (arith, goes.within) in
    idle_goes_on set t n u k after less at goes.some within (ends_of set t idle cut)
    (λ more. elim due.1 [ inl all ↦ absurd (omega (arith, all)) | inr some ↦ some ]) follows

-- ---- more and more entries

-- nothing is told yet
pub told-nothing : (set : TaskSet) (n t : ℕ) (m : MachineState) → t ≡ m.tick → m ≡ state_at set t → (t < n → IsCut set t) → IsTold set n t [] m
told-nothing set n t m at stands cut = record {
  stands = subst (λ (u : ℕ). m ≡ state_at set u) at stands;
  text = sym (ap (λ (u : ℕ). history_text (legal set u)) at) ∙ sym (append-nil (history_text (legal set t)));
  cut = subst (λ (u : ℕ). u < n → IsCut set u) at cut;
}

-- the line of one entry more
pub told-more : (set : TaskSet) (n t : ℕ) (lines : List ℕ) (e : Entry) (old after : MachineState) → IsTold set n t lines old → GoesOn set old.tick n e after
    → IsTold set n t (lines ++ line e) after
told-more set n t lines e old after before on = record {
  stands = on.stands;
  text = on.text ∙ ap (λ (x : List ℕ). x ++ line e) before.text ∙ append_assoc (history_text (legal set t)) lines (line e);
  cut = on.cut;
}

-- ---- plain ticks

-- the record of a plain tick, and what it says
plain_attempt : (i : ℕ) (r : Record) → IsPlain i r → (a : Attempt) × (r ≡ Busy a)
plain_attempt i Idle plain = absurd plain
plain_attempt i (Busy a) plain = (a, refl)

-- the lines of k plain ticks from tick u on
pub told-plainly : (set : TaskSet) (n t : ℕ) (lines : List ℕ) (u k : ℕ) → IsTold set n t lines (state_at set u) → AreTurns set u k → u + k ≤ n
    → IsTold set n t (lines ++ said_from (λ v a. line (entry.Busy v a)) set u k) (state_at set (u + k))
unfolding said_from
told-plainly set n t lines u zero told plain within =
    let at : u + zero ≡ u = omega arith in
    rw (at, append-nil lines) told
told-plainly set n t lines u (suc k) told plain within =
    let says : ℕ → Attempt → List ℕ = λ v a. line (entry.Busy v a) in
    let m = state_at set (u + k) in
    let before = told-plainly set n t lines u k told (λ j less. plain j (omega (arith, less))) (omega (arith, within)) in
    let it = plain k (omega arith) in
    let busy = plain_attempt it.0 (record_at m) it.1 in
    let a = busy.0 in
    let at : u + k + 1 ≡ u + suc k = omega arith in
    let after = state_at set (u + k + 1) in
    let follows : Follows set (u + k) (entry.Busy (u + k) a) after =
    record { history = legal_next set (u + k) ∙ ap (λ (r : Record). legal set (u + k) ++ r ∷ []) busy.1; stands = refl } in
    let on : GoesOn set m.tick n (entry.Busy (u + k) a) after =
    subst (λ (v : ℕ). GoesOn set v n (entry.Busy (u + k) a) after) (sym (tick_is set (u + k))) (busy_goes_on set (u + k) n (u + k) a after (omega (arith, within)) refl follows) in
    let more = told-more set n t (lines ++ said_from says set u k) (entry.Busy (u + k) a) m after before on in
    let text : (lines ++ said_from says set u k) ++ line (entry.Busy (u + k) a) ≡ lines ++ (said_from says set u k ++ said_of says (u + k) (record_at m)) =
    append_assoc lines (said_from says set u k) (line (entry.Busy (u + k) a)) ∙ ap (λ (r : Record). lines ++ (said_from says set u k ++ said_of says (u + k) r)) (sym busy.1) in
    subst (λ (v : ℕ). IsTold set n t (lines ++ (said_from says set u k ++ said_of says (u + k) (record_at m))) (state_at set v)) at
    (subst (λ (x : List ℕ). IsTold set n t x after) text more)

-- and what a machine tells when it goes on by them
pub told-going : (set : TaskSet) (n t : ℕ) (lines bytes : List ℕ) (k : ℕ) (old new : MachineState) → IsTold set n t lines old
    → GoesInTurns (λ v a. line (entry.Busy v a)) set old.tick k lines bytes new → old.tick + k ≤ n → IsTold set n t bytes new
told-going set n t lines bytes k old new told goes within =
    let u = old.tick in
    let here : IsTold set n t lines (state_at set u) = subst (IsTold set n t lines) told.stands told in
    let later = told-plainly set n t lines u k here goes.plain within in
    let there : IsTold set n t bytes (state_at set (u + k)) = subst (λ (x : List ℕ). IsTold set n t x (state_at set (u + k))) (sym goes.said) later in
    subst (IsTold set n t bytes) (sym goes.stands) there
