-- A task that starts late: one idle stretch, however long, and then ticks that are computed from the state that it leaves.
use Rattle.std.proofs.Common.{◌≡◌, ℕ, zero, suc, ◌+◌, List, [], ◌∷◌, ◌++◌, append_assoc, replicate, length, sym, ap, subst, ◌∙◌, arith, add-zero}
use Rattle.std.specs.List.{flat_map}
use Rattle.std.proofs.lemmas.List.{append-nil, length-replicate}
use Rattle.rt_image.specs.SystemFile.{TaskSet}
use Rattle.rt_history.specs.declared.record.Attempt.{Attempt}
use Rattle.rt_history.specs.declared.record.Record.{Record}
use Rattle.rt_history.specs.declared.record.Record.TheVariants.{Idle, Busy}
use Rattle.rt_history.specs.declared.record.Entry.TheVariants as entry
use Rattle.rt_history.specs.MachineState.{MachineState}
use Rattle.rt_history.specs.Legal.{record_at, legal, state_at}
use Rattle.rt_history.specs.Entries.{entries, entries_from}
use Rattle.rt_history.specs.Working.Step.{next_state, passed, IsIdleFor}
use Rattle.rt_history.proofs.EntryLaws.{entries_from-busy, entries_from-idle}
use Rattle.rt_history.proofs.Steps.{legal_next, state_next, legal_idle, legal-first}
use Rattle.rt_trace.specs.HistoryText.{line}
use Rattle.rt_trace.specs.RunText.{run_text, end_text}
use Rattle.rt_trace.specs.declared.telling.Telling.{Telling}

-- the records of k ticks from a state on, and the state after them
abbrev pub records_from : ℕ → MachineState → List Record
records_from zero m = []
records_from (suc k) m = record_at m ∷ records_from k (next_state m)

abbrev pub state_from : ℕ → MachineState → MachineState
state_from zero m = m
state_from (suc k) m = state_from k (next_state m)

-- k ticks of the legal history from tick t on
goes-from : (set : TaskSet) (t k : ℕ) (m : MachineState) → state_at set t ≡ m
    → (legal set (t + k) ≡ legal set t ++ records_from k m) × (state_at set (t + k) ≡ state_from k m)
goes-from set t zero m is = (rw add-zero (sym (append-nil (legal set t))), rw add-zero is)
goes-from set t (suc k) m is =
    let later = goes-from set (t + 1) k (next_state m) (state_next set t ∙ ap next_state is) in
    let at : t + 1 + k ≡ t + suc k = omega arith in
    let one : legal set (t + 1) ≡ legal set t ++ record_at m ∷ [] =
    legal_next set t ∙ ap (λ x. legal set t ++ record_at x ∷ []) is in
    let history : legal set (t + 1 + k) ≡ legal set t ++ record_at m ∷ records_from k (next_state m) =
    later.0 ∙ ap (λ h. h ++ records_from k (next_state m)) one ∙ append_assoc (legal set t) (record_at m ∷ []) (records_from k (next_state m)) in
    (subst (λ u. legal set u ≡ legal set t ++ records_from (suc k) m) at history, subst (λ u. state_at set u ≡ state_from (suc k) m) at later.1)

-- the entries of an idle stretch and what follows
entries-idle : (n : ℕ) (a : Attempt) (later : List Record)
    → entries (replicate (suc n) Idle ++ Busy a ∷ later) ≡ entry.Idle 0 (suc n) ∷ entries_from (suc n) (Busy a ∷ later)
entries-idle n a later =
    let at : 0 + length (replicate (suc n) Idle) ≡ suc n = omega (arith, length-replicate (suc n) Idle) in
    entries_from-busy 0 (replicate (suc n) Idle) a later
    ∙ ap (λ es. es ++ entries_from (0 + length (replicate (suc n) Idle)) (Busy a ∷ later)) (entries_from-idle 0 n)
    ∙ ap (λ u. entry.Idle 0 (suc n) ∷ entries_from u (Busy a ∷ later)) at

-- the text of a run that begins with an idle stretch
pub late_text : (telling : Telling) (set : TaskSet) (n k : ℕ) (m : MachineState) (a : Attempt) (later : List Record)
    → IsIdleFor (suc n) (state_at set 0) → passed (suc n) (state_at set 0) ≡ m → records_from k m ≡ Busy a ∷ later
    → run_text telling set (suc n + k) ≡ flat_map line (entry.Idle 0 (suc n) ∷ entries_from (suc n) (records_from k m)) ++ end_text telling (state_from k m)
late_text telling set n k m a later idle left first =
    let stretch = legal_idle set 0 n idle in
    let at : 0 + suc n ≡ suc n = omega arith in
    let state : state_at set (suc n) ≡ m = ap (state_at set) (sym at) ∙ stretch.1 ∙ left in
    let history : legal set (suc n) ≡ replicate (suc n) Idle =
    ap (legal set) (sym at) ∙ stretch.0 ∙ ap (λ h. h ++ replicate (suc n) Idle) (legal-first set) in
    let both = goes-from set (suc n) k m state in
    let whole : legal set (suc n + k) ≡ replicate (suc n) Idle ++ Busy a ∷ later =
    both.0 ∙ ap (λ h. h ++ records_from k m) history ∙ ap (λ h. replicate (suc n) Idle ++ h) first in
    let told : entries (legal set (suc n + k)) ≡ entry.Idle 0 (suc n) ∷ entries_from (suc n) (records_from k m) =
    ap entries whole ∙ entries-idle n a later ∙ ap (λ h. entry.Idle 0 (suc n) ∷ entries_from (suc n) h) (sym first) in
    ap (λ es. flat_map line es ++ end_text telling (state_at set (suc n + k))) told
    ∙ ap (λ x. flat_map line (entry.Idle 0 (suc n) ∷ entries_from (suc n) (records_from k m)) ++ end_text telling x) both.1
