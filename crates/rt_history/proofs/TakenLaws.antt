-- What a server can take of a record: of each legal history all.
use Rattle.rt_history.proofs.Common.{◌≡◌, ℕ, nat_le, List, [], ◌∷◌, slice_get, Some, refl, sym, ap, subst, ◌∙◌, Account, TaskSet, AttemptOutcome, Reserve, Attempt, Record, Idle, Busy, Entry, attempt_at, TaskState, MachineState, grants}
use Rattle.std.specs.Option.{option_map_or}
use Rattle.std.proofs.lemmas.Bool.{cond_both, cond-true, leb-true, le-leb, and_parts, and_from}
use Rattle.std.proofs.lemmas.List.{append_cancel_left}
use Rattle.rt_history.specs.declared.record.AttemptOutcome.TheVariants.{ReserveRefused}
use Rattle.rt_history.specs.declared.record.Entry.TheVariants as entries
use Rattle.rt_history.specs.Legal.{attempt_of, record_at, stands_after, legal, state_at}
use Rattle.rt_history.specs.Entries.{GoesOnBy}
use Rattle.rt_history.specs.Working.Bounded.{IsTakeable, is_takeable, taken}
use Rattle.rt_history.proofs.Granting.{attempt-takeable}
use Rattle.rt_history.proofs.NamedLaws.{named_cases}
use Rattle.rt_history.proofs.Steps.{legal_next}

-- ---- a record

-- what a server can take is taken as it is
pub taken-same : (o : AttemptOutcome) (a : Account) → IsTakeable o a → taken o a ≡ o
taken-same (Reserve q) a takes =
    cond-true (is_takeable (Reserve q) a) (Reserve q) ReserveRefused (and_from (nat_le 1 q) (nat_le q a.p) (le-leb 1 q takes.0) (le-leb q a.p takes.1))
taken-same _ a takes = refl

-- and what is taken it can take
pub taken-takeable : (o : AttemptOutcome) (a : Account) → IsTakeable (taken o a) a
taken-takeable (Reserve q) a =
    cond_both (is_takeable (Reserve q) a) (Reserve q) ReserveRefused (λ o. IsTakeable o a)
    (λ e. let both = and_parts (nat_le 1 q) (nat_le q a.p) e in (leb-true 1 q both.0, leb-true q a.p both.1))
    (λ e. tt)
taken-takeable _ a = tt

-- ---- a legal history

-- a machine's record is of the attempt of the task that it names
attempted : (m : MachineState) (a : Attempt) (x : TaskState) → record_at m ≡ Busy a → slice_get m.tasks a.task ≡ Some x
    → (attempt_at m.tick (grants m a.task) x.program).outcome ≡ a.outcome
attempted m a x =
    named_cases
    (λ r. option_map_or (λ n. Busy (attempt_of m.tick n.0 (grants m n.0) n.1.program)) r Idle ≡ Busy a → slice_get m.tasks a.task ≡ Some x
    → (attempt_at m.tick (grants m a.task) x.program).outcome ≡ a.outcome) m.tasks
    (λ none is there. absurd cc)
    (λ i y named is there.
    let whole : attempt_of m.tick i (grants m i) y.program ≡ a = cc in
    let task : i ≡ a.task = ap (λ (b : Attempt). b.task) whole in
    let found : Some y ≡ Some x = sym named.there ∙ ap (slice_get m.tasks) task ∙ there in
    let same : y ≡ x = cc in
    ap (λ (z : TaskState). (attempt_at m.tick (grants m a.task) z.program).outcome) (sym same)
    ∙ ap (λ (k : ℕ). (attempt_at m.tick (grants m k) y.program).outcome) (sym task)
    ∙ ap (λ (b : Attempt). b.outcome) whole)

-- the server of the entry's task, after a history of t ticks, can take its record
abbrev pub IsTaken : TaskSet → ℕ → List Record → Entry → Type 0
IsTaken set t h (entries.Busy u a) = (x : TaskState) → slice_get (stands_after set t h).tasks a.task ≡ Some x → IsTakeable a.outcome x.serving.account
IsTaken set t h (entries.Idle u n) = Unit {0}

-- where a legal history goes on by the entry
pub legal-taken : (set : TaskSet) (t : ℕ) (e : Entry) → GoesOnBy set t e → IsTaken set t (legal set t) e
unfolding state_at
legal-taken set t (entries.Idle u n) goes = tt
legal-taken set t (entries.Busy u a) goes = λ x there.
    let m = state_at set t in
    let next : record_at m ∷ [] ≡ Busy a ∷ [] = append_cancel_left (legal set t) (record_at m ∷ []) (Busy a ∷ []) (sym (legal_next set t) ∙ goes) in
    let is : record_at m ≡ Busy a = cc in
    subst (λ o. IsTakeable o x.serving.account) (attempted m a x is there) (attempt-takeable m a.task m.tick x there)
