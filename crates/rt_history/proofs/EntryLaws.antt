-- The entries of records that go on: what comes after an attempt, or after an idle stretch that is whole, has entries of its own.
use Rattle.rt_history.proofs.Common.{◌≡◌, ℕ, zero, suc, ◌+◌, ◌≤◌, List, [], ◌∷◌, ◌++◌, length, replicate, refl, ap, ◌∙◌, arith, add-one, add-zero, Attempt, Record, Idle, Busy, Entry}
use Rattle.rt_history.specs.declared.record.Record.TheVariants as records
use Rattle.rt_history.specs.declared.record.Entry.TheVariants as entry
use Rattle.rt_history.specs.Entries.{start_of, ticks_of, records_of, idle_before, entries_from}
use Rattle.rt_history.specs.Working.EndsBusy.{EndsBusy}

-- ---- entries of joined records

pub EndsBusy-push : (h : List Record) (a : Attempt) → EndsBusy (h ++ Busy a ∷ [])
EndsBusy-push [] a = tt
EndsBusy-push (r ∷ []) a = tt
EndsBusy-push (r ∷ s ∷ h) a = EndsBusy-push (s ∷ h) a

idle_before-busy : (t : ℕ) (es : List Entry) (u : ℕ) (a : Attempt) (later : List Entry) → idle_before t (es ++ entry.Busy u a ∷ later) ≡ idle_before t es ++ entry.Busy u a ∷ later
idle_before-busy t [] u a later = refl
idle_before-busy t (entry.Idle v n ∷ es) u a later = refl
idle_before-busy t (entry.Busy v b ∷ es) u a later = refl

idle_before-cons : (t : ℕ) (e : Entry) (es more : List Entry) → idle_before t (e ∷ es ++ more) ≡ idle_before t (e ∷ es) ++ more
idle_before-cons t (entry.Idle v n) es more = refl
idle_before-cons t (entry.Busy v b) es more = refl

-- what follows an attempt has entries of its own
pub entries_from-busy : (t : ℕ) (h : List Record) (a : Attempt) (more : List Record) → entries_from t (h ++ Busy a ∷ more) ≡ entries_from t h ++ entries_from (t + length h) (Busy a ∷ more)
entries_from-busy t [] a more = rw add-zero refl
entries_from-busy t (Busy b ∷ h) a more =
    let at : (t + 1) + length h ≡ t + suc (length h) = omega arith in
    ap (λ (es : List Entry). entry.Busy t b ∷ es) (entries_from-busy (t + 1) h a more ∙ ap (λ (u : ℕ). entries_from (t + 1) h ++ entries_from u (Busy a ∷ more)) at)
entries_from-busy t (Idle ∷ h) a more =
    let at : (t + 1) + length h ≡ t + suc (length h) = omega arith in
    ap (idle_before t) (entries_from-busy (t + 1) h a more ∙ ap (λ (u : ℕ). entries_from (t + 1) h ++ entries_from u (Busy a ∷ more)) at)
    ∙ idle_before-busy t (entries_from (t + 1) h) (t + suc (length h)) a (entries_from (t + suc (length h) + 1) more)

-- records have a first entry
record Begins (es : List Entry) : Type 0 where
  first : Entry
  others : List Entry
  is : es ≡ first ∷ others

idle_begins : (t : ℕ) (es : List Entry) → Begins (idle_before t es)
idle_begins t [] = record { first = entry.Idle t 1; others = []; is = refl }
idle_begins t (entry.Idle v n ∷ es) = record { first = entry.Idle t (n + 1); others = es; is = refl }
idle_begins t (entry.Busy v b ∷ es) = record { first = entry.Idle t 1; others = entry.Busy v b ∷ es; is = refl }

begins : (t : ℕ) (r : Record) (h : List Record) → Begins (entries_from t (r ∷ h))
begins t Idle h = idle_begins t (entries_from (t + 1) h)
begins t (Busy b) h = record { first = entry.Busy t b; others = entries_from (t + 1) h; is = refl }

idle_before-append : (t : ℕ) (es more : List Entry) → Begins es → idle_before t (es ++ more) ≡ idle_before t es ++ more
idle_before-append t es more b = rw b.is (idle_before-cons t b.first b.others more)

-- what follows records that end busy has entries of its own
pub entries_from-ends : (t : ℕ) (h more : List Record) → EndsBusy h → entries_from t (h ++ more) ≡ entries_from t h ++ entries_from (t + length h) more
entries_from-ends t [] more ends = rw add-zero refl
entries_from-ends t (Idle ∷ []) more ends = absurd ends
entries_from-ends t (Busy b ∷ []) more ends = refl
entries_from-ends t (Busy b ∷ s ∷ h) more ends =
    let at : (t + 1) + length (s ∷ h) ≡ t + suc (length (s ∷ h)) = omega arith in
    ap (λ (es : List Entry). entry.Busy t b ∷ es) (entries_from-ends (t + 1) (s ∷ h) more ends ∙ ap (λ (u : ℕ). entries_from (t + 1) (s ∷ h) ++ entries_from u more) at)
entries_from-ends t (Idle ∷ s ∷ h) more ends =
    let at : (t + 1) + length (s ∷ h) ≡ t + suc (length (s ∷ h)) = omega arith in
    ap (idle_before t) (entries_from-ends (t + 1) (s ∷ h) more ends ∙ ap (λ (u : ℕ). entries_from (t + 1) (s ∷ h) ++ entries_from u more) at)
    ∙ idle_before-append t (entries_from (t + 1) (s ∷ h)) (entries_from (t + suc (length (s ∷ h))) more) (begins (t + 1) s h)

-- an idle stretch alone
pub entries_from-idle : (t k : ℕ) → entries_from t (replicate (suc k) Idle) ≡ entry.Idle t (suc k) ∷ []
entries_from-idle t zero = refl
entries_from-idle t (suc k) = rw (entries_from-idle (t + 1) k, add-one) refl

-- ---- one entry

-- the first entry begins at tick u
abbrev pub StartsAt : ℕ → List Entry → Type 0
StartsAt u [] = Unit {0}
StartsAt u (x ∷ xs) = start_of x ≡ u

pub starts : (u : ℕ) (rs : List Record) → StartsAt u (entries_from u rs)
starts u [] = tt
starts u (records.Busy rec ∷ rs) = refl
starts u (records.Idle ∷ rs) = idle-starts u (entries_from (u + 1) rs)
  where
    idle-starts : (v : ℕ) (xs : List Entry) → StartsAt v (idle_before v xs)
    idle-starts v [] = refl
    idle-starts v (entry.Busy t rec ∷ xs) = refl
    idle-starts v (entry.Idle t n ∷ xs) = refl

pub entries-alone : (u : ℕ) (e : Entry) → start_of e ≡ u → 1 ≤ ticks_of e → entries_from u (records_of e) ≡ e ∷ []
entries-alone u (entry.Busy t rec) at some = rw at refl
entries-alone u (entry.Idle t zero) at some = absurd (omega (arith, some))
entries-alone u (entry.Idle t (suc n)) at some = rw at (entries_from-idle u n)

idle-some : (u : ℕ) (xs : List Entry) → idle_before u xs ≡ [] → ⊥
idle-some u [] none = cc
idle-some u (entry.Busy t rec ∷ xs) none = cc
idle-some u (entry.Idle t n ∷ xs) none = cc

pub entries-none : (u : ℕ) (rs : List Record) → entries_from u rs ≡ [] → rs ≡ []
entries-none u [] none = refl
entries-none u (records.Busy rec ∷ rs) none = absurd cc
entries-none u (records.Idle ∷ rs) none = absurd (idle-some u (entries_from (u + 1) rs) none)
