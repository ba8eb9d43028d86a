-- A task's own part of a history: what records add to it, and what that makes of its program.
use Rattle.rt_history.proofs.Common.{◌≡◌, ℕ, zero, suc, ◌+◌, ◌==◌, true, false, cond, List, [], ◌∷◌, ◌++◌, length, replicate, refl, ap, ◌∙◌, arith, add-zero, AttemptOutcome, Attempt, Record, Idle, Busy, Program, attempt_at, own}
use Rattle.std.proofs.lemmas.List.{append-nil}
use Rattle.rt_history.specs.OwnPart.{own_from, granted_by, program_after}

-- what one record of tick u adds to the part of task i
abbrev pub added : ℕ → ℕ → Record → List (ℕ × AttemptOutcome)
added u i r = own_from u i (r ∷ [])

own_from-append : (u i : ℕ) (h k : List Record) → own_from u i (h ++ k) ≡ own_from u i h ++ own_from (u + length h) i k
own_from-append u i [] k = rw add-zero refl
own_from-append u i (Idle ∷ h) k =
    let at : (u + 1) + length h ≡ u + suc (length h) = omega arith in
    own_from-append (u + 1) i h k ∙ ap (λ (v : ℕ). own_from (u + 1) i h ++ own_from v i k) at
own_from-append u i (Busy a ∷ h) k =
    let at : (u + 1) + length h ≡ u + suc (length h) = omega arith in
    let more : own_from (u + 1) i (h ++ k) ≡ own_from (u + 1) i h ++ own_from (u + suc (length h)) i k =
    own_from-append (u + 1) i h k ∙ ap (λ (v : ℕ). own_from (u + 1) i h ++ own_from v i k) at in
    elim (a.task == i) as (λ b. cond b ((u, a.outcome) ∷ own_from (u + 1) i (h ++ k)) (own_from (u + 1) i (h ++ k))
    ≡ cond b ((u, a.outcome) ∷ own_from (u + 1) i h) (own_from (u + 1) i h) ++ own_from (u + suc (length h)) i k) [
      | true ↦ ap (λ (es : List (ℕ × AttemptOutcome)). (u, a.outcome) ∷ es) more
      | false ↦ more
    ]

own_from-idle : (u i n : ℕ) → own_from u i (replicate n Idle) ≡ []
own_from-idle u i zero = refl
own_from-idle u i (suc n) = own_from-idle (u + 1) i n

-- the part of a history of t records, and what comes after them
pub own-append : (t i : ℕ) (h k : List Record) → length h ≡ t → own i (h ++ k) ≡ own i h ++ own_from t i k
own-append t i h k len =
    let at : 0 + length h ≡ t = omega arith in
    own_from-append 0 i h k ∙ ap (λ (v : ℕ). own i h ++ own_from v i k) at

pub own-idle : (t i n : ℕ) (h : List Record) → length h ≡ t → own i (h ++ replicate n Idle) ≡ own i h
own-idle t i n h len = own-append t i h (replicate n Idle) len ∙ ap (λ (es : List (ℕ × AttemptOutcome)). own i h ++ es) (own_from-idle t i n) ∙ append-nil (own i h)

-- ---- one record

pub added-other : (t i : ℕ) (a : Attempt) → (a.task == i) ≡ false → added t i (Busy a) ≡ []
added-other t i a other = rw other refl

pub added-own : (t i : ℕ) (a : Attempt) (o : AttemptOutcome) → (a.task == i) ≡ true → a.outcome ≡ o → added t i (Busy a) ≡ (t, o) ∷ []
added-own t i a o own same = rw (own, same) refl

-- a record that adds nothing
pub own-same : (t i : ℕ) (h : List Record) (r : Record) → length h ≡ t → added t i r ≡ [] → own i (h ++ r ∷ []) ≡ own i h
own-same t i h r len none = own-append t i h (r ∷ []) len ∙ ap (λ (es : List (ℕ × AttemptOutcome)). own i h ++ es) none ∙ append-nil (own i h)

pub own-other : (t i : ℕ) (h : List Record) (a : Attempt) → length h ≡ t → (a.task == i) ≡ false → own i (h ++ Busy a ∷ []) ≡ own i h
own-other t i h a len other = own-same t i h (Busy a) len (added-other t i a other)

pub own-own : (t i : ℕ) (h : List Record) (a : Attempt) → length h ≡ t → (a.task == i) ≡ true → own i (h ++ Busy a ∷ []) ≡ own i h ++ (t, a.outcome) ∷ []
own-own t i h a len hits = own-append t i h (Busy a ∷ []) len ∙ ap (λ (es : List (ℕ × AttemptOutcome)). own i h ++ es) (added-own t i a a.outcome hits refl)

-- ---- the program

pub program_after-append : (p : Program) (es fs : List (ℕ × AttemptOutcome)) → program_after p (es ++ fs) ≡ program_after (program_after p es) fs
program_after-append p [] fs = refl
program_after-append p (e ∷ es) fs = program_after-append (attempt_at e.0 (granted_by e.1) p).program es fs
