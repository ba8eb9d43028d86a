-- What was seen of a task in a legal history certifies its program; and a certificate holds for more budget, a lesser period, an earlier
-- start and fewer jobs.
use Rattle.rt_laws.proofs.Common.{◌≡◌, ℕ, zero, suc, ◌+◌, ◌<◌, ◌≤◌, false, List, [], ◌∷◌, length, map, slice_get, Some, ◌⊎◌, inl, inr, sym, ap, subst, ◌∙◌, arith, SetTask, TaskSet, AttemptOutcome, Next, End, Write, WriteRefused, Sleep, Yield, Now, Reserve, ReserveRefused, Fault, Program, Origin, loaded, first_program, origin, Told, attempt_at, own, granted_by, legal, attempted, outcome_of, GoesOn, Keeps, IsCertified}
use Rattle.rt_laws.proofs.Isolation.{Follows, follows}
use Rattle.rt_laws.specs.Seen.{KeepsSeen, Breaks, BreaksSeen}
use Rattle.rt_laws.proofs.Attempts.{attempt-still, attempt-seen}

pub goes-map : (A B : Type 0) (C D : ℕ → Type 0) (o : AttemptOutcome) → (A → B) → ((w : ℕ) → C w → D w) → GoesOn A C o → GoesOn B D o
goes-map A B C D Next stays slept goes = stays goes
goes-map A B C D (Write n) stays slept goes = stays goes
goes-map A B C D WriteRefused stays slept goes = stays goes
goes-map A B C D (Sleep w) stays slept goes = slept w goes
goes-map A B C D End stays slept goes = tt
goes-map A B C D Yield stays slept goes = absurd goes
goes-map A B C D (Now x) stays slept goes = absurd goes
goes-map A B C D (Reserve x) stays slept goes = absurd goes
goes-map A B C D ReserveRefused stays slept goes = absurd goes
goes-map A B C D (Fault fault) stays slept goes = absurd goes

-- ---- a weaker certificate

keeps-weaker : (q p b d k n l r v m : ℕ) (x : Program) → q ≤ b → d ≤ p → v ≤ r → l ≤ n → Keeps q p k n r m x → Keeps b d k l v m x
keeps-weaker q p b d k n zero r v m x more less early fewer keeps = tt
keeps-weaker q p b d k zero (suc l) r v m x more less early fewer keeps = absurd (omega (arith, fewer))
keeps-weaker q p b d zero (suc n) (suc l) r v m x more less early fewer keeps = absurd keeps
keeps-weaker q p b d (suc k) (suc n) (suc l) r v m x more less early fewer keeps = (
  omega (arith, keeps.0, more),
  goes-map (Keeps q p k (suc n) r (m + 1) (attempted [] x)) (Keeps b d k (suc l) v (m + 1) (attempted [] x))
      (λ w. (r + p ≤ w) × Keeps q p k n w 0 (attempted [] x)) (λ w. (v + d ≤ w) × Keeps b d k l w 0 (attempted [] x)) (outcome_of x)
      (keeps-weaker q p b d k (suc n) (suc l) r v (m + 1) (attempted [] x) more less early fewer)
      (λ w slept. (omega (arith, slept.0, less, early), keeps-weaker q p b d k n l w w 0 (attempted [] x) more less (omega arith) (omega (arith, fewer)) slept.1))
      keeps.1,
)

pub certified-weaker : (o : Origin) (q p s n b d v l : ℕ) → q ≤ b → d ≤ p → v ≤ s → l ≤ n → IsCertified o q p s n → IsCertified o b d v l
certified-weaker o q p s n b d v l more less early fewer certified =
    (certified.0, keeps-weaker q p b d certified.0 n l s v 0 (loaded o) more less early fewer certified.1)

-- ---- what was seen

seen-keeps : (q p n r m : ℕ) (x : Program) (es : List (ℕ × AttemptOutcome)) → Follows x es → KeepsSeen q p n r m (map (λ e. e.1) es) → Keeps q p (length es) n r m x
seen-keeps q p zero r m x es along seen = tt
seen-keeps q p (suc n) r m x [] along seen = absurd seen
seen-keeps q p (suc n) r m x (e ∷ es) along seen =
    let os = map (λ (f : ℕ × AttemptOutcome). f.1) es in
    let came : GoesOn (KeepsSeen q p (suc n) r (m + 1) os) (λ w. (r + p ≤ w) × KeepsSeen q p n w 0 os) (attempt_at e.0 (granted_by e.1) x).outcome =
    subst (GoesOn (KeepsSeen q p (suc n) r (m + 1) os) (λ w. (r + p ≤ w) × KeepsSeen q p n w 0 os)) (sym along.0) seen.1 in
    let same : attempt_at e.0 (granted_by e.1) x ≡ attempt_at 0 (λ b. false) x =
    attempt-seen (KeepsSeen q p (suc n) r (m + 1) os) (λ w. (r + p ≤ w) × KeepsSeen q p n w 0 os) e.0 (granted_by e.1) x came in
    let later : Follows (attempted [] x) es = subst (λ (y : Told). Follows y.program es) same along.1 in (
      seen.0,
      goes-map (KeepsSeen q p (suc n) r (m + 1) os) (Keeps q p (length es) (suc n) r (m + 1) (attempted [] x))
          (λ w. (r + p ≤ w) × KeepsSeen q p n w 0 os) (λ w. (r + p ≤ w) × Keeps q p (length es) n w 0 (attempted [] x)) (outcome_of x)
          (seen-keeps q p (suc n) r (m + 1) (attempted [] x) es later)
          (λ w slept. (slept.0, seen-keeps q p n w 0 (attempted [] x) es later slept.1))
          (subst (λ (y : Told). GoesOn (KeepsSeen q p (suc n) r (m + 1) os) (λ w. (r + p ≤ w) × KeepsSeen q p n w 0 os) y.outcome) same came),
    )

pub certified-seen : (set : TaskSet) (t i n q p : ℕ) (s : SetTask) → slice_get set.tasks i ≡ Some s
    → KeepsSeen q p n s.start 0 (map (λ e. e.1) (own i (legal set t))) → IsCertified (origin s) q p s.start n
certified-seen set t i n q p s there seen =
    (length (own i (legal set t)), seen-keeps q p n s.start 0 (first_program s) (own i (legal set t)) (follows set t i s there) seen)

-- ---- what was seen refuses

goes-breaks : (A B : Type 0) (C D : ℕ → Type 0) (o : AttemptOutcome) → (A → B → ⊥) → ((w : ℕ) → C w → D w → ⊥) → GoesOn A C o → Breaks B D o → ⊥
goes-breaks A B C D Next stays slept goes breaks = stays goes breaks
goes-breaks A B C D (Write n) stays slept goes breaks = stays goes breaks
goes-breaks A B C D WriteRefused stays slept goes breaks = stays goes breaks
goes-breaks A B C D (Sleep w) stays slept goes breaks = slept w goes breaks
goes-breaks A B C D End stays slept goes breaks = breaks
goes-breaks A B C D Yield stays slept goes breaks = goes
goes-breaks A B C D (Now x) stays slept goes breaks = goes
goes-breaks A B C D (Reserve x) stays slept goes breaks = goes
goes-breaks A B C D ReserveRefused stays slept goes breaks = goes
goes-breaks A B C D (Fault fault) stays slept goes breaks = goes

seen-breaks : (q p k n r m : ℕ) (x : Program) (es : List (ℕ × AttemptOutcome)) → Follows x es → BreaksSeen q p n r m (map (λ e. e.1) es) → Keeps q p k n r m x → ⊥
seen-breaks q p k zero r m x es along breaks keeps = breaks
seen-breaks q p zero (suc n) r m x es along breaks keeps = keeps
seen-breaks q p (suc k) (suc n) r m x [] along breaks keeps = omega (arith, breaks, keeps.0)
seen-breaks q p (suc k) (suc n) r m x (e ∷ es) along breaks keeps =
    let os = map (λ (f : ℕ × AttemptOutcome). f.1) es in
    let y : Program = attempted [] x in
    let still : attempt_at e.0 (granted_by e.1) x ≡ attempt_at 0 (λ b. false) x =
    attempt-still (Keeps q p k (suc n) r (m + 1) y) (λ w. (r + p ≤ w) × Keeps q p k n w 0 y) e.0 (granted_by e.1) x keeps.1 in
    let outcome : outcome_of x ≡ e.1 = ap (λ (z : Told). z.outcome) (sym still) ∙ along.0 in
    let later : Follows y es = subst (λ (z : Told). Follows z.program es) still along.1 in
    elim breaks [
      | inl over ↦ omega (arith, over, keeps.0)
      | inr broken ↦ goes-breaks (Keeps q p k (suc n) r (m + 1) y) (BreaksSeen q p (suc n) r (m + 1) os)
          (λ w. (r + p ≤ w) × Keeps q p k n w 0 y) (λ w. (w < r + p) ⊎ BreaksSeen q p n w 0 os) e.1
          (λ goes broke. seen-breaks q p k (suc n) r (m + 1) y es later broke goes)
          (λ w slept broke. elim broke [
            | inl soon ↦ omega (arith, soon, slept.0)
            | inr behind ↦ seen-breaks q p k n w 0 y es later behind slept.1
          ])
          (subst (GoesOn (Keeps q p k (suc n) r (m + 1) y) (λ w. (r + p ≤ w) × Keeps q p k n w 0 y)) outcome keeps.1) broken
    ]

pub broken-seen : (set : TaskSet) (t i n q p : ℕ) (s : SetTask) → slice_get set.tasks i ≡ Some s
    → BreaksSeen q p n s.start 0 (map (λ e. e.1) (own i (legal set t))) → IsCertified (origin s) q p s.start n → ⊥
broken-seen set t i n q p s there breaks certified =
    seen-breaks q p certified.0 n s.start 0 (first_program s) (own i (legal set t)) (follows set t i s there) breaks certified.1
