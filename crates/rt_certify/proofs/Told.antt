-- An attempt that came out so at some tick, and the same attempt where it is told nothing.
use Rattle.rt_certify.proofs.Common.{◌≡◌, ℕ, [], Option, Some, None, inl, inr, refl, sym, ap, subst, ◌∙◌, AttemptOutcome, Next, End, Write, WriteRefused, Sleep, Yield, Now, Reserve, ReserveRefused, Fault, Program, attempted, outcome_of, GoesOn, IsTold}
use Rattle.std.proofs.Common.{Bool, true, false, List, ◌⊎◌}
use Rattle.rt_exec.specs.Attempt.{attempt}
use Rattle.rt_exec.specs.declared.outcome.Call.{Call}
use Rattle.rt_exec.specs.declared.outcome.Call.TheVariants as calls
use Rattle.rt_exec.specs.declared.outcome.Outcome.{Outcome}
use Rattle.rt_exec.specs.declared.outcome.Outcome.TheVariants as outcomes
use Rattle.rt_history.specs.Calls.{Told, a0, written, writes, reserves, carried, told_at, attempt_at}
use Rattle.rt_laws.specs.Alone.{is_answered, asks}

-- an outcome that tells an answer
abbrev pub IsAnswered : AttemptOutcome → Type 0
IsAnswered (Now u) = Unit {0}
IsAnswered (Reserve x) = Unit {0}
IsAnswered ReserveRefused = Unit {0}
IsAnswered _ = ⊥

-- an attempt asks for nothing, and comes out the same whatever it would be told; or it asks, and tells its answer
abbrev IsEither : Bool → Told → Told → Type 0
IsEither asking told none = ((asking ≡ false) × ((told ≡ none) × (IsAnswered told.outcome → ⊥))) ⊎ ((asking ≡ true) × IsAnswered told.outcome)

writes-quiet : (bytes : Option (List ℕ)) (p : Program) → IsAnswered (writes bytes p).outcome → ⊥
writes-quiet (Some bytes) p answered = answered
writes-quiet None p answered = answered

reserves-answered : (b : Bool) (p : Program) → IsAnswered (reserves b p).outcome
reserves-answered true p = tt
reserves-answered false p = tt

carried-either : (u : ℕ) (granted : ℕ → Bool) (call : Call) (p : Program)
    → IsEither (is_answered (outcomes.Call call)) (carried u granted call p) (carried 0 (λ q. false) call p)
carried-either u granted calls.End p = inl (refl, (refl, λ answered. answered))
carried-either u granted calls.Write p = inl (refl, (refl, writes-quiet (written p) p))
carried-either u granted calls.SleepUntil p = inl (refl, (refl, λ answered. answered))
carried-either u granted calls.Yield p = inl (refl, (refl, λ answered. answered))
carried-either u granted calls.Now p = inr (refl, tt)
carried-either u granted calls.Reserve p = inr (refl, reserves-answered (granted (a0 p)) p)

told_at-either : (u : ℕ) (granted : ℕ → Bool) (o : Outcome) (p : Program) → IsEither (is_answered o) (told_at u granted o p) (told_at 0 (λ q. false) o p)
told_at-either u granted outcomes.Next p = inl (refl, (refl, λ answered. answered))
told_at-either u granted (outcomes.Call call) p = carried-either u granted call p
told_at-either u granted (outcomes.Fault fault) p = inl (refl, (refl, λ answered. answered))

attempt-either : (u : ℕ) (granted : ℕ → Bool) (p : Program) → IsEither (asks p) (attempt_at u granted p) (attempt_at 0 (λ q. false) p)
unfolding attempt_at
attempt-either u granted p = told_at-either u granted (attempt p.split p.state).outcome (record p { state = (attempt p.split p.state).state })

-- ---- what came out

-- one that tells no answer comes out so where it is told nothing
pub quiet : (x y : Program) (o : AttemptOutcome) → (IsAnswered o → ⊥) → IsTold x o y → (outcome_of x ≡ o) × (attempted [] x ≡ y)
quiet x y o none told =
    elim (attempt-either told.0 told.1 x) [
      | inl still ↦ (ap (λ (t : Told). t.outcome) (sym still.1.0) ∙ told.2, ap (λ (t : Told). t.program) (sym still.1.0) ∙ told.3)
      | inr asking ↦ absurd (none (subst IsAnswered told.2 asking.1))
    ]

-- one that tells an answer asked for it
pub asked : (x y : Program) (o : AttemptOutcome) → IsAnswered o → IsTold x o y → asks x ≡ true
asked x y o answered told =
    elim (attempt-either told.0 told.1 x) [
      | inl still ↦ absurd (still.1.1 (subst IsAnswered (sym told.2) answered))
      | inr asking ↦ asking.0
    ]

answered-stops : (A : Type 0) (C : ℕ → Type 0) (o : AttemptOutcome) → IsAnswered o → GoesOn A C o → ⊥
answered-stops A C (Now u) answered goes = goes
answered-stops A C (Reserve x) answered goes = goes
answered-stops A C ReserveRefused answered goes = goes
answered-stops A C Next answered goes = answered
answered-stops A C End answered goes = answered
answered-stops A C (Write n) answered goes = answered
answered-stops A C WriteRefused answered goes = answered
answered-stops A C (Sleep w) answered goes = answered
answered-stops A C Yield answered goes = answered
answered-stops A C (Fault fault) answered goes = answered

-- a program that asks is certified no further
pub asks-stops : (A : Type 0) (C : ℕ → Type 0) (x : Program) → asks x ≡ true → GoesOn A C (outcome_of x) → ⊥
asks-stops A C x asking goes =
    elim (attempt-either 0 (λ q. false) x) [
      | inl still ↦ let no : asks x ≡ false = still.0 in absurd cc
      | inr asking ↦ answered-stops A C (outcome_of x) asking.1 goes
    ]
