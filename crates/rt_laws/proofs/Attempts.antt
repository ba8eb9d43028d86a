-- An attempt that is told nothing and comes out as one that asks for nothing comes out so at each tick.
use Rattle.rt_laws.proofs.Common.{◌≡◌, ℕ, Bool, true, false, refl, Program, attempt_at, outcome_of, GoesOn}
use Rattle.rt_exec.specs.Attempt.{attempt}
use Rattle.rt_exec.specs.declared.outcome.Call.{Call}
use Rattle.rt_exec.specs.declared.outcome.Call.TheVariants as calls
use Rattle.rt_exec.specs.declared.outcome.Outcome.{Outcome}
use Rattle.rt_exec.specs.declared.outcome.Outcome.TheVariants as outcomes
use Rattle.rt_history.specs.Calls.{a0, reserves, carried, told_at}

carried-still : (stays : Type 0) (slept : ℕ → Type 0) (u : ℕ) (granted : ℕ → Bool) (call : Call) (p : Program)
    → GoesOn stays slept (carried 0 (λ q. false) call p).outcome → carried u granted call p ≡ carried 0 (λ q. false) call p
carried-still stays slept u granted calls.End p goes = refl
carried-still stays slept u granted calls.Write p goes = refl
carried-still stays slept u granted calls.SleepUntil p goes = refl
carried-still stays slept u granted calls.Yield p goes = refl
carried-still stays slept u granted calls.Now p goes = absurd goes
carried-still stays slept u granted calls.Reserve p goes = absurd goes

told_at-still : (stays : Type 0) (slept : ℕ → Type 0) (u : ℕ) (granted : ℕ → Bool) (o : Outcome) (p : Program)
    → GoesOn stays slept (told_at 0 (λ q. false) o p).outcome → told_at u granted o p ≡ told_at 0 (λ q. false) o p
told_at-still stays slept u granted outcomes.Next p goes = refl
told_at-still stays slept u granted (outcomes.Call call) p goes = carried-still stays slept u granted call p goes
told_at-still stays slept u granted (outcomes.Fault fault) p goes = refl

pub attempt-still : (stays : Type 0) (slept : ℕ → Type 0) (u : ℕ) (granted : ℕ → Bool) (p : Program)
    → GoesOn stays slept (outcome_of p) → attempt_at u granted p ≡ attempt_at 0 (λ q. false) p
unfolding attempt_at
attempt-still stays slept u granted p goes =
    told_at-still stays slept u granted (attempt p.split p.state).outcome (record p { state = (attempt p.split p.state).state }) goes

-- ---- and the other way: an attempt that came out so at some tick, whatever it would have been told

reserves-goes : (stays : Type 0) (slept : ℕ → Type 0) (b : Bool) (p : Program) → GoesOn stays slept (reserves b p).outcome → ⊥
reserves-goes stays slept true p goes = goes
reserves-goes stays slept false p goes = goes

carried-seen : (stays : Type 0) (slept : ℕ → Type 0) (u : ℕ) (granted : ℕ → Bool) (call : Call) (p : Program)
    → GoesOn stays slept (carried u granted call p).outcome → carried u granted call p ≡ carried 0 (λ q. false) call p
carried-seen stays slept u granted calls.End p goes = refl
carried-seen stays slept u granted calls.Write p goes = refl
carried-seen stays slept u granted calls.SleepUntil p goes = refl
carried-seen stays slept u granted calls.Yield p goes = refl
carried-seen stays slept u granted calls.Now p goes = absurd goes
carried-seen stays slept u granted calls.Reserve p goes = absurd (reserves-goes stays slept (granted (a0 p)) p goes)

told_at-seen : (stays : Type 0) (slept : ℕ → Type 0) (u : ℕ) (granted : ℕ → Bool) (o : Outcome) (p : Program)
    → GoesOn stays slept (told_at u granted o p).outcome → told_at u granted o p ≡ told_at 0 (λ q. false) o p
told_at-seen stays slept u granted outcomes.Next p goes = refl
told_at-seen stays slept u granted (outcomes.Call call) p goes = carried-seen stays slept u granted call p goes
told_at-seen stays slept u granted (outcomes.Fault fault) p goes = refl

pub attempt-seen : (stays : Type 0) (slept : ℕ → Type 0) (u : ℕ) (granted : ℕ → Bool) (p : Program)
    → GoesOn stays slept (attempt_at u granted p).outcome → attempt_at u granted p ≡ attempt_at 0 (λ q. false) p
unfolding attempt_at
attempt-seen stays slept u granted p goes =
    told_at-seen stays slept u granted (attempt p.split p.state).outcome (record p { state = (attempt p.split p.state).state }) goes
