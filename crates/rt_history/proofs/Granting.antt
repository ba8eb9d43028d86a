-- The answer of a reserve: what its record says of it, and what a grant says.
use Rattle.rt_history.proofs.Common.{◌≡◌, ℕ, ◌≤◌, nat_le, Bool, true, false, List, map, slice_get, slice_set, Option, Some, None, refl, sym, ap, ◌∙◌, Account, AttemptOutcome, Reserve, Program, attempt_at, TaskState, MachineState, grants}
use Rattle.std.proofs.Common.{◌&&◌}
use Rattle.std.proofs.lemmas.Bool.{leb-true, and_parts}
use Rattle.std.proofs.lemmas.Option.{slice_get-map}
use Rattle.std.specs.Option.{option_map}
use Rattle.rt_exec.specs.Attempt.{attempt}
use Rattle.rt_exec.specs.declared.outcome.Call.{Call}
use Rattle.rt_exec.specs.declared.outcome.Call.TheVariants as calls
use Rattle.rt_exec.specs.declared.outcome.Outcome.{Outcome}
use Rattle.rt_exec.specs.declared.outcome.Outcome.TheVariants as outcomes
use Rattle.rt_admit.specs.declared.reservation.Reserved.{Reserved}
use Rattle.rt_admit.specs.Reservation.{total_held, asking, is_granted_to}
use Rattle.rt_history.specs.Calls.{a0, written, writes, reserves, carried, told_at}
use Rattle.rt_history.specs.OwnPart.{granted_by}
use Rattle.rt_history.specs.Reservations.{reserved_of}
use Rattle.rt_history.specs.Working.Bounded.{IsTakeable}

-- ---- the record says the answer

reserves-same : (b : Bool) (p : Program) → reserves (granted_by (reserves b p).outcome (a0 p)) p ≡ reserves b p
reserves-same true p = refl
reserves-same false p = refl

carried-same : (u : ℕ) (granted : ℕ → Bool) (call : Call) (p : Program) → carried u (granted_by (carried u granted call p).outcome) call p ≡ carried u granted call p
carried-same u granted calls.End p = refl
carried-same u granted calls.Write p = refl
carried-same u granted calls.SleepUntil p = refl
carried-same u granted calls.Yield p = refl
carried-same u granted calls.Now p = refl
carried-same u granted calls.Reserve p = reserves-same (granted (a0 p)) p

told_at-same : (u : ℕ) (granted : ℕ → Bool) (o : Outcome) (p : Program) → told_at u (granted_by (told_at u granted o p).outcome) o p ≡ told_at u granted o p
told_at-same u granted outcomes.Next p = refl
told_at-same u granted (outcomes.Call call) p = carried-same u granted call p
told_at-same u granted (outcomes.Fault fault) p = refl

-- an attempt again, its reserve being answered as its record says
pub attempt_at-same : (u : ℕ) (granted : ℕ → Bool) (p : Program) → attempt_at u (granted_by (attempt_at u granted p).outcome) p ≡ attempt_at u granted p
unfolding attempt_at
attempt_at-same u granted p = told_at-same u granted (attempt p.split p.state).outcome (record p { state = (attempt p.split p.state).state })

-- ---- a reserve was granted

writes-granted : (granted : ℕ → Bool) (bytes : Option (List ℕ)) (p : Program) (x : ℕ) → (writes bytes p).outcome ≡ Reserve x → granted x ≡ true
writes-granted granted (Some bytes) p x is = absurd cc
writes-granted granted None p x is = absurd cc

reserves-granted : (granted : ℕ → Bool) (b : Bool) (p : Program) (x : ℕ) → granted (a0 p) ≡ b → (reserves b p).outcome ≡ Reserve x → granted x ≡ true
reserves-granted granted true p x accepted is = let same : a0 p ≡ x = cc in ap granted (sym same) ∙ accepted
reserves-granted granted false p x refused is = absurd cc

carried-granted : (u : ℕ) (granted : ℕ → Bool) (call : Call) (p : Program) (x : ℕ) → (carried u granted call p).outcome ≡ Reserve x → granted x ≡ true
carried-granted u granted calls.End p x is = absurd cc
carried-granted u granted calls.Write p x is = writes-granted granted (written p) p x is
carried-granted u granted calls.SleepUntil p x is = absurd cc
carried-granted u granted calls.Yield p x is = absurd cc
carried-granted u granted calls.Now p x is = absurd cc
carried-granted u granted calls.Reserve p x is = reserves-granted granted (granted (a0 p)) p x refl is

pub told_at-granted : (u : ℕ) (granted : ℕ → Bool) (o : Outcome) (p : Program) (x : ℕ) → (told_at u granted o p).outcome ≡ Reserve x → granted x ≡ true
told_at-granted u granted outcomes.Next p x is = absurd cc
told_at-granted u granted (outcomes.Call call) p x is = carried-granted u granted call p x is
told_at-granted u granted (outcomes.Fault fault) p x is = absurd cc

-- a budget that was reserved had been granted
pub attempt_at-granted : (u : ℕ) (granted : ℕ → Bool) (p : Program) (x : ℕ) → (attempt_at u granted p).outcome ≡ Reserve x → granted x ≡ true
unfolding attempt_at
attempt_at-granted u granted p x is = told_at-granted u granted (attempt p.split p.state).outcome (record p { state = (attempt p.split p.state).state }) x is

-- ---- what a grant says

-- task i, which is x, may reserve the budget q
pub record IsGrant (m : MachineState) (i q : ℕ) (x : TaskState) : Type 0 where
  pub positive : 1 ≤ q
  pub within : q ≤ x.serving.account.p
  pub load : total_held m.hyper (slice_set (map reserved_of m.tasks) i (asking q (reserved_of x))) ≤ m.hyper

pub grant-of : (m : MachineState) (i q : ℕ) (x : TaskState) → slice_get m.tasks i ≡ Some x → grants m i q ≡ true → IsGrant m i q x
grant-of m i q x there granted =
    let rs : List Reserved = map reserved_of m.tasks in
    let r : Reserved = reserved_of x in
    let here : slice_get rs i ≡ Some r = slice_get-map reserved_of m.tasks i ∙ ap (option_map reserved_of) there in
    let all : is_granted_to m.hyper rs i q (Some r) ≡ true = sym (ap (is_granted_to m.hyper rs i q) here) ∙ granted in
    let first = and_parts (nat_le 1 q) (nat_le q r.period && nat_le (total_held m.hyper (slice_set rs i (asking q r))) m.hyper) all in
    let second = and_parts (nat_le q r.period) (nat_le (total_held m.hyper (slice_set rs i (asking q r))) m.hyper) first.1 in
    record {
      positive = leb-true 1 q first.0;
      within = leb-true q r.period second.0;
      load = leb-true (total_held m.hyper (slice_set rs i (asking q r))) m.hyper second.1;
    }

-- any record but a reserve can be taken
pub takeable-of : (outcome : AttemptOutcome) (a : Account) → ((q : ℕ) → outcome ≡ Reserve q → (1 ≤ q) × (q ≤ a.p)) → IsTakeable outcome a
takeable-of (Reserve q) a reserves = reserves q refl
takeable-of _ a reserves = tt

-- a server can take the record of its task's attempt
pub attempt-takeable : (m : MachineState) (i t : ℕ) (x : TaskState) → slice_get m.tasks i ≡ Some x
    → IsTakeable (attempt_at t (grants m i) x.program).outcome x.serving.account
attempt-takeable m i t x there =
    takeable-of (attempt_at t (grants m i) x.program).outcome x.serving.account (λ q is.
    let grant = grant-of m i q x there (attempt_at-granted t (grants m i) x.program q is) in
    (grant.positive, grant.within))
