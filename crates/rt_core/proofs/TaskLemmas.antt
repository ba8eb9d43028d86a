-- One task over a wake and over an attempt: what is read of it, and that it stays sound.
use Rattle.rt_core.proofs.Common.{◌≡◌, ℕ, ◌+◌, ◌<◌, ◌≤◌, Bool, true, false, cond, Option, Some, slice_get, refl, sym, ap, subst, ◌∙◌, arith, attempt, Account, Mode, Active, Program, a0, reserves, attempt_at, TaskState, MachineState, grants, woken_task, ran, wake_in, wake_at, awake, IsSound}
use Rattle.rt_server.specs.Account.{coming}
use Rattle.rt_server.specs.Arrival.{woken}
use Rattle.rt_server.proofs.AccountLaws.{wake_gives_budget}
use Rattle.rt_history.specs.declared.mode.Mode.TheVariants.{Asleep, Ended, Faulted}
use Rattle.rt_exec.specs.declared.outcome.Outcome.{Outcome}
use Rattle.rt_history.specs.declared.record.AttemptOutcome.TheVariants.{Reserve, ReserveRefused}
use Rattle.rt_history.specs.Calls.{told_at}
use Rattle.rt_history.proofs.Granting.{attempt-takeable}
use Rattle.rt_core.specs.declared.task.Ran.{Ran}
use Rattle.rt_core.specs.declared.task.Ran.TheVariants.{Next, Other, Asks}
use Rattle.rt_core.specs.Working.Ran.{IsAttempt, IsAsked, Runs}
use Rattle.rt_history.proofs.ServingLaws.{due-woken, due-kept, charged-filled, IsBounded-woken, IsBounded-charged, IsBounded-later}

-- a mode that has a wake is asleep until then
pub wake_in-some : (m : Mode) (w : ℕ) → wake_in m ≡ Some w → m ≡ Asleep w
wake_in-some Active w h = absurd cc
wake_in-some (Asleep v) w h = let same : v ≡ w = cc in ap Asleep same
wake_in-some Ended w h = absurd cc
wake_in-some (Faulted fault) w h = absurd cc

-- ---- wakes

-- a task that is awake already isn't woken again
pub woken-awake : (t w : ℕ) (x : TaskState) → wake_at x ≡ Some w → w ≤ t → woken_task t (awake w x) ≡ woken_task t x
woken-awake t w x at come =
    ap (λ (s : _). record { program = x.program; serving = s }) (sym (due-woken t w x.serving.mode x.serving.account (wake_in-some x.serving.mode w at) come))

-- a task whose wake isn't due stays
pub woken_task-kept : (t : ℕ) (x : TaskState) → ((w : ℕ) → wake_at x ≡ Some w → t < w) → woken_task t x ≡ x
woken_task-kept t x later =
    ap (λ (s : _). record { program = x.program; serving = s }) (due-kept t x.serving.mode x.serving.account (λ w asleep. later w (ap wake_in asleep)))

wake_begins : (w : ℕ) (s : Account) → 1 ≤ s.q → 1 ≤ coming s → (s.c ≡ 0 → s.d ≡ 0) → (woken w s).c ≡ 0 → (woken w s).d ≡ 0
wake_begins w s positive comes begun empty = let some = wake_gives_budget w s positive comes begun in absurd (omega arith)

pub IsSound-awake : (t w : ℕ) (x : TaskState) → w ≤ t → IsSound t x → IsSound t (awake w x)
IsSound-awake t w x come sound = record {
  account = IsBounded-woken w t x.serving.account come sound.account;
  begun = wake_begins w x.serving.account sound.account.positive sound.account.comes sound.begun;
  active = λ _. wake_gives_budget w x.serving.account sound.account.positive sound.account.comes sound.begun;
}

-- ---- attempts

-- a bound for a tick is one for each later
pub IsSound-later : (t u : ℕ) (x : TaskState) → t ≤ u → IsSound t x → IsSound u x
IsSound-later t u x le sound = record { account = IsBounded-later t u x.serving.account le sound.account; begun = sound.begun; active = sound.active }

IsSound-ran : (m : MachineState) (i : ℕ) (x : TaskState) → slice_get m.tasks i ≡ Some x → IsSound m.tick x → IsSound (m.tick + 1) (ran m.tick (grants m i) x)
IsSound-ran m i x there sound =
    let o = (attempt_at m.tick (grants m i) x.program).outcome in
    let filled = charged-filled o x.serving.account sound.account.positive in
    record {
      account = IsBounded-charged m.tick o x.serving.account sound.account (attempt-takeable m i m.tick x there);
      begun = λ empty. absurd (omega (arith, filled));
      active = λ _. filled;
    }

IsSound-attempt : (m : MachineState) (i : ℕ) (a : _) (x y : TaskState) → slice_get m.tasks i ≡ Some x → IsSound m.tick x → IsAttempt m.tick i a x y → IsSound (m.tick + 1) y
IsSound-attempt m i a x y there sound runs = subst (IsSound (m.tick + 1)) (sym (runs (grants m i)).1) (IsSound-ran m i x there sound)

-- a program's state doesn't enter
IsSound-same : (t : ℕ) (x y : TaskState) → y.serving ≡ x.serving → IsSound t x → IsSound t y
IsSound-same t x y same sound =
    subst (λ s. IsSound t (record { program = y.program; serving = s })) (sym same) (record { account = sound.account; begun = sound.begun; active = sound.active })

pub Asked-serving : (pc : ℕ) (word : Option ℕ) (budget : ℕ) (x y : TaskState) → IsAsked pc word budget x y → y.serving ≡ x.serving
Asked-serving pc word budget x y asked = ap (λ (s : TaskState). s.serving) asked.state

pub Runs-sound : (m : MachineState) (i : ℕ) (x y : TaskState) (r : Ran) → slice_get m.tasks i ≡ Some x → IsSound m.tick x → Runs m.tick i r x y → IsSound (m.tick + 1) y
Runs-sound m i x y (Next pc word spent) there sound runs = IsSound-attempt m i _ x y there sound runs
Runs-sound m i x y (Other a) there sound runs = IsSound-attempt m i a x y there sound runs
Runs-sound m i x y (Asks pc budget word) there sound runs =
    IsSound-same (m.tick + 1) x y (Asked-serving pc word budget x y runs) (IsSound-later m.tick (m.tick + 1) x (omega arith) sound)

-- what is told of an attempt that is finished
pub attempt-told : (t : ℕ) (granted : ℕ → Bool) (s left : TaskState) (o : Outcome) → o ≡ (attempt s.program.split s.program.state).outcome
    → left ≡ record s { program = record s.program { state = (attempt s.program.split s.program.state).state } } → told_at t granted o left.program ≡ attempt_at t granted s.program
unfolding attempt_at
attempt-told t granted s left o is state =
    ap (λ (x : Outcome). told_at t granted x left.program) is ∙ ap (λ (y : TaskState). told_at t granted (attempt s.program.split s.program.state).outcome y.program) state

-- ---- a reserve and its answer

-- the attempt is that of its answer
pub reserve-told : (t : ℕ) (granted : ℕ → Bool) (pc : ℕ) (word : Option ℕ) (budget : ℕ) (x y : TaskState) → IsAsked pc word budget x y
    → attempt_at t granted x.program ≡ reserves (granted budget) y.program
unfolding attempt_at
reserve-told t granted pc word budget x y asked =
    let p : Program = record x.program { state = (attempt x.program.split x.program.state).state } in
    let left : y.program ≡ p = ap (λ (s : TaskState). s.program) asked.state in
    let told : attempt_at t granted x.program ≡ reserves (granted (a0 p)) p = ap (λ (o : _). told_at t granted o p) asked.reserves in
    told ∙ ap (λ (q : Program). reserves (granted (a0 q)) q) (sym left) ∙ ap (λ (b : ℕ). reserves (granted b) y.program) (sym asked.budget_is)

pub reserves-outcome : (b : Bool) (p : Program) (budget : ℕ) → budget ≡ a0 p → (reserves b p).outcome ≡ cond b (Reserve budget) ReserveRefused
reserves-outcome true p budget is = ap Reserve (sym is)
reserves-outcome false p budget is = refl
