-- A set of one task has the history of that task alone.
use Rattle.rt_laws.proofs.Common.{◌≡◌, ℕ, zero, suc, ◌+◌, ◌*◌, ◌/◌, ◌≤◌, max, nat_le, ◌&&◌, true, false, Bool, cond, [], ◌∷◌, Some, refl, ap, subst, ◌∙◌, arith, mul-le-mul_right, mul-div-le, le-leb, leb-true, sum_by-cons, Account, coming, woken, SetTask, TaskSet, Mode, Active, Asleep, Ended, Faulted, AttemptOutcome, Reserve, Busy, Program, first_program, attempt_at, Serving, first_serving, due_in, due, mode_after, charged, TaskState, MachineState, grants, attempt_of, record_at, legal, state_at, due_cases, charged_cases}
use Rattle.std.proofs.Math.Nat.{max-le}
use Rattle.std.proofs.Math.Path.{fun_ext}
use Rattle.std.proofs.lemmas.Bool.{and_parts}
use Rattle.rt_admit.specs.declared.reservation.Reserved.{Reserved}
use Rattle.rt_admit.specs.Reservation.{held_weight, total_held, asking}
use Rattle.rt_server.proofs.AccountLaws.{spend_keeps_coming, yield_keeps_coming}
use Rattle.rt_history.specs.Reservations.{reserved_of}
use Rattle.rt_history.specs.Working.Step.{woken_task, ran, next_state}
use Rattle.rt_history.proofs.Granting.{attempt_at-granted}
use Rattle.rt_history.proofs.ServingLaws.{woken_cases, charged-grants}
use Rattle.rt_history.proofs.Steps.{state_next, legal_next}
use Rattle.rt_laws.specs.OneTask.{awake_at, granted_within, lone_record, lone_next, lone, lone_history}

abbrev mode_of : Serving → Mode
mode_of x = x.mode

mode-if : (b : Bool) (x y : Serving) → mode_of (cond b x y) ≡ cond b (mode_of x) (mode_of y)
mode-if true x y = refl
mode-if false x y = refl

due-mode : (t : ℕ) (m : Mode) (a : Account) → (due_in t m a).mode ≡ awake_at t m
due-mode t Active a = refl
due-mode t Ended a = refl
due-mode t (Faulted fault) a = refl
due-mode t (Asleep w) a = mode-if (nat_le w t) (record { account = woken w a; mode = Active }) (record { account = a; mode = Asleep w })

-- ---- its budgets

-- its period is p, and no budget is over it
record IsWithin (p : ℕ) (a : Account) : Type 0 where
  period : a.p ≡ p
  budget : a.q ≤ p
  comes : coming a ≤ p

within-due : (p t : ℕ) (m : Mode) (a : Account) → IsWithin p a → IsWithin p (due_in t m a).account
within-due p t m a now =
    due_cases (λ (s : Serving). IsWithin p s.account) t m a
    (λ w asleep come. woken_cases (IsWithin p) w a (λ fresh. record { period = now.period; budget = now.comes; comes = now.comes }) (λ kept. now)) (λ _. now)

-- a charge, with which a budget within the period may be reserved
within-charged : (p : ℕ) (outcome : AttemptOutcome) (a : Account) → ((x : ℕ) → outcome ≡ Reserve x → x ≤ p) → IsWithin p a → IsWithin p (charged outcome a)
within-charged p outcome a fits now =
    let grants = charged-grants outcome a in
    record {
      period = grants.1 ∙ now.period;
      budget = rw grants.0 now.budget;
      comes = charged_cases (λ b. coming b ≤ p) outcome a (rw (spend_keeps_coming a) now.comes) (rw (yield_keeps_coming a) now.comes) fits;
    }

-- ---- its reserves

granted-fits : (p x : ℕ) → granted_within p x ≡ true → x ≤ p
granted-fits p x granted = leb-true x p (and_parts (nat_le 1 x) (nat_le x p) granted).1

-- alone it holds no more than the hyperperiod
held-one : (h q : ℕ) (a : Account) (r : Reserved) → r.budget ≡ a.q → r.pending ≡ Some q → r.period ≡ a.p → a.q ≤ a.p → q ≤ a.p → total_held h (r ∷ []) ≤ h
held-one h q a r budget pending period within fits =
    let most : max a.q q ≤ a.p = max-le within fits in
    let part = mul-le-mul_right (h / a.p) most in
    let whole = mul-div-le h a.p in
    let one : held_weight h r ≡ max a.q q * (h / a.p) = rw (budget, pending, period) refl in
    let sum = sum_by-cons (held_weight h) r [] in
    omega (arith, part, whole, one, sum)

-- a machine of this one task
abbrev one_of : ℕ → ℕ → TaskState → MachineState
one_of h t x = record { hyper = h; tick = t; tasks = x ∷ [] }

-- it may reserve each budget up to its period
grants-at : (h t q : ℕ) (x : TaskState) → x.serving.account.q ≤ x.serving.account.p → grants (one_of h t x) 0 q ≡ granted_within x.serving.account.p q
grants-at h t q x within =
    let a = x.serving.account in
    let held = total_held h (asking q (reserved_of x) ∷ []) in
    elim (nat_le q a.p) as (λ b. nat_le q a.p ≡ b → (nat_le 1 q && (b && nat_le held h)) ≡ (nat_le 1 q && b)) [
      | true ↦ λ is.
          let fits = held-one h q a (asking q (reserved_of x)) refl refl refl within (leb-true q a.p is) in
          ap (λ (b : Bool). nat_le 1 q && b) (le-leb held h fits)
      | false ↦ λ _. refl
    ] refl

grants-one : (h t p : ℕ) (x : TaskState) → IsWithin p x.serving.account → grants (one_of h t x) 0 ≡ granted_within p
grants-one h t p x now =
    let within : x.serving.account.q ≤ x.serving.account.p = rw now.period now.budget in
    fun_ext (λ q. grants-at h t q x within ∙ ap (λ (k : ℕ). granted_within k q) now.period)

-- ---- one tick of it

record_one : (h t p : ℕ) (x : TaskState) → IsWithin p x.serving.account → record_at (one_of h t x) ≡ lone_record p t x.serving.mode x.program
record_one h t p x now = by_mode x.serving.mode x.program x.serving.account (grants-one h t p x now)
  where
    by_mode : (m : Mode) (q : Program) (a : Account) → grants (one_of h t (record { program = q; serving = record { account = a; mode = m } })) 0 ≡ granted_within p
        → record_at (one_of h t (record { program = q; serving = record { account = a; mode = m } })) ≡ lone_record p t m q
    by_mode Active q a same = ap (λ (granted : ℕ → Bool). Busy (attempt_of t 0 granted q)) same
    by_mode (Asleep w) q a same = refl
    by_mode Ended q a same = refl
    by_mode (Faulted fault) q a same = refl

-- how the task stands a tick later
record Next (h t p : ℕ) (m : Mode) (q : Program) (next : MachineState) : Type 0 where
  task : TaskState
  alone : next ≡ one_of h (t + 1) task
  program : task.program ≡ (lone_next p t m q).program
  mode : task.serving.mode ≡ (lone_next p t m q).mode
  within : IsWithin p task.serving.account

next_one : (h t p : ℕ) (x : TaskState) → IsWithin p x.serving.account → Next h t p x.serving.mode x.program (next_state (one_of h t x))
next_one h t p x now = by_mode x.serving.mode x.program x.serving.account (grants-one h t p x now) now
  where
    by_mode : (m : Mode) (q : Program) (a : Account) → grants (one_of h t (record { program = q; serving = record { account = a; mode = m } })) 0 ≡ granted_within p
        → IsWithin p a → Next h t p m q (next_state (one_of h t (record { program = q; serving = record { account = a; mode = m } })))
    by_mode Active q a same now =
        let told = attempt_at t (granted_within p) q in
        let here : TaskState = record { program = q; serving = record { account = a; mode = Active } } in
        record {
          task = woken_task (t + 1) (ran t (granted_within p) here);
          alone = ap (λ (granted : ℕ → Bool). one_of h (t + 1) (woken_task (t + 1) (ran t granted here))) same;
          program = refl;
          mode = due-mode (t + 1) (mode_after t told.outcome) (charged told.outcome a);
          within = within-due p (t + 1) (mode_after t told.outcome) (charged told.outcome a)
              (within-charged p told.outcome a (λ y is. granted-fits p y (attempt_at-granted t (granted_within p) q y is)) now);
        }
    by_mode (Asleep w) q a same now =
        record { task = _; alone = refl; program = refl; mode = due-mode (t + 1) (Asleep w) a; within = within-due p (t + 1) (Asleep w) a now }
    by_mode Ended q a same now = record { task = _; alone = refl; program = refl; mode = refl; within = now }
    by_mode (Faulted fault) q a same now = record { task = _; alone = refl; program = refl; mode = refl; within = now }

-- ---- all ticks

-- a set of this one task stands so after t ticks
record Alone (set : TaskSet) (s : SetTask) (t : ℕ) : Type 0 where
  task : TaskState
  stands : state_at set t ≡ one_of set.hyper t task
  program : task.program ≡ (lone s t).program
  mode : task.serving.mode ≡ (lone s t).mode
  within : IsWithin s.period task.serving.account

alone-first : (set : TaskSet) (s : SetTask) → set.tasks ≡ s ∷ [] → s.budget ≤ s.period → Alone set s 0
unfolding legal state_at
alone-first set s one fits = record {
  task = record { program = first_program s; serving = due 0 (first_serving s) };
  stands = rw one refl;
  program = refl;
  mode = due-mode 0 (Asleep s.start) (first_serving s).account;
  within = within-due s.period 0 (Asleep s.start) (first_serving s).account (record { period = refl; budget = fits; comes = fits });
}

alone-next : (set : TaskSet) (s : SetTask) (t : ℕ) → Alone set s t → Alone set s (suc t)
alone-next set s t before =
    let x = before.task in
    let next = next_one set.hyper t s.period x before.within in
    let at : t + 1 ≡ suc t = omega arith in
    let stands : state_at set (t + 1) ≡ one_of set.hyper (t + 1) next.task = state_next set t ∙ ap next_state before.stands ∙ next.alone in
    record {
      task = next.task;
      stands = subst (λ (u : ℕ). state_at set u ≡ one_of set.hyper u next.task) at stands;
      program = rw (← before.mode, ← before.program) next.program;
      mode = rw (← before.mode, ← before.program) next.mode;
      within = next.within;
    }

alone : (set : TaskSet) (s : SetTask) (t : ℕ) → set.tasks ≡ s ∷ [] → s.budget ≤ s.period → Alone set s t
alone set s zero one fits = alone-first set s one fits
alone set s (suc t) one fits = alone-next set s t (alone set s t one fits)

history-more : (set : TaskSet) (s : SetTask) (t : ℕ) → Alone set s t → legal set t ≡ lone_history s t → legal set (t + 1) ≡ lone_history s (suc t)
history-more set s t here before =
    let x = here.task in
    let this : record_at (state_at set t) ≡ lone_record s.period t (lone s t).mode (lone s t).program =
    ap record_at here.stands ∙ rw (← here.mode, ← here.program) (record_one set.hyper t s.period x here.within) in
    legal_next set t ∙ rw (before, this) refl

pub one_history : (set : TaskSet) (s : SetTask) (t : ℕ) → set.tasks ≡ s ∷ [] → s.budget ≤ s.period → legal set t ≡ lone_history s t
unfolding legal
one_history set s zero one fits = refl
one_history set s (suc t) one fits =
    let at : t + 1 ≡ suc t = omega arith in
    subst (λ (u : ℕ). legal set u ≡ lone_history s (suc t)) at (history-more set s t (alone set s t one fits) (one_history set s t one fits))

pub one_stands : (set : TaskSet) (s : SetTask) (t : ℕ) → set.tasks ≡ s ∷ [] → s.budget ≤ s.period
    → (x : TaskState) × ((state_at set t).tasks ≡ x ∷ []) × (x.program ≡ (lone s t).program) × (x.serving.mode ≡ (lone s t).mode)
one_stands set s t one fits =
    let there = alone set s t one fits in
    (there.task, ap (λ (m : MachineState). m.tasks) there.stands, there.program, there.mode)
