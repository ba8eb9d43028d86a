-- Each active task's unspent budget fits before its deadline, and what all tasks have reserved fits the hyperperiod, at every tick of a
-- legal history of an admitted set. For every D from the tick t on, what the tasks may still take up to D is at most the part of their
-- weights in the ticks from t to D; and no wake makes a task hold more than it did.
use Rattle.rt_laws.proofs.Common.{◌≡◌, ℕ, zero, suc, ◌+◌, ◌*◌, ◌≤◌, max, List, [], ◌∷◌, map, slice_get, slice_set, All, Some, None, inl, inr, refl, sym, ap, subst, arith, option_map_or, cases_lt, All-head, All-tail, sum_by-cons, IsEligible, weight_of, total_weight, Account, spent, reserved, Fits, key_at, IsLeast, SetTask, TaskSet, Mode, Active, Asleep, Ended, Faulted, task_params, IsAdmittedSet, AttemptOutcome, Program, first_program, attempt_at, TaskFits, AllFit, mode_after, charged, after, TaskState, deadline_in, named, MachineState, grants, state_at, charged_cases, named_cases, tick_is}
use Rattle.std.proofs.Math.Nat.{max-eq_left}
use Rattle.rt_admit.specs.Admission.{IsAdmitted}
use Rattle.rt_admit.specs.declared.reservation.Reserved.{Reserved}
use Rattle.rt_admit.specs.Reservation.{held_weight, total_held, asking}
use Rattle.rt_admit.specs.Weight.{weight}
use Rattle.rt_admit.proofs.WeightLemmas.{eligible-whole}
use Rattle.rt_queue.proofs.LeastLemmas.{IsLeast-of_least_from}
use Rattle.rt_history.specs.Admitted.{params_in}
use Rattle.rt_history.specs.Serving.{unwoken}
use Rattle.rt_history.specs.Named.{deadline}
use Rattle.rt_history.specs.Reservations.{reserved_of, ReservesFit}
use Rattle.rt_history.specs.Safe.{IsSafe}
use Rattle.rt_history.specs.Working.Bounded.{IsTakeable}
use Rattle.rt_history.specs.Working.Step.{first_task, woken_task, ran, ran_at, next_state}
use Rattle.rt_history.proofs.Granting.{attempt_at-granted, IsGrant, grant-of, attempt-takeable}
use Rattle.rt_history.proofs.NamedLaws.{IsNamed}
use Rattle.rt_history.proofs.Steps.{state_next, state_begins, hyper_is}
use Rattle.rt_laws.proofs.Demand.{live, rest-small}
use Rattle.rt_laws.proofs.Accounts.{postponed, IsGranted, share, share-claim, claim, IsNoMore, spent-claim, reserved-claim}
use Rattle.rt_laws.proofs.Totals.{total, Each, Each-all, Each-more, Each-both, Each-map, Each-set, Each-at, Each-of, total-le, total-map_le, total-small, total-slack, total-one, total-less, total-set_same}
use Rattle.rt_laws.proofs.Tasks.{asks_in, asks, share_of, claim_of, IsReady, IsSound, IsAfter, TaskIsAfter, asks-passes, asks-small, after-before, granted-charged, charged-share, charged-ready, asks-charged, ready-after, is_after-after, asks-due, claim-due, granted-due, ready-due, ready-idle, fits-in, ready-fit}

-- what holds of the tasks at tick t; where one is asleep, it wakes at tick k or later
pub record Holds (h t k : ℕ) (tasks : List TaskState) : Type 0 where
  pub load : total (claim_of h) tasks ≤ h
  pub sound : Each (IsSound h t k) tasks
  pub room : (D : ℕ) → t ≤ D → total (asks h t D) tasks + total (share_of h) tasks * t ≤ total (share_of h) tasks * D

-- what holds of a machine at its tick
abbrev pub HoldsAt : MachineState → Type 0
HoldsAt m = Holds m.hyper m.tick (m.tick + 1) m.tasks

-- the present weights are within the ones that are held
shares-within : (h : ℕ) (tasks : List TaskState) → total (claim_of h) tasks ≤ h → total (share_of h) tasks ≤ h
shares-within h tasks load =
    let less = total-le (share_of h) (claim_of h) tasks (Each-of (λ s. share_of h s ≤ claim_of h s) tasks (λ i s there. share-claim h s.serving.account)) in
    omega (arith, less, load)

-- ---- what all tasks hold

pub held-total : (h : ℕ) (tasks : List TaskState) → total_held h (map reserved_of tasks) ≡ total (claim_of h) tasks
held-total h [] = refl
held-total h (s ∷ tasks) = rw sum_by-cons (ap (λ w. claim_of h s + w) (held-total h tasks))

-- with one of them replaced
held-set : (h i : ℕ) (tasks : List TaskState) (r : Reserved) (y : TaskState) → held_weight h r ≡ claim_of h y
    → total_held h (slice_set (map reserved_of tasks) i r) ≡ total (claim_of h) (slice_set tasks i y)
held-set h i [] r y same = refl
held-set h zero (s ∷ tasks) r y same =
    let others = held-total h tasks in
    let front = sum_by-cons (held_weight h) r (map reserved_of tasks) in
    omega (arith, front, same, others)
held-set h (suc i) (s ∷ tasks) r y same =
    let others = held-set h i tasks r y same in
    let front = sum_by-cons (held_weight h) (reserved_of s) (slice_set (map reserved_of tasks) i r) in
    omega (arith, front, others)

-- a task that has reserved what it was granted
granted-load : (m : MachineState) (i q : ℕ) (x y : TaskState) → IsGrant m i q x → claim_of m.hyper y ≡ claim m.hyper (reserved q x.serving.account)
    → total (claim_of m.hyper) (slice_set m.tasks i y) ≤ m.hyper
granted-load m i q x y grant holds =
    let same = held-set m.hyper i m.tasks (asking q (reserved_of x)) y (sym holds) in
    omega (arith, same, grant.load)

-- one that holds what it did
pub same-load : (h i : ℕ) (tasks : List TaskState) (x y : TaskState) → slice_get tasks i ≡ Some x → claim_of h y ≡ claim_of h x → total (claim_of h) tasks ≤ h
    → total (claim_of h) (slice_set tasks i y) ≤ h
same-load h i tasks x y there holds load =
    let same = total-set_same (claim_of h) tasks i x y there holds in
    omega (arith, same, load)

-- ---- the wakes of a tick

sound-woken : (h t : ℕ) (s : TaskState) → IsSound h t t s → IsSound h t (t + 1) (woken_task t s)
sound-woken h t s ok = record {
  granted = granted-due h t s.serving.mode s.serving.account ok.granted ok.ready;
  ready = ready-due h t s.serving.mode s.serving.account ok.granted ok.ready;
}

-- what was within the whole's part stays so, where nothing is more beyond its own part
slack-room : (asked asks w v t d : ℕ) → asks + w * d + v * t ≤ asked + v * d + w * t → asked + w * t ≤ w * d → asks + v * t ≤ v * d
slack-room asked asks w v t d slack room = omega (arith, slack, room)

pub wakes : (h t : ℕ) (tasks : List TaskState) → Holds h t t tasks → Holds h t (t + 1) (map (woken_task t) tasks)
wakes h t tasks now =
    let less : total (claim_of h) (map (woken_task t) tasks) ≤ total (claim_of h) tasks =
    total-map_le (woken_task t) (claim_of h) (claim_of h) tasks
    (Each-of (λ s. claim_of h (woken_task t s) ≤ claim_of h s) tasks (λ i s there. claim-due h t s.serving.mode s.serving.account)) in
    record {
      load = omega (arith, less, now.load);
      sound = Each-map (woken_task t) (IsSound h t (t + 1)) tasks (Each-more (IsSound h t t) (λ s. IsSound h t (t + 1) (woken_task t s)) (sound-woken h t) tasks now.sound);
      room = λ D early.
          slack-room (total (asks h t D) tasks) (total (asks h t D) (map (woken_task t) tasks)) (total (share_of h) tasks)
          (total (share_of h) (map (woken_task t) tasks)) t D
          (total-slack (woken_task t) (asks h t D) (share_of h) t D tasks
          (Each-more (IsSound h t t) (λ s. IsNoMore t D (asks h t D s) (share_of h s) (asks h t D (woken_task t s)) (share_of h (woken_task t s)))
          (λ s ok. asks-due h t D s.serving.mode s.serving.account ok.granted ok.ready early) tasks now.sound))
          (now.room D early);
    }

-- ---- fit

fits-at : (h t k : ℕ) (tasks : List TaskState) → 1 ≤ h → Holds h t k tasks → (i : ℕ) (s : TaskState) → slice_get tasks i ≡ Some s → TaskFits t s
fits-at h t k tasks some now i s there active =
    let ok : IsSound h t k s = Each-at (IsSound h t k) tasks i s there now.sound in
    fits-in h t k (total (share_of h) tasks) s.serving.mode s.serving.account ok.ready (shares-within h tasks now.load) some
    (λ D early. let one = total-one (asks h t D) tasks i s there in let all = now.room D early in omega (arith, one, all)) active

pub fits-each : (h t k : ℕ) (tasks : List TaskState) → 1 ≤ h → Holds h t k tasks → Each (TaskFits t) tasks
fits-each h t k tasks some now = Each-of (TaskFits t) tasks (fits-at h t k tasks some now)

-- ---- an idle tick

idles : (h t : ℕ) (tasks : List TaskState) → Holds h t (t + 1) tasks → ((d : ℕ) → Each (TaskIsAfter d) tasks) → Holds h (t + 1) (t + 1) tasks
idles h t tasks now none = record {
  load = now.load;
  sound = Each-both (IsSound h t (t + 1)) (TaskIsAfter (t + 1)) (IsSound h (t + 1) (t + 1))
      (λ s ok later. record { granted = ok.granted; ready = ready-idle t s.serving.mode s.serving.account ok.ready later }) tasks now.sound (none (t + 1));
  room = λ D early. total-small (asks h (t + 1) D) (share_of h) (t + 1) D tasks
      (Each-more (TaskIsAfter (D + 1)) (λ s. asks h (t + 1) D s + share_of h s * (t + 1) ≤ share_of h s * D)
      (λ s later. asks-small h (t + 1) D s.serving.mode s.serving.account early later) tasks (none (D + 1)));
}

-- ---- a busy tick

-- a weight of at most h takes no more of a tick than h
tick-taken : (a b h w t D : ℕ) → a + h ≤ b → b + w * t ≤ w * D → w ≤ h → a + w * (t + 1) ≤ w * D
tick-taken a b h w t D less room load = omega (arith, less, room, load)

asks-active : (h t D : ℕ) (m : Mode) (a : Account) → m ≡ Active → asks_in h t D m a ≡ live a.c a.d (share h a) h D
asks-active h t D m a active = rw active refl

ready-active : (t k : ℕ) (m : Mode) (a : Account) → m ≡ Active → IsReady t k m a → (1 ≤ a.c) × (t ≤ a.d)
ready-active t k m a active ready = subst (λ n. IsReady t k n a) active ready

sound-charged : (h t : ℕ) (program : Program) (outcome : AttemptOutcome) (a : Account) → IsGranted h a → t + 1 ≤ a.d → IsTakeable outcome a
    → IsSound h (t + 1) (t + 1) (record { program = program; serving = after t outcome a })
sound-charged h t program outcome a ok later takes =
    let next = charged-ready h outcome a ok in
    record {
      granted = granted-charged h outcome a ok takes;
      ready = ready-after t outcome (charged outcome a) next.0 (omega (arith, next.1, later));
    }

-- what is held after a tick of task i
load-ran : (m : MachineState) (i t : ℕ) (x : TaskState) → slice_get m.tasks i ≡ Some x → total (claim_of m.hyper) m.tasks ≤ m.hyper
    → total (claim_of m.hyper) (slice_set m.tasks i (ran t (grants m i) x)) ≤ m.hyper
load-ran m i t x there load =
    let a = x.serving.account in
    let told = attempt_at t (grants m i) x.program in
    let left : Account → TaskState = λ b. record { program = told.program; serving = record { account = b; mode = mode_after t told.outcome } } in
    charged_cases (λ b. total (claim_of m.hyper) (slice_set m.tasks i (left b)) ≤ m.hyper) told.outcome a
    (same-load m.hyper i m.tasks x (left (spent a)) there (spent-claim m.hyper a) load)
    (same-load m.hyper i m.tasks x (left (postponed a)) there refl load)
    (λ q is.
    let grant = grant-of m i q x there (attempt_at-granted t (grants m i) x.program q is) in
    granted-load m i q x (left (reserved q (spent a))) grant (reserved-claim m.hyper q a))

-- a tick of task i, which is x, with any outcome
pub serves : (h t i : ℕ) (tasks : List TaskState) (x : TaskState) (program : Program) (outcome : AttemptOutcome) → 1 ≤ h → Holds h t (t + 1) tasks
    → slice_get tasks i ≡ Some x → x.serving.mode ≡ Active → Each (TaskIsAfter x.serving.account.d) tasks → IsTakeable outcome x.serving.account
    → total (claim_of h) (slice_set tasks i (record { program = program; serving = after t outcome x.serving.account })) ≤ h
    → Holds h (t + 1) (t + 1) (slice_set tasks i (record { program = program; serving = after t outcome x.serving.account }))
serves h t i tasks x program outcome some now there active least takes load =
    let a = x.serving.account in
    let y : TaskState = record { program = program; serving = after t outcome a } in
    let ok : IsSound h t (t + 1) x = Each-at (IsSound h t (t + 1)) tasks i x there now.sound in
    let ready : (1 ≤ a.c) × (t ≤ a.d) = ready-active t (t + 1) x.serving.mode a active ok.ready in
    let fit : Fits t a = fits-at h t (t + 1) tasks some now i x there active in
    let later : t + 1 ≤ a.d = omega (arith, fit, ready.0) in
    let next : a.d ≤ (charged outcome a).d = (charged-ready h outcome a ok.granted).1 in
    let same : total (share_of h) (slice_set tasks i y) ≡ total (share_of h) tasks =
    total-set_same (share_of h) tasks i x y there (charged-share h outcome a) in
    record {
      load = load;
      sound = Each-set (IsSound h (t + 1) (t + 1)) tasks i y (sound-charged h t program outcome a ok.granted later takes)
          (Each-both (IsSound h t (t + 1)) (TaskFits t) (IsSound h (t + 1) (t + 1))
          (λ s sound fits. record { granted = sound.granted; ready = ready-fit t s.serving.mode s.serving.account sound.ready fits })
          tasks now.sound (fits-each h t (t + 1) tasks some now));
      room = λ D early.
          elim (cases_lt D a.d) [
            | inl short ↦ total-small (asks h (t + 1) D) (share_of h) (t + 1) D (slice_set tasks i y)
                (Each-set (λ s. asks h (t + 1) D s + share_of h s * (t + 1) ≤ share_of h s * D) tasks i y
                (asks-small h (t + 1) D (mode_after t outcome) (charged outcome a) early (is_after-after (D + 1) (mode_after t outcome) (charged outcome a) (omega (arith, short, next))))
                (Each-more (TaskIsAfter a.d) (λ s. asks h (t + 1) D s + share_of h s * (t + 1) ≤ share_of h s * D)
                (λ s after. asks-small h (t + 1) D s.serving.mode s.serving.account early (after-before a.d (D + 1) s.serving.mode s.serving.account (omega (arith, short)) after))
                tasks least))
            | inr long ↦
                let it : asks h (t + 1) D y + h ≤ asks h t D x =
                rw (asks-active h t D x.serving.mode a active) (asks-charged h (t + 1) D (mode_after t outcome) outcome a ok.granted ready.0 long) in
                let less : total (asks h (t + 1) D) (slice_set tasks i y) + h ≤ total (asks h t D) tasks =
                total-less (asks h (t + 1) D) (asks h t D) h tasks i x y there it
                (Each-of (λ s. asks h (t + 1) D s ≤ asks h t D s) tasks (λ j s at. asks-passes h t D s.serving.mode s.serving.account)) in
                rw same (tick-taken _ _ h (total (share_of h) tasks) t D less (now.room D (omega (arith, early))) (shares-within h tasks now.load))
          ];
    }

runs : (m : MachineState) (i : ℕ) (x : TaskState) → 1 ≤ m.hyper → HoldsAt m → slice_get m.tasks i ≡ Some x → x.serving.mode ≡ Active
    → Each (TaskIsAfter x.serving.account.d) m.tasks → Holds m.hyper (m.tick + 1) (m.tick + 1) (slice_set m.tasks i (ran m.tick (grants m i) x))
runs m i x some now there active least =
    let told = attempt_at m.tick (grants m i) x.program in
    serves m.hyper m.tick i m.tasks x told.program told.outcome some now there active least (attempt-takeable m i m.tick x there)
    (load-ran m i m.tick x there now.load)

-- ---- the task that is named

after-deadline : (d : ℕ) (m : Mode) (a : Account) → ((key : ℕ) → deadline_in m a.d ≡ Some key → d ≤ key) → IsAfter d m a
after-deadline d Active a low = low a.d refl
after-deadline d (Asleep w) a low = tt
after-deadline d Ended a low = tt
after-deadline d (Faulted fault) a low = tt

after-least : (d : ℕ) (tasks : List TaskState) → ((n key : ℕ) → key_at (map deadline tasks) n ≡ Some key → d ≤ key) → Each (TaskIsAfter d) tasks
after-least d [] low = tt
after-least d (s ∷ tasks) low =
    (after-deadline d s.serving.mode s.serving.account (λ key is. low zero key is), after-least d tasks (λ n key is. low (suc n) key is))

-- no active task has an earlier deadline than the named one
pub named-least : (tasks : List TaskState) (i : ℕ) (x : TaskState) → IsNamed tasks i x → Each (TaskIsAfter x.serving.account.d) tasks
named-least tasks i x is =
    let least : ℕ × ℕ = (x.serving.account.d, i) in
    let first : IsLeast (map deadline tasks) (Some least) = IsLeast-of_least_from (map deadline tasks) (Some least) (sym is.name) in
    after-least x.serving.account.d tasks (λ n key at. (first.1 n key at).by_key)

named-none : (tasks : List TaskState) → named tasks ≡ None → (d : ℕ) → Each (TaskIsAfter d) tasks
named-none tasks is d =
    let empty : IsLeast (map deadline tasks) None = IsLeast-of_least_from (map deadline tasks) None (sym is) in
    after-least d tasks (λ n key at. let none = empty n in absurd (cc))

-- ---- a tick

runs-named : (m : MachineState) → 1 ≤ m.hyper → HoldsAt m → Holds m.hyper (m.tick + 1) (m.tick + 1) (ran_at m)
runs-named m some now =
    named_cases (λ r. Holds m.hyper (m.tick + 1) (m.tick + 1) (option_map_or (λ n. slice_set m.tasks n.0 (ran m.tick (grants m n.0) n.1)) r m.tasks)) m.tasks
    (λ none. idles m.hyper m.tick m.tasks now (named-none m.tasks none))
    (λ i x is. runs m i x some now is.there is.active (named-least m.tasks i x is))

steps : (m : MachineState) → 1 ≤ m.hyper → HoldsAt m → HoldsAt (next_state m)
steps m some now = wakes m.hyper (m.tick + 1) (ran_at m) (runs-named m some now)

-- ---- the first tick

begun-granted : (h k : ℕ) (s : SetTask) → IsEligible h (params_in s) → IsGranted h (unwoken s.budget s.period k).account
begun-granted h k s ok = record {
  asked = ok.budgeted;
  within = ok.within;
  comes = ok.budgeted;
  comes_within = ok.within;
  whole = eligible-whole h (params_in s) ok;
  filled = λ none. refl;
}

-- a task before its first wake, with any program and start
abbrev pub unwoken_task : (SetTask → Program) → (SetTask → ℕ) → SetTask → TaskState
unwoken_task program start s = record { program = program s; serving = unwoken s.budget s.period (start s) }

begun-sound : (program : SetTask → Program) (start : SetTask → ℕ) (h : ℕ) (ss : List SetTask) → All (IsEligible h) (task_params ss)
    → Each (IsSound h 0 0) (map (unwoken_task program start) ss)
begun-sound program start h [] ok = tt
begun-sound program start h (s ∷ ss) ok = (
  record { granted = begun-granted h (start s) s (All-head (IsEligible h) (params_in s) (task_params ss) ok); ready = omega arith },
  begun-sound program start h ss (All-tail (IsEligible h) (params_in s) (task_params ss) ok),
)

-- nothing is pending
begun-claim : (h b p : ℕ) → weight h (max b b) p ≡ weight h b p
begun-claim h b p = ap (λ n. weight h n p) (max_self b)
  where
    max_self : (b : ℕ) → max b b ≡ b
    max_self b = max-eq_left (omega arith)

begun-load : (program : SetTask → Program) (start : SetTask → ℕ) (h : ℕ) (ss : List SetTask)
    → total (claim_of h) (map (unwoken_task program start) ss) ≡ total_weight h (task_params ss)
begun-load program start h [] = refl
begun-load program start h (s ∷ ss) =
    let front = sum_by-cons (weight_of h) (params_in s) (task_params ss) in
    omega (arith, front, begun-claim h s.budget s.period, begun-load program start h ss)

-- whatever their programs and their first wakes are
pub begins : (program : SetTask → Program) (start : SetTask → ℕ) (h : ℕ) (ss : List SetTask) → IsAdmitted h (task_params ss)
    → Holds h 0 0 (map (unwoken_task program start) ss)
begins program start h ss ok =
    let first = unwoken_task program start in
    record {
      load = rw (begun-load program start h ss) ok.load;
      sound = begun-sound program start h ss ok.eligible;
      room = λ D early. total-small (asks h 0 D) (share_of h) 0 D (map first ss)
          (Each-map first (λ s. asks h 0 D s + share_of h s * 0 ≤ share_of h s * D) ss
          (Each-of (λ s. asks h 0 D (first s) + share_of h (first s) * 0 ≤ share_of h (first s) * D) ss
          (λ i s there. rest-small 0 0 (share_of h (first s)) h 0 D early)));
    }

-- ---- each tick

-- its hyperperiod has a tick
some_at : (set : TaskSet) (t : ℕ) → IsAdmittedSet set → 1 ≤ (state_at set t).hyper
some_at set t ok = rw (hyper_is set t) ok.hyper_positive

pub holds-at : (set : TaskSet) (t : ℕ) → IsAdmittedSet set → HoldsAt (state_at set t)
holds-at set zero ok = subst HoldsAt (sym (state_begins set)) (wakes set.hyper 0 (map first_task set.tasks) (begins first_program (λ s. s.start) set.hyper set.tasks ok))
holds-at set (suc t) ok =
    let next : t + 1 ≡ suc t = omega arith in
    subst (λ u. HoldsAt (state_at set u)) next
    (subst HoldsAt (sym (state_next set t)) (steps (state_at set t) (some_at set t ok) (holds-at set t ok)))

-- how each task's server stands
pub each_sound : (set : TaskSet) (t : ℕ) → IsAdmittedSet set → Each (IsSound (state_at set t).hyper (state_at set t).tick ((state_at set t).tick + 1)) (state_at set t).tasks
each_sound set t ok = (holds-at set t ok).sound

-- each active task's unspent budget fits before its deadline
pub each_fits : (set : TaskSet) (t : ℕ) → IsAdmittedSet set → Each (TaskFits t) (state_at set t).tasks
each_fits set t ok =
    let m = state_at set t in
    subst (λ u. Each (TaskFits u) m.tasks) (tick_is set t) (fits-each m.hyper m.tick (m.tick + 1) m.tasks (some_at set t ok) (holds-at set t ok))

pub all_fit : (set : TaskSet) (t : ℕ) → IsAdmittedSet set → AllFit (state_at set t)
all_fit set t ok = rw (tick_is set t) (Each-all (TaskFits t) (state_at set t).tasks (each_fits set t ok))

-- what all tasks have reserved fits the hyperperiod
pub reserves_fit : (set : TaskSet) (t : ℕ) → IsAdmittedSet set → ReservesFit (state_at set t)
reserves_fit set t ok =
    let m = state_at set t in
    let same = held-total m.hyper m.tasks in
    let load = (holds-at set t ok).load in
    omega (arith, same, load)

-- so at a machine that stands there
pub fits_at : (set : TaskSet) (t : ℕ) (m : MachineState) → IsAdmittedSet set → m ≡ state_at set t → AllFit m
fits_at set t m ok stands = subst AllFit (sym stands) (all_fit set t ok)

pub reserves_fit_at : (set : TaskSet) (t : ℕ) (m : MachineState) → IsAdmittedSet set → m ≡ state_at set t → ReservesFit m
reserves_fit_at set t m ok stands = subst ReservesFit (sym stands) (reserves_fit set t ok)

-- a machine of an admitted set is safe
pub safe_at : (set : TaskSet) (t : ℕ) (m : MachineState) → IsAdmittedSet set → m ≡ state_at set t → IsSafe m
safe_at set t m ok stands = record { fits = fits_at set t m ok stands; reserves = reserves_fit_at set t m ok stands }
