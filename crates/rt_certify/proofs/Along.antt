-- A trial along the legal history of a set of one task.
use Rattle.rt_certify.proofs.Common.{◌≡◌, ℕ, zero, suc, ◌+◌, ◌<◌, ◌≤◌, [], length, Some, refl, sym, ap, subst, ◌∙◌, arith, AttemptOutcome, Next, Program, Origin, origin, MachineState, state_at, attempted, Limits, progress, Stands, IsTold, StandsAt}
use Rattle.std.proofs.Common.{◌==◌, true, List, ◌∷◌, ◌++◌, length-append, slice_get}
use Rattle.std.specs.Option.{option_map_or}
use Rattle.std.proofs.lemmas.Bool.Decides.{nat_tests}
use Rattle.std.proofs.lemmas.List.{append_cancel_left}
use Rattle.rt_image.specs.SystemFile.{SetTask, TaskSet}
use Rattle.rt_history.specs.declared.record.Attempt.{Attempt}
use Rattle.rt_history.specs.declared.record.Record.{Record}
use Rattle.rt_history.specs.declared.record.Record.TheVariants.{Idle, Busy}
use Rattle.rt_history.specs.declared.record.Entry.TheVariants as entries
use Rattle.rt_history.specs.Entries.{GoesOnBy}
use Rattle.rt_history.specs.Plain.{IsPlain, ArePlain}
use Rattle.rt_history.specs.Program.{loaded, first_program}
use Rattle.rt_history.specs.Calls.{Told, attempt_at}
use Rattle.rt_history.specs.OwnPart.{own, granted_by, program_after, TaskState, task_state}
use Rattle.rt_history.specs.Reservations.{grants}
use Rattle.rt_history.specs.Legal.{attempt_of, record_at, legal}
use Rattle.rt_history.proofs.Granting.{attempt_at-same}
use Rattle.rt_history.proofs.NamedLaws.{named_cases}
use Rattle.rt_history.proofs.OwnPartLaws.{added, added-own, own-idle, program_after-append}
use Rattle.rt_history.proofs.Steps.{length-legal, legal_next, legal-first, own-next, state-of, tick_is}
use Rattle.rt_certify.specs.declared.trial.Trial.{Trial}
use Rattle.rt_certify.specs.Working.Trying.{ArePlainAttempts}
use Rattle.rt_certify.proofs.Told.{quiet}

-- the program of the first task after t ticks, and how many attempts it has made
abbrev pub program_at : TaskSet → ℕ → SetTask → Program
program_at set t s = (task_state t (legal set t) 0 s).program

abbrev pub attempts_at : TaskSet → ℕ → ℕ
attempts_at set t = length (own 0 (legal set t))

pub first-there : (set : TaskSet) (s : SetTask) → set.tasks ≡ s ∷ [] → slice_get set.tasks 0 ≡ Some s
first-there set s only = ap (λ (ss : List SetTask). slice_get ss 0) only

-- ---- idle ticks

pub own-still : (set : TaskSet) (t u n : ℕ) → GoesOnBy set t (entries.Idle u n) → own 0 (legal set (t + n)) ≡ own 0 (legal set t)
own-still set t u n goes = ap (own 0) goes ∙ own-idle t 0 n (legal set t) (length-legal set t)

-- ---- a record of the task

-- a machine's record is the attempt of the task that it names
named-attempt : (m : MachineState) (a : Attempt) (x : TaskState) → record_at m ≡ Busy a → slice_get m.tasks a.task ≡ Some x
    → attempt_of m.tick a.task (grants m a.task) x.program ≡ a
named-attempt m a x =
    named_cases
    (λ r. option_map_or (λ n. Busy (attempt_of m.tick n.0 (grants m n.0) n.1.program)) r Idle ≡ Busy a → slice_get m.tasks a.task ≡ Some x
    → attempt_of m.tick a.task (grants m a.task) x.program ≡ a) m.tasks
    (λ none is there. absurd cc)
    (λ i y named is there.
    let whole : attempt_of m.tick i (grants m i) y.program ≡ a = cc in
    let task : i ≡ a.task = ap (λ (b : Attempt). b.task) whole in
    let found : Some y ≡ Some x = sym named.there ∙ ap (slice_get m.tasks) task ∙ there in
    let same : y ≡ x = cc in
    ap (λ (z : TaskState). attempt_of m.tick a.task (grants m a.task) z.program) (sym same)
    ∙ ap (λ (k : ℕ). attempt_of m.tick k (grants m k) y.program) (sym task)
    ∙ whole)

-- the record of tick t is an attempt of the first task
pub record IsAttempt (set : TaskSet) (t : ℕ) (s : SetTask) (a : Attempt) : Type 0 where
  pub pc : (program_at set t s).state.pc ≡ a.pc
  pub told : IsTold (program_at set t s) a.outcome (program_at set (t + 1) s)
  pub count : attempts_at set (t + 1) ≡ suc (attempts_at set t)

pub attempt-added : (set : TaskSet) (t : ℕ) (s : SetTask) (a : Attempt) → set.tasks ≡ s ∷ [] → a.task < 1 → record_at (state_at set t) ≡ Busy a → IsAttempt set t s a
attempt-added set t s a only first is =
    let m = state_at set t in
    let x = task_state t (legal set t) 0 s in
    let task : a.task ≡ 0 = omega (arith, first) in
    let there : slice_get m.tasks a.task ≡ Some x = ap (slice_get m.tasks) task ∙ state-of set t 0 s (first-there set s only) in
    let whole : attempt_of m.tick a.task (grants m a.task) x.program ≡ a = named-attempt m a x is there in
    let granted = grants m a.task in
    let out : (attempt_at m.tick granted x.program).outcome ≡ a.outcome = ap (λ (b : Attempt). b.outcome) whole in
    let again : attempt_at m.tick (granted_by a.outcome) x.program ≡ attempt_at m.tick granted x.program =
    ap (λ (o : AttemptOutcome). attempt_at m.tick (granted_by o) x.program) (sym out) ∙ attempt_at-same m.tick granted x.program in
    let at : m.tick ≡ t = tick_is set t in
    let hits : (a.task == 0) ≡ true = grind (arith, nat_tests) in
    let one : added t 0 (record_at m) ≡ (t, a.outcome) ∷ [] = ap (added t 0) is ∙ added-own t 0 a a.outcome hits refl in
    let more : own 0 (legal set (t + 1)) ≡ own 0 (legal set t) ++ (t, a.outcome) ∷ [] =
    own-next set t 0 ∙ ap (λ (es : List (ℕ × AttemptOutcome)). own 0 (legal set t) ++ es) one in
    let left : (attempt_at t (granted_by a.outcome) x.program).program ≡ program_at set (t + 1) s =
    sym (ap (program_after (first_program s)) more ∙ program_after-append (first_program s) (own 0 (legal set t)) ((t, a.outcome) ∷ [])) in
    record {
      pc = ap (λ (b : Attempt). b.pc) whole;
      told = (
        t,
        granted_by a.outcome,
        ap (λ (u : ℕ). (attempt_at u (granted_by a.outcome) x.program).outcome) (sym at) ∙ ap (λ (y : Told). y.outcome) again ∙ out,
        left,
      );
      count = ap length more ∙ length-append (own 0 (legal set t)) ((t, a.outcome) ∷ []) ∙ omega arith;
    }

pub entry-added : (set : TaskSet) (t u : ℕ) (s : SetTask) (a : Attempt) → set.tasks ≡ s ∷ [] → a.task < 1 → GoesOnBy set t (entries.Busy u a) → IsAttempt set t s a
entry-added set t u s a only first goes =
    let m = state_at set t in
    let next : record_at m ∷ [] ≡ Busy a ∷ [] = append_cancel_left (legal set t) (record_at m ∷ []) (Busy a ∷ []) (sym (legal_next set t) ∙ goes) in
    let is : record_at m ≡ Busy a = cc in
    attempt-added set t s a only first is

-- ---- plain ticks

plain-is : (i : ℕ) (r : Record) → IsPlain i r → (a : Attempt) × (r ≡ Busy a) × (a.task ≡ i) × (a.outcome ≡ Next)
plain-is i Idle plain = absurd plain
plain-is i (Busy a) plain = (a, refl, plain.0, plain.1)

pub plain-added : (set : TaskSet) (s : SetTask) (i n t : ℕ) → set.tasks ≡ s ∷ [] → (1 ≤ n → i < 1) → ArePlain set t i n
    → ArePlainAttempts n (program_at set t s) (program_at set (t + n) s) × (attempts_at set (t + n) ≡ attempts_at set t + n)
plain-added set s i zero t only first plain =
    let at : t ≡ t + zero = omega arith in
    (ap (λ (u : ℕ). program_at set u s) at, ap (attempts_at set) (sym at) ∙ omega arith)
plain-added set s i (suc n) t only first plain =
    let here : t + 0 ≡ t = omega arith in
    let one = plain-is i (record_at (state_at set t)) (subst (λ u. IsPlain i (record_at (state_at set u))) here (plain 0 (omega arith))) in
    let added = attempt-added set t s one.0 only (let here : i < 1 = first (omega arith) in omega (arith, one.2, here)) one.1 in
    let told : IsTold (program_at set t s) Next (program_at set (t + 1) s) = subst (λ o. IsTold (program_at set t s) o (program_at set (t + 1) s)) one.3 added.told in
    let still = quiet (program_at set t s) (program_at set (t + 1) s) Next (λ answered. answered) told in
    let rest = plain-added set s i n (t + 1) only (λ some. first (omega arith))
    (λ k below. let at : t + suc k ≡ t + 1 + k = omega arith in subst (λ u. IsPlain i (record_at (state_at set u))) at (plain (suc k) (omega (arith, below)))) in
    let at : t + 1 + n ≡ t + suc n = omega arith in (
      (
        still.0,
        subst (λ u. ArePlainAttempts n (attempted [] (program_at set t s)) (program_at set u s)) at
            (subst (λ y. ArePlainAttempts n y (program_at set (t + 1 + n) s)) (sym still.1) rest.0),
      ),
      ap (attempts_at set) (sym at) ∙ rest.1 ∙ ap (λ (k : ℕ). k + n) added.count ∙ omega arith,
    )

-- ---- a trial

pub stands-begun : (set : TaskSet) (s : SetTask) (l : Limits) (trial : Trial) (start : ℕ) → s.start ≡ start
    → Stands (origin s) start l 0 (loaded (origin s)) (progress trial) → StandsAt set s l 0 trial
stands-begun set s l trial start same st =
    rw (legal-first set) (subst (λ r. Stands (origin s) r l 0 (loaded (origin s)) (progress trial)) (sym same) st)

-- by the attempt of tick t
pub stands-added : (set : TaskSet) (t u : ℕ) (s : SetTask) (a : Attempt) (l : Limits) (p q : Trial) → u ≡ t + 1 → IsAttempt set t s a
    → ((o : Origin) (start k : ℕ) (x y : Program) → Stands o start l k x (progress p) → IsTold x a.outcome y → Stands o start l (suc k) y (progress q))
    → StandsAt set s l t p → StandsAt set s l u q
stands-added set t u s a l p q at added step st =
    let next : Stands (origin s) s.start l (suc (attempts_at set t)) (program_at set (t + 1) s) (progress q) =
    step (origin s) s.start (attempts_at set t) (program_at set t s) (program_at set (t + 1) s) st added.told in
    subst (λ v. StandsAt set s l v q) (sym at) (subst (λ k. Stands (origin s) s.start l k (program_at set (t + 1) s) (progress q)) (sym added.count) next)

-- by n plain ticks from tick t on
pub stands-plainly : (set : TaskSet) (t u : ℕ) (s : SetTask) (i n : ℕ) (l : Limits) (p q : Trial) → u ≡ t + n → set.tasks ≡ s ∷ [] → (1 ≤ n → i < 1) → ArePlain set t i n
    → ((o : Origin) (start k : ℕ) (x y : Program) → Stands o start l k x (progress p) → ArePlainAttempts n x y → Stands o start l (k + n) y (progress q))
    → StandsAt set s l t p → StandsAt set s l u q
stands-plainly set t u s i n l p q at only first plain step st =
    let added = plain-added set s i n t only first plain in
    let next : Stands (origin s) s.start l (attempts_at set t + n) (program_at set (t + n) s) (progress q) =
    step (origin s) s.start (attempts_at set t) (program_at set t s) (program_at set (t + n) s) st added.0 in
    subst (λ v. StandsAt set s l v q) (sym at) (subst (λ k. Stands (origin s) s.start l k (program_at set (t + n) s) (progress q)) (sym added.1) next)

-- by idle ticks
pub stands-idle : (set : TaskSet) (t u v n : ℕ) (s : SetTask) (l : Limits) (p : Trial) → u ≡ t + n → GoesOnBy set t (entries.Idle v n) → StandsAt set s l t p → StandsAt set s l u p
stands-idle set t u v n s l p at goes st =
    subst (λ w. StandsAt set s l w p) (sym at)
    (subst (λ (es : List (ℕ × AttemptOutcome)). Stands (origin s) s.start l (length es) (program_after (first_program s) es) (progress p)) (sym (own-still set t v n goes)) st)
