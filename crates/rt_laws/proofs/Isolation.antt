-- A task's own part of a legal history is what its program does alone.
use Rattle.rt_laws.proofs.Common.{◌≡◌, ℕ, zero, suc, ◌+◌, Bool, true, false, cond, List, [], ◌∷◌, ◌++◌, length, slice_get, Option, Some, None, inl, inr, refl, sym, ap, subst, ◌∙◌, append-nil, arith, SetTask, TaskSet, AttemptOutcome, Program, first_program, Told, attempt_at, own, granted_by, TaskState, task_state, MachineState, grants, record_at, legal, state_at, state-of, tick_is, Origin, origin, attempted}
use Rattle.std.proofs.Common.{drop}
use Rattle.rt_exec.specs.Attempt.{attempt}
use Rattle.rt_exec.specs.declared.outcome.Call.{Call}
use Rattle.rt_exec.specs.declared.outcome.Call.TheVariants as calls
use Rattle.rt_exec.specs.declared.outcome.Outcome.{Outcome}
use Rattle.rt_exec.specs.declared.outcome.Outcome.TheVariants as outcomes
use Rattle.rt_history.specs.Calls.{a0, written, writes, reserves, carried, told_at}
use Rattle.rt_history.specs.OwnPart.{program_after}
use Rattle.rt_history.proofs.Granting.{attempt_at-same}
use Rattle.rt_history.proofs.Steps.{own-next, legal-first}
use Rattle.rt_laws.specs.Alone.{Answer, is_answered, first_tick, is_accepted, answers_left, attempts, alone, answer_told, answers_told, alone_in}
use Rattle.rt_laws.proofs.OwnParts.{IsAdded, added-at}

-- ---- one attempt: told what its own outcome tells, it comes out as it did, and leaves the answers behind

writes-told : (bytes : Option (List ℕ)) (p : Program) → answer_told (writes bytes p).outcome ≡ []
writes-told (Some bytes) p = refl
writes-told None p = refl

reserves-alone : (b : Bool) (p : Program) (later : List Answer) → is_accepted (answer_told (reserves b p).outcome ++ later) ≡ b
reserves-alone true p later = refl
reserves-alone false p later = refl

reserves-left : (b : Bool) (p : Program) (later : List Answer) → drop 1 (answer_told (reserves b p).outcome ++ later) ≡ later
reserves-left true p later = refl
reserves-left false p later = refl

carried-alone : (u : ℕ) (granted : ℕ → Bool) (call : Call) (p : Program) (later : List Answer)
    → carried (first_tick (answer_told (carried u granted call p).outcome ++ later)) (λ q. is_accepted (answer_told (carried u granted call p).outcome ++ later)) call p
    ≡ carried u granted call p
carried-alone u granted calls.End p later = refl
carried-alone u granted calls.Write p later = refl
carried-alone u granted calls.SleepUntil p later = refl
carried-alone u granted calls.Yield p later = refl
carried-alone u granted calls.Now p later = refl
carried-alone u granted calls.Reserve p later = ap (λ (b : Bool). reserves b p) (reserves-alone (granted (a0 p)) p later)

carried-left : (u : ℕ) (granted : ℕ → Bool) (call : Call) (p : Program) (later : List Answer)
    → cond (is_answered (outcomes.Call call)) (drop 1 (answer_told (carried u granted call p).outcome ++ later)) (answer_told (carried u granted call p).outcome ++ later) ≡ later
carried-left u granted calls.End p later = refl
carried-left u granted calls.Write p later = ap (λ (answers : List Answer). answers ++ later) (writes-told (written p) p)
carried-left u granted calls.SleepUntil p later = refl
carried-left u granted calls.Yield p later = refl
carried-left u granted calls.Now p later = refl
carried-left u granted calls.Reserve p later = reserves-left (granted (a0 p)) p later

told_at-alone : (u : ℕ) (granted : ℕ → Bool) (o : Outcome) (p : Program) (later : List Answer)
    → told_at (first_tick (answer_told (told_at u granted o p).outcome ++ later)) (λ q. is_accepted (answer_told (told_at u granted o p).outcome ++ later)) o p
    ≡ told_at u granted o p
told_at-alone u granted outcomes.Next p later = refl
told_at-alone u granted (outcomes.Call call) p later = carried-alone u granted call p later
told_at-alone u granted (outcomes.Fault fault) p later = refl

told_at-left : (u : ℕ) (granted : ℕ → Bool) (o : Outcome) (p : Program) (later : List Answer)
    → cond (is_answered o) (drop 1 (answer_told (told_at u granted o p).outcome ++ later)) (answer_told (told_at u granted o p).outcome ++ later) ≡ later
told_at-left u granted outcomes.Next p later = refl
told_at-left u granted (outcomes.Call call) p later = carried-left u granted call p later
told_at-left u granted (outcomes.Fault fault) p later = refl

attempt-alone : (u : ℕ) (granted : ℕ → Bool) (p : Program) (later : List Answer)
    → attempt_at (first_tick (answer_told (attempt_at u granted p).outcome ++ later)) (λ q. is_accepted (answer_told (attempt_at u granted p).outcome ++ later)) p
    ≡ attempt_at u granted p
unfolding attempt_at
attempt-alone u granted p later = told_at-alone u granted (attempt p.split p.state).outcome (record p { state = (attempt p.split p.state).state }) later

attempt-left : (u : ℕ) (granted : ℕ → Bool) (p : Program) (later : List Answer)
    → answers_left (answer_told (attempt_at u granted p).outcome ++ later) p ≡ later
unfolding attempt_at
attempt-left u granted p later = told_at-left u granted (attempt p.split p.state).outcome (record p { state = (attempt p.split p.state).state }) later

one-alone : (u k : ℕ) (granted : ℕ → Bool) (p : Program) (later : List Answer)
    → attempts (suc k) (answer_told (attempt_at u granted p).outcome ++ later) p ≡ attempts k later (attempt_at u granted p).program
one-alone u k granted p later =
    ap (λ (answers : List Answer). attempts k answers (attempted (answer_told (attempt_at u granted p).outcome ++ later) p)) (attempt-left u granted p later)
    ∙ ap (λ (x : Told). attempts k later x.program) (attempt-alone u granted p later)

-- ---- records that are a program's attempts

abbrev pub Follows : Program → List (ℕ × AttemptOutcome) → Type 0
Follows p [] = Unit {0}
Follows p (e ∷ es) = ((attempt_at e.0 (granted_by e.1) p).outcome ≡ e.1) × Follows (attempt_at e.0 (granted_by e.1) p).program es

follows-push : (p : Program) (es : List (ℕ × AttemptOutcome)) (e : ℕ × AttemptOutcome) → Follows p es
    → (attempt_at e.0 (granted_by e.1) (program_after p es)).outcome ≡ e.1 → Follows p (es ++ e ∷ [])
follows-push p [] e along next = (next, tt)
follows-push p (f ∷ es) e along next = (along.0, follows-push (attempt_at f.0 (granted_by f.1) p).program es e along.1 next)

pub follows-alone : (p : Program) (es : List (ℕ × AttemptOutcome)) → Follows p es → program_after p es ≡ attempts (length es) (answers_told es) p
follows-alone p [] along = refl
follows-alone p (e ∷ es) along =
    follows-alone (attempt_at e.0 (granted_by e.1) p).program es along.1 ∙ sym (one-alone e.0 (length es) (granted_by e.1) p (answers_told es))
    ∙ ap (λ (o : AttemptOutcome). attempts (suc (length es)) (answer_told o ++ answers_told es) p) along.0

-- ---- in a legal history

follows-next : (set : TaskSet) (t i : ℕ) (s : SetTask) → slice_get set.tasks i ≡ Some s
    → Follows (first_program s) (own i (legal set t)) → Follows (first_program s) (own i (legal set (t + 1)))
follows-next set t i s there along =
    let x = task_state t (legal set t) i s in
    let p = first_program s in
    let before = own i (legal set t) in
    let m = state_at set t in
    let one : IsAdded t (grants m i) i x (record_at m) = subst (λ u. IsAdded u (grants m i) i x (record_at m)) (tick_is set t) (added-at m i x (state-of set t i s there)) in
    elim one [
      | inl none ↦ subst (Follows p) (sym (own-next set t i ∙ ap (λ (es : List (ℕ × AttemptOutcome)). before ++ es) none ∙ append-nil before)) along
      | inr one ↦ subst (Follows p) (sym (own-next set t i ∙ ap (λ (es : List (ℕ × AttemptOutcome)). before ++ es) one.0))
          (follows-push p before (t, (attempt_at t (grants m i) x.program).outcome) along
          (ap (λ (y : Told). y.outcome) (attempt_at-same t (grants m i) x.program)))
    ]

pub follows : (set : TaskSet) (t i : ℕ) (s : SetTask) → slice_get set.tasks i ≡ Some s → Follows (first_program s) (own i (legal set t))
follows set zero i s there = rw (legal-first set) tt
follows set (suc t) i s there =
    let next : t + 1 ≡ suc t = omega arith in
    subst (λ u. Follows (first_program s) (own i (legal set u))) next (follows-next set t i s there (follows set t i s there))

pub as_alone : (set : TaskSet) (t i : ℕ) (s : SetTask) → slice_get set.tasks i ≡ Some s → (task_state t (legal set t) i s).program ≡ alone_in set t i s
as_alone set t i s there = follows-alone (first_program s) (own i (legal set t)) (follows set t i s there)

pub alike : (first second : TaskSet) (t u i j : ℕ) (s r : SetTask) → slice_get first.tasks i ≡ Some s → slice_get second.tasks j ≡ Some r
    → origin s ≡ origin r → length (own i (legal first t)) ≡ length (own j (legal second u))
    → answers_told (own i (legal first t)) ≡ answers_told (own j (legal second u))
    → (task_state t (legal first t) i s).program ≡ (task_state u (legal second u) j r).program
alike first second t u i j s r one other image count told =
    let k = length (own i (legal first t)) in
    let answers = answers_told (own i (legal first t)) in
    let same : alone_in first t i s ≡ alone_in second u j r =
    ap (λ (o : Origin). alone o k answers) image ∙ ap (λ (n : ℕ). alone (origin r) n answers) count
    ∙ ap (λ (others : List Answer). alone (origin r) (length (own j (legal second u))) others) told in
    as_alone first t i s one ∙ same ∙ sym (as_alone second u j r other)

-- a task of a machine that stands after a legal history
pub stands_as_alone : (m : MachineState) (set : TaskSet) (t i : ℕ) (s : SetTask) (x : TaskState) → m ≡ state_at set t → slice_get set.tasks i ≡ Some s
    → slice_get m.tasks i ≡ Some x → x.program ≡ alone_in set t i s
stands_as_alone m set t i s x at there shown =
    let it : Some x ≡ Some (task_state t (legal set t) i s) = sym shown ∙ ap (λ (n : MachineState). slice_get n.tasks i) at ∙ state-of set t i s there in
    let same : x ≡ task_state t (legal set t) i s = cc in
    ap (λ (y : TaskState). y.program) same ∙ as_alone set t i s there
