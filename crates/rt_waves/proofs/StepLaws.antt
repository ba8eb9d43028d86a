-- Waves over a tick stand where the legal history stands.
use Rattle.rt_waves.proofs.Common.{◌≡◌, ℕ, zero, suc, ◌+◌, ◌≤◌, ◌==◌, nat_le, Bool, true, false, ◌&&◌, not, cond, List, [], ◌∷◌, ◌++◌, length, Option, Some, None, inl, inr, refl, sym, ap, subst, ◌∙◌, arith, option_map_or, cases_lt, nat_tests, Account, SetTask, TaskSet, Mode, Active, Asleep, Ended, Faulted, AttemptOutcome, Record, Idle, Busy, Serving, due, after, record_at, legal, state_at, fresh_in, kept_in, postpones, TaskWaves, Place, outcome_of, task_waves, TaskStanding, told_before, task_standing, seen, visited, gone_on}
use Rattle.std.proofs.lemmas.List.{append-nil}
use Rattle.rt_server.specs.Arrival.{wakes_fresh}
use Rattle.rt_history.specs.Serving.{first_serving, due_in}
use Rattle.rt_history.specs.Program.{first_program}
use Rattle.rt_history.specs.OwnPart.{own, program_after, serving_after}
use Rattle.rt_history.specs.Working.Bounded.{IsTakeable, taken}
use Rattle.rt_history.proofs.OwnPartLaws.{added}
use Rattle.rt_history.proofs.ServingLaws.{due_cases, serving_after-append}
use Rattle.rt_history.proofs.Steps.{own-next}
use Rattle.rt_report.specs.WideRows.{wakes_afresh, wakes_kept}
use Rattle.rt_history.proofs.TakenLaws.{taken-same}
use Rattle.rt_waves.specs.Waves.{wakes_at}
use Rattle.rt_waves.specs.Standing.{due_before}
use Rattle.rt_waves.proofs.SoundLemmas.{due-after}

-- ---- wakes

-- a task that is asleep at tick t and wakes then or later
abbrev asleep_in : (ℕ → Account → Bool) → ℕ → Mode → Account → Bool
asleep_in f t (Asleep w) a = nat_le w t && f w a
asleep_in f t mode a = false

abbrev is_kept : ℕ → Account → Bool
is_kept t a = not (wakes_fresh t a)

fresh-as : (t : ℕ) (m : Mode) (a : Account) → asleep_in wakes_fresh t m a ≡ fresh_in t m a
fresh-as t (Asleep w) a = refl
fresh-as t Active a = refl
fresh-as t Ended a = refl
fresh-as t (Faulted fault) a = refl

kept-as : (t : ℕ) (m : Mode) (a : Account) → asleep_in is_kept t m a ≡ kept_in t m a
kept-as t (Asleep w) a = refl
kept-as t Active a = refl
kept-as t Ended a = refl
kept-as t (Faulted fault) a = refl

now-or-later : (f : ℕ → Account → Bool) (t : ℕ) (m : Mode) (a : Account) → ((w : ℕ) → m ≡ Asleep w → t ≤ w) → (wakes_at t m && f t a) ≡ asleep_in f t m a
now-or-later f t Active a from = refl
now-or-later f t Ended a from = refl
now-or-later f t (Faulted fault) a from = refl
now-or-later f t (Asleep w) a from =
    let le = from w refl in
    elim (cases_lt t w) [
      | inl early ↦
          let other : (w == t) ≡ false = grind (arith, nat_tests) in
          let over : nat_le w t ≡ false = grind (arith, nat_tests) in
          rw (other, over) refl
      | inr past ↦
          let same : t ≡ w = omega (arith, past, le) in
          subst (λ (k : ℕ). ((k == t) && f t a) ≡ (nat_le k t && f k a)) same
          (let one : (t == t) ≡ true = grind (arith, nat_tests) in let two : nat_le t t ≡ true = grind (arith, nat_tests) in rw (one, two) refl)
    ]

behind-wake : (f : ℕ → Account → Bool) (t : ℕ) (m : Mode) (a : Account) → (wakes_at (suc t) m && f (suc t) a) ≡ asleep_in f (suc t) (due_in t m a).mode (due_in t m a).account
behind-wake f t m a =
    due_cases (λ (s : Serving). (wakes_at (suc t) m && f (suc t) a) ≡ asleep_in f (suc t) s.mode s.account) t m a
    (λ w asleep come. let other : (w == suc t) ≡ false = grind (arith, nat_tests) in rw (asleep, other) refl)
    (λ later. now-or-later f (suc t) m a (λ w is. omega (arith, later w is)))

wakes-before : (f : ℕ → Account → Bool) (t : ℕ) (v : Serving) → (wakes_at t v.mode && f t v.account) ≡ asleep_in f t (due_before t v).mode (due_before t v).account
wakes-before f zero v = now-or-later f zero v.mode v.account (λ w is. omega arith)
wakes-before f (suc t) v = behind-wake f t v.mode v.account

pub fresh-before : (t : ℕ) (v : Serving) → (wakes_at t v.mode && wakes_fresh t v.account) ≡ wakes_afresh t (due_before t v)
fresh-before t v = wakes-before wakes_fresh t v ∙ fresh-as t (due_before t v).mode (due_before t v).account

pub kept-before : (t : ℕ) (v : Serving) → (wakes_at t v.mode && not (wakes_fresh t v.account)) ≡ wakes_kept t (due_before t v)
kept-before t v = wakes-before is_kept t v ∙ kept-as t (due_before t v).mode (due_before t v).account

due-again : (t : ℕ) (m : Mode) (a : Account) → due (suc t) (due_in t m a) ≡ due_in (suc t) m a
due-again t m a =
    due_cases (λ (x : Serving). due (suc t) x ≡ due_in (suc t) m a) t m a
    (λ w asleep come. let past : nat_le w (suc t) ≡ true = grind (arith, nat_tests) in rw (asleep, past) refl) (λ _. refl)

pub due-before : (t : ℕ) (v : Serving) → due t (due_before t v) ≡ due t v
due-before zero v = refl
due-before (suc t) v = due-again t v.mode v.account

-- ---- one task

-- the record is one that the server can take, if it is the task's
abbrev pub IsTakenBy : Account → Option AttemptOutcome → Type 0
IsTakenBy a None = Unit {0}
IsTakenBy a (Some o) = IsTakeable o a

postponed-same : (a : Account) (o : Option AttemptOutcome) → IsTakenBy a o
    → option_map_or (λ p. postpones p a) o false ≡ option_map_or (λ p. postpones (taken p a) a) o false
postponed-same a None takes = refl
postponed-same a (Some o) takes = ap (λ p. postpones p a) (sym (taken-same o a takes))

abbrev pub behind_of : TaskSet → ℕ → ℕ → SetTask → Serving
behind_of set t i s = serving_after (first_serving s) (own i (legal set t))

pub seen-is : (set : TaskSet) (t i : ℕ) (s : SetTask) (o : Option AttemptOutcome) → outcome_of i (record_at (state_at set t)) ≡ o → IsTakenBy (due t (behind_of set t i s)).account o
    → task_waves set t i s ≡ seen t o (task_standing set t i s)
seen-is set t i s o is takes =
    let v = behind_of set t i s in
    let same = due-before t v in
    let fresh = fresh-before t v in
    let kept = kept-before t v in
    let moved = postponed-same (due t v).account o takes in
    rw (is, same, fresh, kept, moved) refl

outcome-added : (t i : ℕ) (r : Record) → outcome_of i r ≡ None → added t i r ≡ []
outcome-added t i Idle none = refl
outcome-added t i (Busy a) none = by (a.task == i) none
  where
    by : (b : Bool) → cond b (Some a.outcome) None ≡ None → cond {A = List (ℕ × AttemptOutcome)} b ((t, a.outcome) ∷ []) [] ≡ []
    by true none = absurd cc
    by false none = refl

outcome-own : (t i : ℕ) (r : Record) (o : AttemptOutcome) → outcome_of i r ≡ Some o → added t i r ≡ (t, o) ∷ []
outcome-own t i Idle o some = absurd cc
outcome-own t i (Busy a) o some = by (a.task == i) some
  where
    by : (b : Bool) → cond b (Some a.outcome) None ≡ Some o → cond {A = List (ℕ × AttemptOutcome)} b ((t, a.outcome) ∷ []) [] ≡ (t, o) ∷ []
    by true some = let same : a.outcome ≡ o = cc in ap (λ p. (t, p) ∷ []) same
    by false some = absurd cc

-- how a task stands with this own part
abbrev standing_by : ℕ → SetTask → List (ℕ × AttemptOutcome) → TaskWaves → TaskStanding
standing_by t s es w = record {
  serving = due t (serving_after (first_serving s) es);
  pc = (program_after (first_program s) es).state.pc;
  out = length (program_after (first_program s) es).output;
  labels = s.object.labels;
  told = w;
}

standing-next : (set : TaskSet) (t i : ℕ) (s : SetTask) → task_standing set (t + 1) i s ≡ standing_by t s (own i (legal set (t + 1))) (task_waves set t i s)
standing-next set t i s =
    let next : t + 1 ≡ suc t = omega arith in
    ap (λ (n : ℕ). record {
      serving = due_before n (serving_after (first_serving s) (own i (legal set (t + 1))));
      pc = (program_after (first_program s) (own i (legal set (t + 1)))).state.pc;
      out = length (program_after (first_program s) (own i (legal set (t + 1)))).output;
      labels = s.object.labels;
      told = told_before set n i s;
    }) next

pub task-other : (set : TaskSet) (t i : ℕ) (s : SetTask) → outcome_of i (record_at (state_at set t)) ≡ None
    → task_standing set (t + 1) i s ≡ visited t None (task_standing set t i s)
task-other set t i s none =
    let r = record_at (state_at set t) in
    let v = behind_of set t i s in
    let same : own i (legal set (t + 1)) ≡ own i (legal set t) =
    own-next set t i ∙ ap (λ es. own i (legal set t) ++ es) (outcome-added t i r none) ∙ append-nil (own i (legal set t)) in
    standing-next set t i s
    ∙ ap (λ es. standing_by t s es (task_waves set t i s)) same
    ∙ ap (λ w. standing_by t s (own i (legal set t)) w) (seen-is set t i s None none tt)
    ∙ ap (λ (z : Serving). record (standing_by t s (own i (legal set t)) (seen t None (task_standing set t i s))) { serving = z }) (sym (due-before t v))

-- so the task's program stands behind the record
abbrev pub IsPlace : TaskSet → ℕ → ℕ → SetTask → Place → Type 0
IsPlace set t i s place =
    (place.pc ≡ (program_after (first_program s) (own i (legal set t))).state.pc) × (place.output ≡ length (program_after (first_program s) (own i (legal set t))).output)

pub task-own : (set : TaskSet) (t i : ℕ) (s : SetTask) (o : AttemptOutcome) (place : Place) → outcome_of i (record_at (state_at set t)) ≡ Some o
    → IsTakeable o (due t (behind_of set t i s)).account → IsPlace set (t + 1) i s place
    → task_standing set (t + 1) i s ≡ gone_on t o place (visited t (Some o) (task_standing set t i s))
task-own set t i s o place some takes stands =
    let r = record_at (state_at set t) in
    let v = behind_of set t i s in
    let x = task_standing set t i s in
    let more : own i (legal set (t + 1)) ≡ own i (legal set t) ++ (t, o) ∷ [] =
    own-next set t i ∙ ap (λ es. own i (legal set t) ++ es) (outcome-own t i r o some) in
    let behind : serving_after (first_serving s) (own i (legal set (t + 1))) ≡ after t o (due t v).account =
    ap (serving_after (first_serving s)) more ∙ serving_after-append (first_serving s) (own i (legal set t)) ((t, o) ∷ []) in
    let served : due t (serving_after (first_serving s) (own i (legal set (t + 1)))) ≡ after t o (due t v).account = ap (due t) behind ∙ due-after t o (due t v).account in
    let account : (due t x.serving).account ≡ (due t v).account = ap (λ (z : Serving). z.account) (due-before t v) in
    let as_taken : after t o (due t v).account ≡ after t (taken o (due t x.serving).account) (due t x.serving).account =
    ap (λ p. after t p (due t v).account) (sym (taken-same o (due t v).account takes))
    ∙ ap (λ (a : Account). after t (taken o a) a) (sym account) in
    standing-next set t i s
    ∙ ap (λ (w : TaskWaves). standing_by t s (own i (legal set (t + 1))) w) (seen-is set t i s (Some o) some takes)
    ∙ ap (λ (z : Serving). record (standing_by t s (own i (legal set (t + 1))) (seen t (Some o) x)) { serving = z }) (served ∙ as_taken)
    ∙ ap (λ (p : ℕ). record (standing_by t s (own i (legal set (t + 1))) (seen t (Some o) x)) { serving = after t (taken o (due t x.serving).account) (due t x.serving).account; pc = p }) (sym stands.0)
    ∙ ap (λ (p : ℕ). record (standing_by t s (own i (legal set (t + 1))) (seen t (Some o) x)) { serving = after t (taken o (due t x.serving).account) (due t x.serving).account; pc = place.pc; out = p }) (sym stands.1)
