-- One entry of a machine: what it keeps, and how the legal history goes on by it.
use Rattle.rt_core.proofs.Common.{◌≡◌, ℕ, zero, suc, ◌+◌, ◌-◌, ◌<◌, ◌≤◌, inl, inr, cond, true, false, List, [], ◌∷◌, ◌++◌, length, map, slice_get, slice_set, Option, Some, None, refl, sym, ap, subst, ◌∙◌, arith, cases_lt, length-map, tick_limit, Account, key_at, IsLeast, TaskSet, Mode, Active, attempt_at, TaskState, deadline, MachineState, state_at, woken_task, ran, ran_at, next_state, grants, Keeps, wake_in, wake_at}
use Rattle.std.proofs.Common.{min, max, nat_le, nat_lt, IsSome}
use Rattle.std.specs.Option.{option_map_or}
use Rattle.std.proofs.lemmas.Bool.Decides.{nat_tests}
use Rattle.rt_queue.specs.Least.{least_from}
use Rattle.rt_queue.proofs.LeastLemmas.{none_is_not_some, some-injective, IsLeast-of_least_from}
use Rattle.rt_history.specs.declared.mode.Mode.TheVariants.{Asleep, Ended, Faulted}
use Rattle.rt_history.specs.declared.record.Record.{Record}
use Rattle.rt_history.specs.declared.record.Entry.{Entry}
use Rattle.rt_history.specs.declared.record.Entry.TheVariants as entries
use Rattle.rt_history.specs.Serving.{due_in}
use Rattle.rt_history.specs.Named.{named, named_task}
use Rattle.rt_history.specs.Legal.{legal}
use Rattle.rt_history.specs.Working.Step.{passed}
use Rattle.rt_history.proofs.ServingLaws.{due-period, charged-grants}
use Rattle.rt_history.proofs.NamedLaws.{named_cases, named_is_least, none_is_least, none_named}
use Rattle.rt_history.proofs.Steps.{legal_next, state_next, legal_idle, busy-below}
use Rattle.rt_history.specs.Entries.{IsEntryOf}
use Rattle.rt_core.specs.Kept.{period}
use Rattle.rt_core.specs.Advance.{Follows}
use Rattle.rt_core.specs.Next.{next_of}
use Rattle.rt_core.specs.declared.view.Next.TheVariants as nexts
use Rattle.rt_core.specs.Working.Going.{Idles, Moves}
use Rattle.rt_core.proofs.MachineLemmas.{IsTask, slice_get-at, none_due-least, none_due-none}

-- ---- periods

period-woken : (t : ℕ) (x : TaskState) → period (woken_task t x) ≡ period x
period-woken t x = due-period t x.serving.mode x.serving.account

periods-woken : (t : ℕ) (xs : List TaskState) → map period (map (woken_task t) xs) ≡ map period xs
periods-woken t [] = refl
periods-woken t (x ∷ xs) = let first = period-woken t x in let others = periods-woken t xs in rw (first, others) refl

periods-set : (xs : List TaskState) (i : ℕ) (x y : TaskState) → slice_get xs i ≡ Some x → period y ≡ period x → map period (slice_set xs i y) ≡ map period xs
periods-set [] i x y there same = refl
periods-set (z ∷ xs) zero x y there same = let it : z ≡ x = cc in rw (same, it) refl
periods-set (z ∷ xs) (suc i) x y there same = ap (λ (ps : List ℕ). period z ∷ ps) (periods-set xs i x y there same)

periods-ran : (m : MachineState) → map period (ran_at m) ≡ map period m.tasks
periods-ran m =
    named_cases (λ r. map period (option_map_or (λ n. slice_set m.tasks n.0 (ran m.tick (grants m n.0) n.1)) r m.tasks) ≡ map period m.tasks) m.tasks (λ none. refl)
    (λ i x is. periods-set m.tasks i x (ran m.tick (grants m i) x) is.there
    (charged-grants (attempt_at m.tick (grants m i) x.program).outcome x.serving.account).1)

keeps_at : (old new other : MachineState) → new ≡ other → other.hyper ≡ old.hyper → map period other.tasks ≡ map period old.tasks → Keeps old new
keeps_at old new other is hyper periods = rw is (record { hyper = hyper; periods = periods })

pub next-keeps : (m : MachineState) → Keeps m (next_state m)
next-keeps m = record { hyper = refl; periods = periods-woken (m.tick + 1) (ran_at m) ∙ periods-ran m }

pub Moves-keeps : (most : ℕ) (old : MachineState) (e : Entry) (new : MachineState) → Moves most old e new → Keeps old new
Moves-keeps most old (entries.Busy t a) new moves =
    keeps_at old new (next_state old) moves.2 refl (periods-woken (old.tick + 1) (ran_at old) ∙ periods-ran old)
Moves-keeps most old (entries.Idle t n) new moves =
    keeps_at old new (passed n old) moves.1.state refl (periods-woken (old.tick + n) old.tasks)

pub Keeps-trans : (a b c : MachineState) → Keeps a b → Keeps b c → Keeps a c
Keeps-trans a b c p q = record { hyper = q.hyper ∙ p.hyper; periods = q.periods ∙ p.periods }

pub length-kept : (old new : MachineState) → Keeps old new → length new.tasks ≡ length old.tasks
length-kept old new keeps = sym (length-map new.tasks period) ∙ ap length keeps.periods ∙ length-map old.tasks period

-- ---- the task of a record

pub Moves-task : (most : ℕ) (old : MachineState) (e : Entry) (new : MachineState) → Moves most old e new → IsEntryOf (length old.tasks) e
Moves-task most old (entries.Busy t a) new moves = busy-below old a moves.1
Moves-task most old (entries.Idle t n) new moves = tt

-- ---- the legal history

follows_busy : (set : TaskSet) (t u most : ℕ) (a : _) (new : MachineState) → Moves most (state_at set t) (entries.Busy u a) new → Follows set t (entries.Busy u a) new
follows_busy set t u most a new moves = record {
  history = legal_next set t ∙ ap (λ (r : Record). legal set t ++ r ∷ []) (sym moves.1);
  stands = moves.2 ∙ sym (state_next set t);
}

follows_idle : (set : TaskSet) (t u most n : ℕ) (new : MachineState) → Idles most n (state_at set t) new → Follows set t (entries.Idle u n) new
follows_idle set t u most zero new idles = absurd (omega (arith, idles.some))
follows_idle set t u most (suc n) new idles =
    let both = legal_idle set t n idles.idle in
    record { history = both.0; stands = idles.state ∙ sym both.1 }

follows_at : (set : TaskSet) (t most : ℕ) (e : Entry) (new : MachineState) → Moves most (state_at set t) e new → Follows set t e new
follows_at set t most (entries.Busy u a) new moves = follows_busy set t u most a new moves
follows_at set t most (entries.Idle u n) new moves = follows_idle set t u most n new moves.1

pub Moves-follows : (set : TaskSet) (t most : ℕ) (old : MachineState) (e : Entry) (new : MachineState) → old ≡ state_at set t → Moves most old e new → Follows set t e new
Moves-follows set t most old e new is moves = follows_at set t most e new (subst (λ (m : MachineState). Moves most m e new) is moves)

-- ---- idle stretches

due-key : (u w : ℕ) (x : TaskState) → wake_at x ≡ Some w → w ≤ u → (d : ℕ) × (deadline (woken_task u x) ≡ Some d)
due-key u w x asleep come = due_in-key u x.serving.mode x.serving.account w asleep come
  where
    due_in-key : (u : ℕ) (m : Mode) (a : Account) (w : ℕ) → wake_in m ≡ Some w → w ≤ u → (d : ℕ) × (deadline (record { program = x.program; serving = due_in u m a }) ≡ Some d)
    due_in-key u Active a w there come = absurd cc
    due_in-key u Ended a w there come = absurd cc
    due_in-key u (Faulted fault) a w there come = absurd cc
    due_in-key u (Asleep v) a w there come =
        let same : v ≡ w = some-injective v w there in
        let now : nat_le v u ≡ true = grind (arith, nat_tests) in
        ((due_in u (Asleep v) a).account.d, rw now refl)

woken-key : (u : ℕ) (xs : List TaskState) (i w : ℕ) → key_at (map wake_at xs) i ≡ Some w → w ≤ u → (d : ℕ) × (key_at (map deadline (map (woken_task u) xs)) i ≡ Some d)
woken-key u [] i w there come = absurd (none_is_not_some w there)
woken-key u (x ∷ xs) zero w there come = due-key u w x there come
woken-key u (x ∷ xs) (suc i) w there come = woken-key u xs i w there come

some_least : (keys : List (Option ℕ)) (r : Option (ℕ × ℕ)) (i d : ℕ) → r ≡ least_from 0 keys → key_at keys i ≡ Some d → IsSome r
some_least keys None i d is there = absurd (none_is_not_some d (sym (IsLeast-of_least_from keys None is i) ∙ there))
some_least keys (Some e) i d is there = refl

named_once_woken : (u : ℕ) (xs : List TaskState) (e : ℕ × ℕ) → IsLeast (map wake_at xs) (Some e) → e.0 ≤ u → IsSome (named (map (woken_task u) xs))
named_once_woken u xs e least come =
    let key = woken-key u xs e.1 e.0 least.0 come in
    some_least (map deadline (map (woken_task u) xs)) (named (map (woken_task u) xs)) e.1 key.0 refl key.1

pub idles_without : (most : ℕ) (old : MachineState) → IsLeast (map deadline old.tasks) None → IsLeast (map wake_at old.tasks) None → 0 < most → Idles most most old (passed most old)
idles_without most old idle none some = record {
  some = omega arith;
  within = omega arith;
  idle = record { idle = none_is_least old.tasks idle; quiet = λ k positive below. none_due-none (old.tick + k) (map wake_at old.tasks) old.tasks refl none };
  state = refl;
  longest = inl refl;
}

pub idles_until : (most n until : ℕ) (old : MachineState) (e : ℕ × ℕ) → IsLeast (map deadline old.tasks) None → IsLeast (map wake_at old.tasks) (Some e) → 0 < most
    → until ≡ min (max e.0 (old.tick + 1)) (old.tick + most) → n ≡ until - old.tick → Idles most n old (passed n old)
idles_until most n until old e idle least some is length_is = record {
  some = omega arith;
  within = omega arith;
  idle = record {
    idle = none_is_least old.tasks idle;
    quiet = λ k positive below. none_due-least (old.tick + k) (map wake_at old.tasks) old.tasks e refl least (omega arith);
  };
  state = refl;
  longest = elim (cases_lt n most) [
    | inl less ↦ inr (named_once_woken (old.tick + n) old.tasks e least (omega arith))
    | inr all ↦ inl (omega arith)
  ];
}

-- ---- what comes next

pub next_is : (m : MachineState) (e : ℕ × ℕ) (x : TaskState) → IsTask m.tasks e.1 x → IsLeast (map deadline m.tasks) (Some e) → m.tick < tick_limit → next_of m ≡ nexts.Run e.1 x.program.state.pc
next_is m e x at least early =
    let before : nat_lt m.tick tick_limit ≡ true = grind (arith, nat_tests) in
    let is = named_is_least m.tasks e x least (slice_get-at m.tasks e.1 x at) in
    rw (before, is.task) refl

pub next_is_idle : (m : MachineState) → IsLeast (map deadline m.tasks) None → next_of m ≡ nexts.Idle
next_is_idle m none =
    let named : named_task m.tasks ≡ None = none_named m.tasks (none_is_least m.tasks none) in
    elim (nat_lt m.tick tick_limit) as (λ b. cond b (option_map_or (λ n. nexts.Run n.0 n.1.program.state.pc) (named_task m.tasks) nexts.Idle) nexts.Idle ≡ nexts.Idle) [
      | true ↦ rw named refl
      | false ↦ refl
    ]
