-- The words of the tasks of a set, and the state that a machine shows of one.
use Rattle.rt_effects.proofs.Common.{◌≡◌, ℕ, zero, suc, ◌+◌, ◌<◌, ◌≤◌, ◌++◌, get_or, take, nat_lt, true, List, [], ◌∷◌, length, slice_get, Option, Some, None, refl, sym, ap, ◌∙◌, arith, option_map, TaskSet, state_at, TaskWords, words_of, words_in, state_before}
use Rattle.std.proofs.Common.{map}
use Rattle.std.specs.List.{enumerate_from}
use Rattle.std.specs.Option.{option_map_or}
use Rattle.std.proofs.lemmas.Bool.Decides.{nat_tests}
use Rattle.std.proofs.lemmas.List.{length-map, length-take, take_all, take_more, map-append}
use Rattle.std.proofs.lemmas.List.FromFn.{length-enumerate_from}
use Rattle.rt_words.specs.Limits.{tick_limit}
use Rattle.rt_image.specs.SystemFile.{SetTask, set_task, set_tasks}
use Rattle.rt_image.specs.declared.system.Task.{Task}
use Rattle.rt_history.specs.declared.record.Attempt.{Attempt}
use Rattle.rt_history.specs.declared.record.Record.TheVariants as records
use Rattle.rt_history.specs.OwnPart.{TaskState, task_state}
use Rattle.rt_history.specs.Named.{named_task}
use Rattle.rt_history.specs.MachineState.{MachineState}
use Rattle.rt_history.specs.Legal.{attempt_of, record_at, legal}
use Rattle.rt_history.specs.Reservations.{grants}
use Rattle.rt_history.proofs.Steps.{state-of}
use Rattle.rt_core.specs.declared.view.Next.TheVariants.{Idle, Run}
use Rattle.rt_core.specs.declared.view.View.{View}
use Rattle.rt_core.specs.Next.{next_of}
use Rattle.rt_core.specs.View.{lent, shown}
use Rattle.rt_effects.specs.TraceText.{registers_of}

-- ---- words

words-at : (k i : ℕ) (ss : List SetTask) (s : SetTask) → slice_get ss i ≡ Some s → slice_get (map (λ n. words_of n.0 n.1) (enumerate_from k ss)) i ≡ Some (words_of (k + i) s)
words-at k i [] s there = absurd cc
words-at k zero (x ∷ ss) s there = let same : x ≡ s = cc in let at : k ≡ k + zero = omega arith in ap (λ y. Some (words_of k y)) same ∙ ap (λ j. Some (words_of j s)) at
words-at k (suc i) (x ∷ ss) s there =
    let at : k + 1 + i ≡ k + suc i = omega arith in
    words-at (k + 1) i ss s there ∙ ap (λ j. Some (words_of j s)) at

pub words-of-task : (set : TaskSet) (i : ℕ) (s : SetTask) → slice_get set.tasks i ≡ Some s → slice_get (words_in set) i ≡ Some (words_of i s)
words-of-task set i s there =
    let at : 0 + i ≡ i = omega arith in
    words-at 0 i set.tasks s there ∙ ap (λ j. Some (words_of j s)) at

pub words-count : (set : TaskSet) → length (words_in set) ≡ length set.tasks
words-count set = length-map (enumerate_from 0 set.tasks) (λ n. words_of n.0 n.1) ∙ length-enumerate_from 0 set.tasks

words-behind : (k : ℕ) (ss : List SetTask) (s : SetTask)
    → map (λ n. words_of n.0 n.1) (enumerate_from k (ss ++ s ∷ [])) ≡ map (λ n. words_of n.0 n.1) (enumerate_from k ss) ++ words_of (k + length ss) s ∷ []
words-behind k [] s = let at : k ≡ k + 0 = omega arith in ap (λ j. words_of j s ∷ []) at
words-behind k (x ∷ ss) s =
    let at : k + 1 + length ss ≡ k + suc (length ss) = omega arith in
    ap (λ ws. words_of k x ∷ ws) (words-behind (k + 1) ss s ∙ ap (λ j. map (λ n. words_of n.0 n.1) (enumerate_from (k + 1) ss) ++ words_of j s ∷ []) at)

-- those of the first tasks of a system
abbrev pub first_words : ℕ → List Task → List TaskWords
first_words n ts = map (λ m. words_of m.0 m.1) (enumerate_from 0 (set_tasks (take n ts)))

tasks-more : (n : ℕ) (ts : List Task) (t : Task) → n < length ts → t ≡ get_or ts n t → set_tasks (take (n + 1) ts) ≡ set_tasks (take n ts) ++ set_task t ∷ []
tasks-more n ts t less is =
    ap set_tasks (take_more ts n t less ∙ ap (λ (y : Task). take n ts ++ y ∷ []) (sym is)) ∙ map-append set_task (take n ts) (t ∷ [])

pub words-more : (n : ℕ) (ts : List Task) (t : Task) → n < length ts → t ≡ get_or ts n t → first_words (n + 1) ts ≡ first_words n ts ++ words_of n (set_task t) ∷ []
words-more n ts t less is =
    let count : length (set_tasks (take n ts)) ≡ n = omega (arith, length-map (take n ts) set_task, length-take n ts, less) in
    ap (λ ss. map (λ m. words_of m.0 m.1) (enumerate_from 0 ss)) (tasks-more n ts t less is)
    ∙ words-behind 0 (set_tasks (take n ts)) (set_task t)
    ∙ ap (λ j. first_words n ts ++ words_of j (set_task t) ∷ []) (omega (arith, count))

pub words-all : (n : ℕ) (ts : List Task) → length ts ≤ n → first_words n ts ≡ map (λ m. words_of m.0 m.1) (enumerate_from 0 (set_tasks ts))
words-all n ts late = ap (λ (xs : List Task). map (λ m. words_of m.0 m.1) (enumerate_from 0 (set_tasks xs))) (take_all n ts late)

pub found-at : (ws : List TaskWords) (i : ℕ) (w d : TaskWords) → slice_get ws i ≡ Some w → get_or ws i d ≡ w
found-at [] i w d is = absurd cc
found-at (x ∷ ws) zero w d is = cc
found-at (x ∷ ws) (suc i) w d is = found-at ws i w d is

-- ---- a view of a task after t ticks

some-lent : (view : View) (found : Option TaskState) (s : TaskState) → found ≡ Some s → option_map lent (Some view) ≡ option_map shown found → lent view ≡ shown s
some-lent view found s is same = let both : Some (lent view) ≡ Some (shown s) = same ∙ ap (option_map shown) is in cc

pub registers-shown : (set : TaskSet) (t i : ℕ) (s : SetTask) (m : MachineState) (view : View) → slice_get set.tasks i ≡ Some s → m ≡ state_at set t
    → option_map lent (Some view) ≡ option_map shown (slice_get m.tasks i) → record { pc = view.pc; x = view.x.now } ≡ registers_of (state_before set t i s)
registers-shown set t i s m view there is same =
    let found : slice_get m.tasks i ≡ Some (task_state t (legal set t) i s) = ap (λ (n : MachineState). slice_get n.tasks i) is ∙ state-of set t i s there in
    ap (λ v. registers_of v.state) (some-lent view (slice_get m.tasks i) (task_state t (legal set t) i s) found same)

pub x-shown : (view : View) (found : Option TaskState) (s : TaskState) → found ≡ Some s → option_map lent (Some view) ≡ option_map shown found → view.x.now ≡ s.program.state.x
x-shown view found s is same = ap (λ v. v.state.x) (some-lent view found s is same)

-- ---- the task that is named before an attempt

run_from : (found : Option (ℕ × TaskState)) (f : ℕ × TaskState → Attempt) → ((n : ℕ × TaskState) → (f n).task ≡ n.0) → (a : Attempt) (i pc : ℕ)
    → records.Busy a ≡ option_map_or (λ n. records.Busy (f n)) found records.Idle → Run i pc ≡ option_map_or (λ n. Run n.0 n.1.program.state.pc) found Idle → i ≡ a.task
run_from None f same a i pc busy run = absurd cc
run_from (Some n) f same a i pc busy run =
    let one : a ≡ f n = cc in
    let other : i ≡ n.0 = cc in
    other ∙ sym (same n) ∙ sym (ap (λ (b : Attempt). b.task) one)

idle_from : (found : Option (ℕ × TaskState)) (f : ℕ × TaskState → Attempt) (a : Attempt)
    → records.Busy a ≡ option_map_or (λ n. records.Busy (f n)) found records.Idle → Idle ≡ option_map_or (λ n. Run n.0 n.1.program.state.pc) found Idle → ⊥
idle_from None f a busy idle = absurd cc
idle_from (Some n) f a busy idle = absurd cc

next_is : (m : MachineState) → m.tick < tick_limit → next_of m ≡ option_map_or (λ n. Run n.0 n.1.program.state.pc) (named_task m.tasks) Idle
next_is m less = let is : nat_lt m.tick tick_limit ≡ true = grind (arith, nat_tests, less) in rw is refl

pub named-attempts : (m : MachineState) (a : Attempt) (i pc : ℕ) → m.tick < tick_limit → records.Busy a ≡ record_at m → Run i pc ≡ next_of m → i ≡ a.task
named-attempts m a i pc less busy run =
    run_from (named_task m.tasks) (λ n. attempt_of m.tick n.0 (grants m n.0) n.1.program) (λ n. refl) a i pc busy (run ∙ next_is m less)

pub none-attempts : (m : MachineState) (a : Attempt) → m.tick < tick_limit → records.Busy a ≡ record_at m → Idle ≡ next_of m → ⊥
none-attempts m a less busy idle =
    idle_from (named_task m.tasks) (λ n. attempt_of m.tick n.0 (grants m n.0) n.1.program) a busy (idle ∙ next_is m less)
