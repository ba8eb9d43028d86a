-- All tasks over a tick of the legal history.
use Rattle.rt_waves.proofs.Common.{◌≡◌, ℕ, zero, suc, ◌+◌, ◌≤◌, ◌==◌, Bool, true, false, List, [], ◌∷◌, map, slice_get, slice_set, Option, Some, None, refl, sym, ap, subst, ◌∙◌, arith, enumerate_from, option_map_or, nat_tests, SetTask, TaskSet, Attempt, Record, Idle, Busy, GoesOnBy, task_state, record_at, legal, state_at, is_idle, Place, outcome_of, TaskStanding, task_standing, idle_before, waves_at, visited, gone_on, visited_all, gone_at}
use Rattle.std.proofs.lemmas.List.{append_cancel_left}
use Rattle.rt_history.specs.declared.record.Entry.TheVariants as entries
use Rattle.rt_history.specs.Working.Bounded.{IsTakeable}
use Rattle.rt_history.proofs.Steps.{legal_next, state-of}
use Rattle.rt_history.proofs.TakenLaws.{legal-taken}
use Rattle.rt_waves.specs.Standing.{IsAtPlace}
use Rattle.rt_waves.proofs.StepLaws.{task-other, task-own, IsPlace}

-- tasks of which the first is task i
abbrev pub standing_from : TaskSet → ℕ → ℕ → List SetTask → List TaskStanding
standing_from set t i ss = map (λ n. task_standing set t n.0 n.1) (enumerate_from i ss)

abbrev visited_from : ℕ → Record → ℕ → List TaskStanding → List TaskStanding
visited_from u r i xs = map (λ n. visited u (outcome_of n.0 r) n.1) (enumerate_from i xs)

-- the record is of none of them
others : (set : TaskSet) (t i : ℕ) (ss : List SetTask) → ((j : ℕ) → i ≤ j → outcome_of j (record_at (state_at set t)) ≡ None)
    → standing_from set (t + 1) i ss ≡ visited_from t (record_at (state_at set t)) i (standing_from set t i ss)
others set t i [] none = refl
others set t i (s ∷ ss) none =
    let r = record_at (state_at set t) in
    let one = none i (omega arith) in
    let first : task_standing set (t + 1) i s ≡ visited t (outcome_of i r) (task_standing set t i s) =
    task-other set t i s one ∙ ap (λ o. visited t o (task_standing set t i s)) (sym one) in
    ap (λ (x : TaskStanding). x ∷ standing_from set (t + 1) (i + 1) ss) first
    ∙ ap (λ (xs : List TaskStanding). visited t (outcome_of i r) (task_standing set t i s) ∷ xs) (others set t (i + 1) ss (λ j le. none j (omega arith)))

gone-behind : (t : ℕ) (a : Attempt) (place : Place) (x : TaskStanding) (xs : List TaskStanding) (k : ℕ) (found : Option TaskStanding)
    → option_map_or (λ y. slice_set (x ∷ xs) (suc k) (gone_on t a.outcome place y)) found (x ∷ xs) ≡ x ∷ option_map_or (λ y. slice_set xs k (gone_on t a.outcome place y)) found xs
gone-behind t a place x xs k None = refl
gone-behind t a place x xs k (Some y) = refl

abbrev gone_place : ℕ → Attempt → Place → ℕ → List TaskStanding → List TaskStanding
gone_place t a place k xs = option_map_or (λ x. slice_set xs k (gone_on t a.outcome place x)) (slice_get xs k) xs

outcome-is : (a : Attempt) (i : ℕ) → a.task ≡ i → outcome_of i (Busy a) ≡ Some a.outcome
outcome-is a i same = let hits : (a.task == i) ≡ true = grind (arith, nat_tests) in rw hits refl

outcome-isn't : (a : Attempt) (i : ℕ) → (a.task ≡ i → ⊥) → outcome_of i (Busy a) ≡ None
outcome-isn't a i other = let no : (a.task == i) ≡ false = grind (arith, nat_tests) in rw no refl

-- the record is of the task at place k of them
busy-from : (set : TaskSet) (t i k : ℕ) (a : Attempt) (place : Place) (ss : List SetTask) → record_at (state_at set t) ≡ Busy a → a.task ≡ i + k
    → ((s : SetTask) → slice_get ss k ≡ Some s → IsTakeable a.outcome (task_state t (legal set t) a.task s).serving.account × IsPlace set (t + 1) a.task s place)
    → standing_from set (t + 1) i ss ≡ gone_place t a place k (visited_from t (Busy a) i (standing_from set t i ss))
busy-from set t i zero a place [] is at fits = refl
busy-from set t i (suc k) a place [] is at fits = refl
busy-from set t i zero a place (s ∷ ss) is at fits =
    let task : a.task ≡ i = omega (arith, at) in
    let own : outcome_of i (record_at (state_at set t)) ≡ Some a.outcome = ap (outcome_of i) is ∙ outcome-is a i task in
    let fit = fits s refl in
    let takes : IsTakeable a.outcome (task_state t (legal set t) i s).serving.account = subst (λ (j : ℕ). IsTakeable a.outcome (task_state t (legal set t) j s).serving.account) task fit.0 in
    let stands : IsPlace set (t + 1) i s place = subst (λ (j : ℕ). IsPlace set (t + 1) j s place) task fit.1 in
    let first : task_standing set (t + 1) i s ≡ gone_on t a.outcome place (visited t (outcome_of i (Busy a)) (task_standing set t i s)) =
    task-own set t i s a.outcome place own takes stands
    ∙ ap (λ o. gone_on t a.outcome place (visited t o (task_standing set t i s))) (sym (outcome-is a i task)) in
    let rest : standing_from set (t + 1) (i + 1) ss ≡ visited_from t (Busy a) (i + 1) (standing_from set t (i + 1) ss) =
    others set t (i + 1) ss (λ j le. ap (outcome_of j) is ∙ outcome-isn't a j (λ same. omega (arith, task, le, same)))
    ∙ ap (λ (r : Record). visited_from t r (i + 1) (standing_from set t (i + 1) ss)) is in
    ap (λ (x : TaskStanding). x ∷ standing_from set (t + 1) (i + 1) ss) first
    ∙ ap (λ (xs : List TaskStanding). gone_on t a.outcome place (visited t (outcome_of i (Busy a)) (task_standing set t i s)) ∷ xs) rest
busy-from set t i (suc k) a place (s ∷ ss) is at fits =
    let none : outcome_of i (record_at (state_at set t)) ≡ None = ap (outcome_of i) is ∙ outcome-isn't a i (λ same. omega (arith, at, same)) in
    let v = visited t (outcome_of i (Busy a)) (task_standing set t i s) in
    let first : task_standing set (t + 1) i s ≡ v =
    task-other set t i s none ∙ ap (λ o. visited t o (task_standing set t i s)) (sym none) ∙ ap (λ (r : Record). visited t (outcome_of i r) (task_standing set t i s)) is in
    let rest = busy-from set t (i + 1) k a place ss is (omega (arith, at)) fits in
    let xs = visited_from t (Busy a) (i + 1) (standing_from set t (i + 1) ss) in
    ap (λ (x : TaskStanding). x ∷ standing_from set (t + 1) (i + 1) ss) first
    ∙ ap (λ (ys : List TaskStanding). v ∷ ys) rest
    ∙ sym (gone-behind t a place v xs k (slice_get xs k))

-- ---- all

-- where the legal history goes on by an entry, its first record is the tick's
pub record-is : (set : TaskSet) (t u : ℕ) (a : Attempt) → GoesOnBy set t (entries.Busy u a) → record_at (state_at set t) ≡ Busy a
record-is set t u a goes =
    let next : record_at (state_at set t) ∷ [] ≡ Busy a ∷ [] = append_cancel_left (legal set t) (record_at (state_at set t) ∷ []) (Busy a ∷ []) (sym (legal_next set t) ∙ goes) in
    cc

fits-of : (set : TaskSet) (t u : ℕ) (a : Attempt) (place : Place) → GoesOnBy set t (entries.Busy u a) → IsAtPlace set (t + 1) a.task place
    → (s : SetTask) → slice_get set.tasks a.task ≡ Some s → IsTakeable a.outcome (task_state t (legal set t) a.task s).serving.account × IsPlace set (t + 1) a.task s place
unfolding state_at
fits-of set t u a place goes stop s there = (
  legal-taken set t (entries.Busy u a) goes (task_state t (legal set t) a.task s) (state-of set t a.task s there),
  stop (task_state (t + 1) (legal set (t + 1)) a.task s) (state-of set (t + 1) a.task s there),
)

pub idle-next : (set : TaskSet) (t : ℕ) → idle_before set (t + 1) ≡ is_idle (record_at (state_at set t))
idle-next set t = let next : t + 1 ≡ suc t = omega arith in ap (idle_before set) next

pub waves-busy : (set : TaskSet) (from t u : ℕ) (a : Attempt) (place : Place) → GoesOnBy set t (entries.Busy u a) → IsAtPlace set (t + 1) a.task place
    → waves_at set from (t + 1) ≡ record { from = from; tick = t + 1; idle = false; tasks = gone_at t a place (visited_all t (Busy a) (waves_at set from t).tasks) }
unfolding waves_at
waves-busy set from t u a place goes stop =
    let is = record-is set t u a goes in
    let tasks = busy-from set t 0 a.task a place set.tasks is (omega arith) (fits-of set t u a place goes stop) in
    let idle : idle_before set (t + 1) ≡ false = idle-next set t ∙ ap is_idle is in
    ap (λ (b : Bool). record { from = from; tick = t + 1; idle = b; tasks = standing_from set (t + 1) 0 set.tasks }) idle
    ∙ ap (λ (xs : List TaskStanding). record { from = from; tick = t + 1; idle = false; tasks = xs }) tasks

pub waves-idle : (set : TaskSet) (from t : ℕ) → record_at (state_at set t) ≡ Idle
    → waves_at set from (t + 1) ≡ record { from = from; tick = t + 1; idle = true; tasks = visited_all t Idle (waves_at set from t).tasks }
unfolding waves_at
waves-idle set from t is =
    let tasks : standing_from set (t + 1) 0 set.tasks ≡ visited_from t Idle 0 (standing_from set t 0 set.tasks) =
    others set t 0 set.tasks (λ j le. ap (outcome_of j) is) ∙ ap (λ (r : Record). visited_from t r 0 (standing_from set t 0 set.tasks)) is in
    let idle : idle_before set (t + 1) ≡ true = idle-next set t ∙ ap is_idle is in
    ap (λ (b : Bool). record { from = from; tick = t + 1; idle = b; tasks = standing_from set (t + 1) 0 set.tasks }) idle
    ∙ ap (λ (xs : List TaskStanding). record { from = from; tick = t + 1; idle = true; tasks = xs }) tasks
