-- What a set that can be loaded gives, and how its machine begins.
use Rattle.rt_core.proofs.Common.{append_assoc, ◌≡◌, ℕ, zero, suc, ◌+◌, ◌-◌, ◌<◌, ◌≤◌, cond, true, false, Bool, List, [], ◌∷◌, ◌++◌, length, map, take, replicate, get_or, slice_set, All, Option, Some, None, refl, sym, ap, subst, ◌∙◌, arith, All-map, length-map, SetTask, TaskSet, set_tasks, first_task, first_task_fault, MachineState, start_key, wake_at, IsSound}
use Rattle.std.proofs.Common.{◌%◌, ◌==◌, ◌&&◌, nat_le, nat_lt, Result, Ok, Err}
use Rattle.std.proofs.lemmas.Bool.{and_parts, ltb-false}
use Rattle.std.proofs.lemmas.Bool.Decides.{nat_tests}
use Rattle.std.proofs.lemmas.Option.{slice_get-get_or}
use Rattle.std.proofs.lemmas.List.{get_or-map, length-take, set_at, take_more}
use Rattle.rt_words.specs.Base.{base}
use Rattle.rt_words.specs.Limits.{is_ram_size}
use Rattle.rt_admit.specs.Limits.{hyper_limit}
use Rattle.rt_admit.specs.Admission.{IsEligible, IsRunnable}
use Rattle.rt_admit.specs.declared.admission.Admission.{Admission}
use Rattle.rt_admit.specs.Refusal.{refusal_under}
use Rattle.rt_admit.proofs.WeightLemmas.{eligible-within}
use Rattle.rt_image.specs.declared.system.Task.{Task}
use Rattle.rt_image.specs.SystemFile.{set_task}
use Rattle.rt_history.proofs.Steps.{deadlines_begin, eligible-at}
use Rattle.rt_core.specs.declared.fault.LoadFault.{LoadFault}
use Rattle.rt_core.specs.declared.fault.LoadFault.TheVariants.{Memory, Admit, ImageTooBig, BadEntry}
use Rattle.rt_history.specs.Admitted.{params_in, task_params}
use Rattle.rt_core.specs.Loading.{is_entry, task_fault, first_of, LoadsUnder, Begins}
use Rattle.rt_core.specs.Working.First.{IsMakeable}
use Rattle.rt_core.specs.Working.Tied.{AreTied}

-- ---- timers

-- one more timer is set
pub filled : (keys : List (Option ℕ)) (n : ℕ) → n < length keys
    → slice_set (take n keys ++ replicate (length keys - n) None) n (get_or keys n None) ≡ take (n + 1) keys ++ replicate (length keys - (n + 1)) None
filled keys n below =
    let rest : ℕ = length keys - (n + 1) in
    let left : length keys - n ≡ suc rest = omega arith in
    let front : length (take n keys) ≡ n = omega (arith, length-take n keys) in
    ap (λ (k : ℕ). slice_set (take n keys ++ replicate k None) n (get_or keys n None)) left
    ∙ set_at (take n keys) None (replicate rest None) (get_or keys n None) n front
    ∙ sym (ap (λ (front : List (Option ℕ)). front ++ replicate rest None) (take_more keys n None below) ∙ append_assoc (take n keys) (get_or keys n None ∷ []) (replicate rest None))

pub start_at : (ts : List Task) (n : ℕ) (x : Task) → n < length ts → x ≡ get_or ts n x → get_or (map start_key (set_tasks ts)) n None ≡ start_key (set_task x)
start_at ts n x below here =
    get_or-map start_key (set_tasks ts) n (set_task x) None (omega (arith, length-map ts set_task))
    ∙ ap start_key (get_or-map set_task ts n x (set_task x) below ∙ ap set_task (sym here))

pub length-starts : (ts : List Task) → length (map start_key (set_tasks ts)) ≡ length ts
length-starts ts = length-map (set_tasks ts) start_key ∙ length-map ts set_task

pub timers_more : (ts : List Task) (n : ℕ) (x : Task) → n < length ts → x ≡ get_or ts n x
    → slice_set (take n (map start_key (set_tasks ts)) ++ replicate (length ts - n) None) n (start_key (set_task x))
    ≡ take (n + 1) (map start_key (set_tasks ts)) ++ replicate (length ts - (n + 1)) None
timers_more ts n x below here =
    let keys : List (Option ℕ) = map start_key (set_tasks ts) in
    let long : length keys ≡ length ts = length-starts ts in
    let more = subst (λ (k : ℕ). slice_set (take n keys ++ replicate (k - n) None) n (get_or keys n None) ≡ take (n + 1) keys ++ replicate (k - (n + 1)) None) long (filled keys n (omega arith)) in
    subst (λ (key : Option ℕ). slice_set (take n keys ++ replicate (length ts - n) None) n key ≡ take (n + 1) keys ++ replicate (length ts - (n + 1)) None) (start_at ts n x below here) more

-- ---- tasks that can be made

pub makeable_at : (ts : List Task) (i : ℕ) (x : Task) → All IsMakeable (set_tasks ts) → i < length ts → x ≡ get_or ts i x → IsMakeable (set_task x)
makeable_at ts i x all below here =
    let made = all i (set_task x) (omega (arith, length-map ts set_task)) in
    subst IsMakeable (get_or-map set_task ts i x (set_task x) below ∙ ap set_task (sym here)) made

-- no fault of a list is none of its tasks
none_at : (i : ℕ) (ts : List SetTask) → first_task_fault i ts ≡ None → (k : ℕ) (d : SetTask) → k < length ts → (j : ℕ) × (task_fault j (get_or ts k d) ≡ None)
none_at i [] none k d below = absurd (omega arith)
none_at i (t ∷ ts) none zero d below = (i, first_none (task_fault i t) (first_task_fault (i + 1) ts) none)
  where
    first_none : (a b : Option LoadFault) → first_of a b ≡ None → a ≡ None
    first_none None b none = refl
    first_none (Some fault) b none = absurd cc
none_at i (t ∷ ts) none (suc k) d below = none_at (i + 1) ts (later_none (task_fault i t) (first_task_fault (i + 1) ts) none) k d (omega arith)
  where
    later_none : (a b : Option LoadFault) → first_of a b ≡ None → b ≡ None
    later_none None b none = none
    later_none (Some fault) b none = absurd cc

no_bad_entry : (good : Bool) (fault : LoadFault) → cond good None (Some fault) ≡ None → good ≡ true
no_bad_entry true fault none = refl
no_bad_entry false fault none = absurd cc

no_fault : (big good : Bool) (a b : LoadFault) → cond big (Some a) (cond good None (Some b)) ≡ None → (big ≡ false) × (good ≡ true)
no_fault true good a b none = absurd cc
no_fault false good a b none = (refl, no_bad_entry good b none)

is_zero : (n : ℕ) → (n == 0) ≡ true → n ≡ 0
is_zero n test = grind (arith, nat_tests)

makeable : (hyper : ℕ) (j : ℕ) (t : SetTask) → IsEligible hyper (params_in t) → task_fault j t ≡ None → is_ram_size t.ram ≡ true → IsMakeable t
makeable hyper j t eligible none size =
    let tests = no_fault (nat_lt t.ram (length t.object.bytes)) (is_entry t.ram t.object.entry) (ImageTooBig j) (BadEntry j) none in
    let first = and_parts ((t.object.entry % 4 == 0) && nat_le base t.object.entry) (nat_le (t.object.entry + 4) (base + t.ram)) tests.1 in
    let second = and_parts (t.object.entry % 4 == 0) (nat_le base t.object.entry) first.0 in
    record {
      size = size;
      fits = omega (arith, ltb-false t.ram (length t.object.bytes) tests.0);
      entry = is_zero (t.object.entry % 4) second.0;
      budget = eligible.budgeted;
      period = eligible.within;
    }

pub all_makeable : (hyper : ℕ) (ts : List SetTask) → IsRunnable hyper (task_params ts) → first_task_fault 0 ts ≡ None → All (λ t. is_ram_size t.ram ≡ true) ts → All IsMakeable ts
all_makeable hyper ts runnable none sizes = λ k d below.
    let fault = none_at 0 ts none k d below in
    makeable hyper fault.0 (get_or ts k d) (eligible-at hyper k ts (get_or ts k d) runnable.eligible (slice_get-get_or ts k d below)) fault.1 (sizes k d below)

-- ---- the beginning

wakes_begin : (ss : List SetTask) → map wake_at (map first_task ss) ≡ map start_key ss
wakes_begin [] = refl
wakes_begin (s ∷ ss) = ap (λ (keys : List (Option ℕ)). Some s.start ∷ keys) (wakes_begin ss)

IsSound-first : (hyper : ℕ) (s : SetTask) → 1 ≤ hyper → hyper ≤ hyper_limit → IsEligible hyper (params_in s) → IsSound 0 (first_task s)
IsSound-first hyper s positive bounded eligible = record {
  account = record {
    positive = eligible.budgeted;
    within = eligible.within;
    comes = eligible.budgeted;
    comes_within = eligible.within;
    period = omega (arith, eligible-within hyper (params_in s) positive eligible);
    deadline = omega arith;
  };
  begun = λ _. refl;
  active = λ awake. absurd cc;
}

pub tied_first : (hyper : ℕ) (ss : List SetTask) → IsRunnable hyper (task_params ss) → AreTied (replicate (length ss) None) (map start_key ss) hyper 0 (map first_task ss)
tied_first hyper ss runnable = record {
  ready = sym (deadlines_begin ss);
  asleep = sym (wakes_begin ss);
  sound = All-map (IsSound 0) first_task ss (λ k d below. IsSound-first hyper (get_or ss k d) runnable.hyper_positive runnable.hyper_bounded (eligible-at hyper k ss (get_or ss k d) runnable.eligible (slice_get-get_or ss k d below)));
  few = omega (arith, length-map ss first_task, length-map ss params_in, runnable.few);
  whole = runnable.hyper_bounded;
  limit = omega arith;
}

-- why a set that can be run can't be loaded
pub refuses : (s : TaskSet) (fault : LoadFault) → first_task_fault 0 s.tasks ≡ Some fault → Begins s (Err fault)
refuses s Memory is = tt
refuses s (Admit other) is = is
refuses s (ImageTooBig i) is = is
refuses s (BadEntry i) is = is

-- a set that isn't refused is loaded as one that can be run
pub taken : (admission : Admission) (s : TaskSet) (result : Result MachineState LoadFault) → refusal_under admission s.hyper (task_params s.tasks) ≡ None →
    Begins s result → LoadsUnder admission s result
taken admission s (Ok m) none begins = (rw none begins.0, begins.1)
taken admission s (Err Memory) none begins = tt
taken admission s (Err (Admit other)) none begins = rw none begins
taken admission s (Err (ImageTooBig i)) none begins = rw none begins
taken admission s (Err (BadEntry i)) none begins = rw none begins
