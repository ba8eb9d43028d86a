-- Waves before the first tick.
use Rattle.rt_waves.proofs.Common.{◌≡◌, ℕ, zero, suc, ◌+◌, ◌<◌, ◌≤◌, true, false, List, [], ◌∷◌, ◌++◌, length, map, take, get_or, All, None, refl, sym, ap, subst, ◌∙◌, arith, length-map, All-nil, All-cons, All-head, All-tail, SetTask, TaskSet, set_tasks, AttemptOutcome, legal, Place, TaskStanding, waves_at, first_standing, gone_on, IsSoundWaves}
use Rattle.std.proofs.lemmas.List.{map-append, take_more}
use Rattle.rt_admit.specs.Admission.{IsEligible, IsRunnable}
use Rattle.rt_admit.specs.Limits.{hyper_limit}
use Rattle.rt_admit.proofs.WeightLemmas.{eligible-within}
use Rattle.rt_image.specs.declared.system.Task.{Task}
use Rattle.rt_image.specs.SystemFile.{set_task}
use Rattle.rt_history.specs.Admitted.{params_in, task_params}
use Rattle.rt_history.proofs.ServingLaws.{IsBounded-charged}
use Rattle.rt_history.specs.Working.Bounded.{taken}
use Rattle.rt_history.proofs.TakenLaws.{taken-takeable}
use Rattle.rt_waves.proofs.SoundLemmas.{Bounded}
use Rattle.rt_waves.proofs.StateLaws.{standing_from}

-- a task of an admitted set is eligible
pub eligible-of : (h i : ℕ) (ts : List Task) (x : Task) → All (IsEligible h) (task_params (set_tasks ts)) → i < length ts → x ≡ get_or ts i x → IsEligible h (params_in (set_task x))
eligible-of h i [] x all below here = absurd (omega arith)
eligible-of h zero (t ∷ ts) x all below here =
    subst (λ (z : Task). IsEligible h (params_in (set_task z))) (sym here) (All-head (IsEligible h) (params_in (set_task t)) (task_params (set_tasks ts)) all)
eligible-of h (suc i) (t ∷ ts) x all below here =
    eligible-of h i ts x (All-tail (IsEligible h) (params_in (set_task t)) (task_params (set_tasks ts)) all) (omega arith) here

-- one task more
pub first-tasks-more : (ts : List Task) (n : ℕ) (x : Task) → n < length ts → x ≡ get_or ts n x
    → map first_standing (set_tasks (take (n + 1) ts)) ≡ map first_standing (set_tasks (take n ts)) ++ first_standing (set_task x) ∷ []
first-tasks-more ts n x below here =
    let more : take (n + 1) ts ≡ take n ts ++ x ∷ [] = take_more ts n x below ∙ ap (λ (y : Task). take n ts ++ y ∷ []) (sym here) in
    ap (λ (ys : List Task). map first_standing (set_tasks ys)) more
    ∙ ap (map first_standing) (map-append set_task (take n ts) (x ∷ [])) ∙ map-append first_standing (set_tasks (take n ts)) (set_task x ∷ [])

first-bounded : (s : SetTask) (hyper : ℕ) → 1 ≤ hyper → hyper ≤ hyper_limit → IsEligible hyper (params_in s) → Bounded 0 (first_standing s)
first-bounded s hyper some few eligible =
    let within : s.period ≤ hyper = eligible-within hyper (params_in s) some eligible in
    record {
      positive = eligible.budgeted;
      within = eligible.within;
      comes = eligible.budgeted;
      comes_within = eligible.within;
      period = omega (arith, within);
      deadline = omega arith;
    }

first-all : (ss : List SetTask) (hyper : ℕ) → 1 ≤ hyper → hyper ≤ hyper_limit → All (IsEligible hyper) (task_params ss) → All (Bounded 0) (map first_standing ss)
first-all [] hyper some few all = All-nil (Bounded 0)
first-all (s ∷ ss) hyper some few all =
    All-cons (Bounded 0) (first_standing s) (map first_standing ss)
    (first-bounded s hyper some few (All-head (IsEligible hyper) (params_in s) (task_params ss) all))
    (first-all ss hyper some few (All-tail (IsEligible hyper) (params_in s) (task_params ss) all))

pub sound-first : (hyper : ℕ) (ss : List SetTask) → IsRunnable hyper (task_params ss) → IsSoundWaves 0 0 true None (map first_standing ss)
sound-first hyper ss runnable = record {
  limit = omega arith;
  count = omega (arith, length-map ss first_standing, length-map ss params_in, runnable.few);
  tasks = first-all ss hyper runnable.hyper_positive runnable.hyper_bounded runnable.eligible;
  wakes = λ k d below. λ v is. omega arith;
  settled = λ is. absurd cc;
  there = λ i is. absurd cc;
}

standing-first : (set : TaskSet) (i : ℕ) (ss : List SetTask) → standing_from set 0 i ss ≡ map first_standing ss
unfolding legal
standing-first set i [] = refl
standing-first set i (s ∷ ss) = ap (λ (xs : List TaskStanding). first_standing s ∷ xs) (standing-first set (i + 1) ss)

pub waves-first : (set : TaskSet) (from : ℕ) (ss : List SetTask) → set.tasks ≡ ss → waves_at set from 0 ≡ record { from = from; tick = 0; idle = false; tasks = map first_standing ss }
unfolding waves_at
waves-first set from ss same =
    ap (λ (xs : List TaskStanding). record { from = from; tick = 0; idle = false; tasks = xs }) (standing-first set 0 set.tasks ∙ ap (map first_standing) same)

-- ---- a record of tick t

pub gone-bounded : (t : ℕ) (o : AttemptOutcome) (place : Place) (x : TaskStanding) → Bounded t x → Bounded (t + 1) (gone_on t o place x)
gone-bounded t o place x b = IsBounded-charged t (taken o x.serving.account) x.serving.account b (taken-takeable o x.serving.account)
