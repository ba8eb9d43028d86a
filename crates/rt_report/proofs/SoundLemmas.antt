-- What holds of each report stays so over an entry.
use Rattle.rt_report.proofs.Common.{◌≡◌, ℕ, ◌+◌, ◌-◌, ◌<◌, ◌≤◌, Bool, true, false, cond, List, [], ◌∷◌, length, map, get_or, All, slice_get, slice_set, Option, Some, None, refl, sym, subst, ◌∙◌, arith, enumerate_from, option_map_or, tick_limit, AttemptOutcome, due, response, ends_job, release_by, taken, OpenJob, finished_at, TaskReport, first_reports, closed, gone, tallied, tallied_at, IsSound}
use Rattle.std.proofs.Common.{◌*◌, ◌^◌}
use Rattle.std.proofs.lemmas.List.{length-map, length-set}
use Rattle.std.proofs.lemmas.Nat.{mul-le}
use Rattle.std.proofs.lemmas.List.Elements.{All-cons, All-head, All-tail, All-set, All-get_or}
use Rattle.std.proofs.lemmas.List.FromFn.{length-enumerate_from}
use Rattle.std.proofs.lemmas.Option.{slice_get_read}
use Rattle.rt_admit.specs.declared.params.Params.{Params}
use Rattle.rt_admit.specs.Admission.{IsEligible, IsRunnable}
use Rattle.rt_admit.specs.Limits.{hyper_limit}
use Rattle.rt_admit.proofs.WeightLemmas.{eligible-within}
use Rattle.rt_history.specs.Working.Bounded.{IsBounded}
use Rattle.rt_history.proofs.ServingLaws.{IsBounded-due, IsBounded-charged, IsBounded-later, has_room}
use Rattle.rt_report.specs.Working.Tallied.{first_report, left, IsSoundReport}
use Rattle.rt_history.proofs.TakenLaws.{taken-takeable}

-- ---- tasks

pub IsSound-later : (t u : ℕ) (x : TaskReport) → t ≤ u → IsSound t x → IsSound u x
IsSound-later t u x le sound = record {
  account = IsBounded-later t u x.serving.account le sound.account;
  open_ticks = omega (arith, sound.open_ticks);
  end = omega (arith, sound.end);
  jobs = omega (arith, sound.jobs);
  ticks = omega (arith, sound.ticks);
  hard = omega (arith, sound.hard);
  late = omega (arith, sound.late);
  overtimes = omega (arith, sound.overtimes);
  fresh_wakes = omega (arith, sound.fresh_wakes);
  kept_wakes = omega (arith, sound.kept_wakes);
  postponements = omega (arith, sound.postponements);
  yields = omega (arith, sound.yields);
  granted = omega (arith, sound.granted);
  refused = omega (arith, sound.refused);
  response = omega (arith, sound.response, mul-le t t u u le le);
}

bit-le : (n t : ℕ) (b : Bool) → n ≤ t → n + cond b 1 0 ≤ t + 1
bit-le n t true le = omega arith
bit-le n t false le = omega arith

-- a record of tick u leaves room for the job that it may finish
pub record IsGone (u : ℕ) (x : TaskReport) : Type 0 where
  pub account : IsBounded (u + 1) x.serving.account
  pub open_ticks : x.open_job.ticks ≤ u + 1
  pub end : x.span.end ≤ u + 1
  pub jobs : x.row.jobs ≤ u
  pub ticks : x.row.ticks ≤ u + 1
  pub hard : x.row.hard ≤ u
  pub late : x.row.late ≤ u
  pub overtimes : x.counts.overtimes ≤ u
  pub fresh_wakes : x.counts.fresh_wakes ≤ u + 1
  pub kept_wakes : x.counts.kept_wakes ≤ u + 1
  pub postponements : x.counts.postponements ≤ u + 1
  pub yields : x.counts.yields ≤ u + 1
  pub granted : x.counts.granted ≤ u + 1
  pub refused : x.counts.refused ≤ u + 1
  pub response : x.counts.response ≤ u * u

pub IsGone-gone : (u : ℕ) (o : AttemptOutcome) (x : TaskReport) → IsSound u x → IsGone u (gone u o x)
IsGone-gone u o x sound = record {
  account = let a = (due u x.serving).account in
      IsBounded-charged u (taken o a) a (IsBounded-due u x.serving.mode x.serving.account sound.account) (taken-takeable o a);
  open_ticks = omega (arith, sound.open_ticks);
  end = omega arith;
  jobs = sound.jobs;
  ticks = omega (arith, sound.ticks);
  hard = sound.hard;
  late = sound.late;
  overtimes = sound.overtimes;
  fresh_wakes = bit-le x.counts.fresh_wakes u _ sound.fresh_wakes;
  kept_wakes = bit-le x.counts.kept_wakes u _ sound.kept_wakes;
  postponements = bit-le x.counts.postponements u _ sound.postponements;
  yields = bit-le x.counts.yields u _ sound.yields;
  granted = bit-le x.counts.granted u _ sound.granted;
  refused = bit-le x.counts.refused u _ sound.refused;
  response = sound.response;
}

-- a response of a job that a record of tick u finishes is at most u + 1
sum-le : (n u release : ℕ) → n ≤ u * u → n + ((u + 1) - release) ≤ (u + 1) * (u + 1)
sum-le n u release le = omega (arith, le)

pub sum-room : (n u : ℕ) (j : OpenJob) → u < tick_limit → n ≤ u * u → n + response (finished_at u j) < 2 ^ 128
sum-room n u j early le =
    let last : u ≤ 2 ^ 40 = omega (arith, early) in
    let square = mul-le u u (2 ^ 40) (2 ^ 40) last last in
    omega (arith, early, le, square)

left_sound : (u : ℕ) (o : AttemptOutcome) (x : TaskReport) → IsGone u x → IsSound (u + 1) (left u o x)
left_sound u o x g =
    elim (ends_job o) as (λ b. IsSound (u + 1) (cond b (closed u (release_by x.open_job.release u o) x) x)) [
      | true ↦ record {
        account = g.account;
        open_ticks = omega arith;
        end = omega arith;
        jobs = omega (arith, g.jobs);
        ticks = g.ticks;
        hard = bit-le x.row.hard u _ g.hard;
        late = bit-le x.row.late u _ g.late;
        overtimes = bit-le x.counts.overtimes u _ g.overtimes;
        fresh_wakes = g.fresh_wakes;
        kept_wakes = g.kept_wakes;
        postponements = g.postponements;
        yields = g.yields;
        granted = g.granted;
        refused = g.refused;
        response = sum-le x.counts.response u x.open_job.release.tick g.response;
      }
      | false ↦ record {
        account = g.account;
        open_ticks = g.open_ticks;
        end = g.end;
        jobs = omega (arith, g.jobs);
        ticks = g.ticks;
        hard = omega (arith, g.hard);
        late = omega (arith, g.late);
        overtimes = omega (arith, g.overtimes);
        fresh_wakes = g.fresh_wakes;
        kept_wakes = g.kept_wakes;
        postponements = g.postponements;
        yields = g.yields;
        granted = g.granted;
        refused = g.refused;
        response = omega (arith, g.response);
      }
    ]

pub IsSound-tallied : (u : ℕ) (o : AttemptOutcome) (x : TaskReport) → IsSound u x → IsSound (u + 1) (tallied u o x)
IsSound-tallied u o x sound = left_sound u o (gone u o x) (IsGone-gone u o x sound)

-- the server has room for one more period once the wakes of tick u are applied
pub has_room_at : (u : ℕ) (x : TaskReport) → u < tick_limit → IsSound u x → (due u x.serving).account.d + (due u x.serving).account.p < 2 ^ 63
has_room_at u x early sound = has_room u (due u x.serving).account (omega (arith, early)) (IsBounded-due u x.serving.mode x.serving.account sound.account)

-- ---- all tasks

All-later : (t u : ℕ) (xs : List TaskReport) → t ≤ u → All (IsSound t) xs → All (IsSound u) xs
All-later t u xs le all = λ k d below. IsSound-later t u (get_or xs k d) le (all k d below)

pub sound_at : (t i : ℕ) (xs : List TaskReport) (x : TaskReport) → i < length xs → x ≡ get_or xs i x → All (IsSound t) xs → IsSound t x
sound_at t i xs x below here all = subst (IsSound t) (sym here) (All-get_or (IsSound t) xs i x below all)

-- n ticks more, in which one of them comes to stand so
pub sound_set : (t idle n i : ℕ) (xs : List TaskReport) (y : TaskReport) → IsSoundReport t idle xs → t + n ≤ tick_limit → IsSound (t + n) y
    → IsSoundReport (t + n) idle (slice_set xs i y)
sound_set t idle n i xs y sound within it = record {
  limit = within;
  idle_ticks = omega (arith, sound.idle_ticks);
  count = omega (arith, length-set xs i y, sound.count);
  tasks = All-set (IsSound (t + n)) xs i y it (All-later t (t + n) xs (omega arith) sound.tasks);
}

pub sound_more : (t idle i : ℕ) (o : AttemptOutcome) (xs : List TaskReport) (x : TaskReport) → IsSoundReport t idle xs → t < tick_limit → i < length xs → x ≡ get_or xs i x
    → IsSoundReport (t + 1) idle (slice_set xs i (tallied t o x))
sound_more t idle i o xs x sound early below here =
    sound_set t idle 1 i xs (tallied t o x) sound (omega arith) (IsSound-tallied t o x (sound_at t i xs x below here sound.tasks))

pub sound_later : (t idle n : ℕ) (xs : List TaskReport) → IsSoundReport t idle xs → t + n ≤ tick_limit → IsSoundReport (t + n) (idle + n) xs
sound_later t idle n xs sound within = record {
  limit = within;
  idle_ticks = omega (arith, sound.idle_ticks);
  count = sound.count;
  tasks = All-later t (t + n) xs (omega arith) sound.tasks;
}

-- ---- at first

first_sound : (i : ℕ) (p : Params) (hyper : ℕ) → 1 ≤ hyper → hyper ≤ hyper_limit → IsEligible hyper p → IsSound 0 (first_report i p)
first_sound i p hyper some few eligible =
    let within : p.period ≤ hyper = eligible-within hyper p some eligible in
    record {
      account = record {
        positive = eligible.budgeted;
        within = eligible.within;
        comes = eligible.budgeted;
        comes_within = eligible.within;
        period = omega (arith, within);
        deadline = omega arith;
      };
      open_ticks = omega arith;
      end = omega arith;
      jobs = omega arith;
      ticks = omega arith;
      hard = omega arith;
      late = omega arith;
      overtimes = omega arith;
      fresh_wakes = omega arith;
      kept_wakes = omega arith;
      postponements = omega arith;
      yields = omega arith;
      granted = omega arith;
      refused = omega arith;
      response = omega arith;
    }

first_all : (i : ℕ) (ps : List Params) (hyper : ℕ) → 1 ≤ hyper → hyper ≤ hyper_limit → All (IsEligible hyper) ps
    → All (IsSound 0) (map (λ n. first_report n.0 n.1) (enumerate_from i ps))
first_all i [] hyper some few eligible = λ k d below. absurd (omega arith)
first_all i (p ∷ ps) hyper some few eligible =
    All-cons (IsSound 0) (first_report i p) (map (λ n. first_report n.0 n.1) (enumerate_from (i + 1) ps))
    (first_sound i p hyper some few (All-head (IsEligible hyper) p ps eligible))
    (first_all (i + 1) ps hyper some few (All-tail (IsEligible hyper) p ps eligible))

pub count_first : (ps : List Params) → length (first_reports ps) ≡ length ps
count_first ps = length-map (enumerate_from 0 ps) (λ n. first_report n.0 n.1) ∙ length-enumerate_from 0 ps

pub sound_first : (hyper : ℕ) (ps : List Params) → IsRunnable hyper ps → IsSoundReport 0 0 (first_reports ps)
sound_first hyper ps runnable = record {
  limit = omega arith;
  idle_ticks = omega arith;
  count = omega (arith, count_first ps, runnable.few);
  tasks = first_all 0 ps hyper runnable.hyper_positive runnable.hyper_bounded runnable.eligible;
}

-- ---- a task by its number

pub tallied_at-is : (u i : ℕ) (o : AttemptOutcome) (xs : List TaskReport) (x : TaskReport) → i < length xs → x ≡ get_or xs i x → tallied_at u o xs i ≡ slice_set xs i (tallied u o x)
tallied_at-is u i o xs x below here = rw (slice_get_read xs (length xs) i x refl below here) refl

pub count_kept : (u i : ℕ) (o : AttemptOutcome) (xs : List TaskReport) → length (tallied_at u o xs i) ≡ length xs
count_kept u i o xs = count (slice_get xs i)
  where
    count : (r : Option TaskReport) → length (option_map_or (λ x. slice_set xs i (tallied u o x)) r xs) ≡ length xs
    count None = refl
    count (Some x) = length-set xs i (tallied u o x)
