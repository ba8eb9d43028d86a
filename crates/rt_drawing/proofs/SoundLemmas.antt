-- What holds of what is kept of a task stays so over a record.
use Rattle.rt_drawing.proofs.Common.{ℕ, ◌+◌, ◌≤◌, arith, SetTask, AttemptOutcome, Serving, due, after, IsBounded, Job, job_by, TaskDrawing}
use Rattle.rt_history.specs.declared.record.AttemptOutcome.TheVariants.{End, Sleep}
use Rattle.rt_admit.specs.Admission.{IsEligible}
use Rattle.rt_admit.specs.Limits.{hyper_limit}
use Rattle.rt_admit.proofs.WeightLemmas.{eligible-within}
use Rattle.rt_history.specs.Admitted.{params_in}
use Rattle.rt_history.specs.Working.Bounded.{taken}
use Rattle.rt_history.proofs.ServingLaws.{IsBounded-due, IsBounded-charged, IsBounded-later}
use Rattle.rt_history.proofs.TakenLaws.{taken-takeable}
use Rattle.rt_drawing.specs.Drawn.{first_drawing, IsSound}

-- a record finishes one job at most, and is one tick of one
pub numbers-after : (t : ℕ) (j : Job) (o : AttemptOutcome) → j.number ≤ t → (job_by j o).number ≤ t + 1
numbers-after t j End few = omega (arith, few)
numbers-after t j (Sleep w) few = omega (arith, few)
numbers-after t j _ few = omega (arith, few)

pub ticks-after : (t : ℕ) (j : Job) (o : AttemptOutcome) → j.ticks ≤ t → (job_by j o).ticks ≤ t + 1
ticks-after t j End few = omega arith
ticks-after t j (Sleep w) few = omega arith
ticks-after t j _ few = omega (arith, few)

-- the account after a record
pub bounded-after : (u : ℕ) (o : AttemptOutcome) (s : Serving) → IsBounded u s.account → IsBounded (u + 1) (after u (taken o (due u s).account) (due u s).account).account
bounded-after u o s sound = let a = (due u s).account in IsBounded-charged u (taken o a) a (IsBounded-due u s.mode s.account sound) (taken-takeable o a)

pub IsSound-later : (t u : ℕ) (x : TaskDrawing) → t ≤ u → IsSound t x → IsSound u x
IsSound-later t u x le sound = record {
  account = IsBounded-later t u x.serving.account le sound.account;
  behind = omega (arith, le, sound.behind);
  number = omega (arith, le, sound.number);
  ticks = omega (arith, le, sound.ticks);
  waits = omega (arith, sound.waits);
  stretches = omega (arith, sound.stretches);
  marks = omega (arith, sound.marks);
}

-- a task of an admitted set before its first record
pub first_sound : (allowed i : ℕ) (s : SetTask) (hyper : ℕ) → 1 ≤ hyper → hyper ≤ hyper_limit → IsEligible hyper (params_in s) → IsSound 0 (first_drawing allowed i s)
first_sound allowed i s hyper some few eligible =
    let within : s.period ≤ hyper = eligible-within hyper (params_in s) some eligible in
    record {
      account = record {
        positive = eligible.budgeted;
        within = eligible.within;
        comes = eligible.budgeted;
        comes_within = eligible.within;
        period = omega (arith, within);
        deadline = omega arith;
      };
      behind = omega arith;
      number = omega arith;
      ticks = omega arith;
      waits = omega arith;
      stretches = omega arith;
      marks = omega arith;
    }
