-- Tasks that go on, of whose signals few change.
use Rattle.std.specs.Prelude.{◌≡◌, ◌≢◌, ℕ, ◌<◌, ◌≤◌, Bool, true, false, List, slice_get, Option, Some}
use Rattle.rt_server.specs.Account.{Account}
use Rattle.rt_server.specs.Recharge.{spent}
use Rattle.rt_history.specs.declared.mode.Mode.TheVariants.{Active}
use Rattle.rt_history.specs.declared.record.AttemptOutcome.TheVariants.{Next}
use Rattle.rt_report.specs.WideRows.{postpones}
use Rattle.rt_waves.specs.declared.signals.ModeSignal.TheVariants as signals
use Rattle.rt_waves.specs.declared.signals.TaskWaves.{TaskWaves}
use Rattle.rt_waves.specs.declared.track.Stance.{Stance}
use Rattle.rt_waves.specs.declared.track.Stance.TheVariants.{Rests, Runs, Other}
use Rattle.rt_waves.specs.Standing.{TaskStanding}
use Rattle.rt_waves.specs.Working.Stepped.{rest}

-- the signals of a task that ran, with no pulse, where its deadline and its output are as they stand
abbrev pub going_told : TaskStanding → TaskWaves
going_told x = record {
  running = true;
  mode = signals.Active;
  pc = x.told.pc;
  part = x.told.part;
  c = x.told.c;
  d = x.serving.account.d;
  out = x.out;
  fresh = false;
  kept = false;
  postponed = false;
  finish = false;
}

-- a task is active, its signals are told so, and its budget has changed since
pub record IsGoing (x : TaskStanding) : Type 0 where
  pub mode : x.serving.mode ≡ Active
  pub told : x.told ≡ going_told x
  pub some : 1 ≤ x.serving.account.c
  pub less : x.told.c ≢ x.serving.account.c

-- what a stance says
abbrev pub IsStance : Stance → TaskStanding → Type 0
IsStance Rests x = (x.serving.mode ≡ Active) × (x.told ≡ rest x)
IsStance Runs x = (x.serving.mode ≡ Active) × (x.told ≡ going_told x)
IsStance Other x = Unit {0}

-- a tick leaves budget, at the same deadline
pub record IsLeft (a : Account) : Type 0 where
  pub some : 1 ≤ (spent a).c
  pub less : (spent a).c ≢ a.c
  pub same : (spent a).d ≡ a.d
  pub kept : postpones Next a ≡ false

-- task i ran last, within the window, is going, and no other task's signals change
pub record Goes (from t : ℕ) (idle unsettled : Bool) (last : Option ℕ) (xs : List TaskStanding) (i : ℕ) : Type 0 where
  pub begun : from < t
  pub busy : idle ≡ false
  pub calm : unsettled ≡ false
  pub ran : last ≡ Some i
  pub task : (x : TaskStanding) → slice_get xs i ≡ Some x → IsGoing x

-- so does the one that is kept, if any
abbrev pub IsKeptGoing : ℕ → ℕ → Bool → Bool → Option ℕ → List TaskStanding → Option ℕ → Type 0
IsKeptGoing from t idle unsettled last xs going = (i : ℕ) → going ≡ Some i → Goes from t idle unsettled last xs i
