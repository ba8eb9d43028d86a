-- A task's server along its own records (Abeni and Buttazzo 1998): its account and the task's mode.
use Rattle.std.specs.Prelude.{ℕ, nat_le, if◌then◌else◌}
use Rattle.rt_image.specs.SystemFile.{SetTask}
use Rattle.rt_server.specs.Account.{Account, begun}
use Rattle.rt_server.specs.Arrival.{woken}
use Rattle.rt_server.specs.Recharge.{spent, yielded}
use Rattle.rt_server.specs.Reserve.{reserved}
use Rattle.rt_history.specs.declared.mode.Mode.{Mode}
use Rattle.rt_history.specs.declared.mode.Mode.TheVariants.{Active, Asleep, Ended, Faulted}
use Rattle.rt_history.specs.declared.record.AttemptOutcome.{AttemptOutcome}
use Rattle.rt_history.specs.declared.record.AttemptOutcome.TheVariants.{End, Sleep, Yield, Reserve, Fault}

-- a task's account, and its mode
pub record Serving : Type 0 where
  pub account : Account
  pub mode : Mode

-- before its first wake: nothing to spend, deadline 0, and asleep until the start tick
abbrev pub unwoken : ℕ → ℕ → ℕ → Serving
unwoken budget period start = record { account = begun budget period; mode = Asleep start }

abbrev pub first_serving : SetTask → Serving
first_serving s = unwoken s.budget s.period s.start

-- from tick w on, a task that is asleep until w has woken at w
abbrev pub due_in : ℕ → Mode → Account → Serving
due_in t (Asleep w) a = if nat_le w t then record { account = woken w a; mode = Active } else record { account = a; mode = Asleep w }
due_in t mode a = record { account = a; mode = mode }

-- how it stands at tick t, with the wakes of tick t applied
abbrev pub due : ℕ → Serving → Serving
due t s = due_in t s.mode s.account

-- the mode that a record of tick u leaves; a sleep until a tick that isn't to come leaves the task active
abbrev pub mode_after : ℕ → AttemptOutcome → Mode
mode_after u (Sleep w) = if nat_le w u then Active else Asleep w
mode_after u End = Ended
mode_after u (Fault fault) = Faulted fault
mode_after u _ = Active

-- each record takes one tick of the budget; a yield takes the rest; the budget of a reserve is pending from then on
abbrev pub charged : AttemptOutcome → Account → Account
charged Yield a = yielded a
charged (Reserve x) a = reserved x (spent a)
charged _ a = spent a

abbrev pub after : ℕ → AttemptOutcome → Account → Serving
after u outcome a = record { account = charged outcome a; mode = mode_after u outcome }
