-- One server that is always busy.
use Rattle.std.specs.Prelude.{ℕ, zero, suc, ◌+◌, ◌*◌, ◌/◌, ◌≤◌}
use Rattle.rt_admit.specs.declared.params.Params.{Params}
use Rattle.rt_server.specs.Account.{Account}
use Rattle.rt_server.specs.Recharge.{spent}
use Rattle.rt_laws.specs.Working.BusyServers.{due_by}

-- what makes a server: a budget within the period
pub record IsGranted (task : Params) : Type 0 where
  pub asked : 1 ≤ task.budget
  pub within : task.budget ≤ task.period

-- each budget with a deadline up to e is spent
abbrev pub past : ℕ → Params → Account
past e task = due_by task (task.period * (e / task.period + 1))

-- several ticks of its own
abbrev pub spent_times : ℕ → Account → Account
spent_times zero a = a
spent_times (suc k) a = spent (spent_times k a)
