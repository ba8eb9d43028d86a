-- Servers that are always busy: all wake at tick 0, and each tick is spent by the one of the least deadline, then number.
use Rattle.std.specs.Prelude.{ℕ, zero, suc, List, map, slice_get, slice_set, Option, Some, None}
use Rattle.rt_admit.specs.declared.params.Params.{Params}
use Rattle.rt_server.specs.Account.{Account, begun}
use Rattle.rt_server.specs.Arrival.{woken}
use Rattle.rt_server.specs.Recharge.{spent}
use Rattle.rt_queue.specs.Least.{least_from}

-- a server of these parameters that woke at tick 0
abbrev pub awake : Params → Account
awake task = woken 0 (begun task.budget task.period)

-- one with its whole budget before this deadline
abbrev pub due_by : Params → ℕ → Account
due_by task d = record { q = task.budget; p = task.period; c = task.budget; d = d; pending = None }

-- the deadline and the number of the server that spends the next tick
abbrev pub deadline : Account → Option ℕ
deadline a = Some a.d

abbrev pub next_server : List Account → Option (ℕ × ℕ)
next_server accounts = least_from 0 (map deadline accounts)

abbrev pub spent_for : List Account → ℕ → Option Account → List Account
spent_for accounts i None = accounts
spent_for accounts i (Some a) = slice_set accounts i (spent a)

abbrev pub spent_in : List Account → Option (ℕ × ℕ) → List Account
spent_in accounts None = accounts
spent_in accounts (Some least) = spent_for accounts least.1 (slice_get accounts least.1)

-- one tick, and several
abbrev pub after_tick : List Account → List Account
after_tick accounts = spent_in accounts (next_server accounts)

unfoldable pub after_ticks : ℕ → List Account → List Account
after_ticks zero accounts = accounts
after_ticks (suc n) accounts = after_tick (after_ticks n accounts)

-- how the servers of these tasks stand after n ticks
abbrev pub busy_servers : List Params → ℕ → List Account
busy_servers tasks n = after_ticks n (map awake tasks)
