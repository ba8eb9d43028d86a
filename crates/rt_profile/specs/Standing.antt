-- A profile's state after a history.
use Rattle.std.specs.Prelude.{ℕ, ◌+◌, List, map}
use Rattle.std.specs.List.{enumerate_from}
use Rattle.rt_image.specs.SystemFile.{SetTask, TaskSet}
use Rattle.rt_history.specs.declared.record.Record.{Record}
use Rattle.rt_history.specs.declared.record.Entry.{Entry}
use Rattle.rt_history.specs.declared.record.Entry.TheVariants.{Busy, Idle}
use Rattle.rt_history.specs.Legal.{legal}
use Rattle.rt_report.specs.Rows.{idle_ticks}
use Rattle.rt_profile.specs.Attempts.{attempts}
use Rattle.rt_profile.specs.Counted.{TaskCounts, counted_at, counts_of}

-- the ticks that were told, those of them that were idle, and what is kept of each task
pub record ProfileState : Type 0 where
  pub tick : ℕ
  pub idle : ℕ
  pub tasks : List TaskCounts

-- one entry more
abbrev pub added : Entry → ProfileState → ProfileState
added (Busy t r) p = record { tick = p.tick + 1; idle = p.idle; tasks = counted_at r p.tasks r.task }
added (Idle t n) p = record { tick = p.tick + n; idle = p.idle + n; tasks = p.tasks }

-- what is kept of tasks of which the first is task i
abbrev pub counts_from : List Record → ℕ → List SetTask → List TaskCounts
counts_from history i ss = map (λ n. counts_of n.1 (attempts n.0 history)) (enumerate_from i ss)

-- a profile of this set stands so after the t ticks of the legal history
unfoldable pub profile_at : TaskSet → ℕ → ProfileState
profile_at set t = record { tick = t; idle = idle_ticks (legal set t); tasks = counts_from (legal set t) 0 set.tasks }
