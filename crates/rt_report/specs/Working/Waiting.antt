-- Plain records that wait to be counted.
use Rattle.std.specs.Prelude.{◌≡◌, ℕ, ◌+◌, ◌*◌, ◌^◌, ◌<◌, ◌≤◌}
use Rattle.rt_server.specs.Recharge.{spent_for, used_up_for}
use Rattle.rt_history.specs.declared.mode.Mode.TheVariants.{Active}
use Rattle.rt_report.specs.Standing.{TaskReport}

-- n of them are counted, of a task whose span has them already
abbrev pub counted : ℕ → TaskReport → TaskReport
counted n x = record x {
  serving = record { account = spent_for n x.serving.account; mode = x.serving.mode };
  open_job = record x.open_job { ticks = x.open_job.ticks + n };
  row = record x.row { ticks = x.row.ticks + n };
  counts = record x.counts { postponements = x.counts.postponements + used_up_for n x.serving.account };
}

-- what n of them have room for
pub record HasRoom (n : ℕ) (x : TaskReport) : Type 0 where
  pub deadline : x.serving.account.d + x.serving.account.p * n < 2 ^ 63
  pub postponements : x.counts.postponements + used_up_for n x.serving.account < 2 ^ 64
  pub job : x.open_job.ticks + n < 2 ^ 64
  pub ticks : x.row.ticks + n < 2 ^ 64

-- n of them may wait: the task is active, its open job has begun, and each of them moves the deadline on by a period at most
pub record MayWait (n : ℕ) (x : TaskReport) : Type 0 where
  pub active : x.serving.mode ≡ Active
  pub begun : 1 ≤ x.open_job.ticks
  pub within : x.serving.account.d + x.serving.account.p * n ≤ x.serving.account.p * (x.span.end + 1)
  pub room : HasRoom n x
