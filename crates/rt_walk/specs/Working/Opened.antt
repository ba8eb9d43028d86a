-- How the open jobs go on by an entry.
use Rattle.std.specs.Prelude.{List}
use Rattle.rt_history.specs.declared.record.Record.TheVariants as records
use Rattle.rt_history.specs.declared.record.Entry.{Entry}
use Rattle.rt_history.specs.declared.record.Entry.TheVariants.{Busy, Idle}
use Rattle.rt_walk.specs.declared.jobs.OpenJob.{OpenJob}
use Rattle.rt_walk.specs.Jobs.{opened_by}

abbrev pub opened_in : List OpenJob → Entry → List OpenJob
opened_in jobs (Busy t attempt) = opened_by jobs (records.Busy attempt)
opened_in jobs (Idle t n) = jobs
