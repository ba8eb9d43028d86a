-- The names that three or more files of these proofs cite, passed on from one place. Declares nothing.
pub use Rattle.std.proofs.Common.{append_assoc, ◌≡◌, ℕ, zero, suc, ◌+◌, ◌-◌, ◌==◌, Bool, true, false, cond, List, [], ◌∷◌, ◌++◌, length, Option, Some, None, refl, sym, ap, ◌∙◌, arith, add-zero, ◌≤◌, map, take, replicate, slice_get, subst, count_by, ◌<◌, All, get_or, slice_set}
pub use Rattle.rt_history.proofs.ServingLaws.{period-stays, has_room_for}
pub use Rattle.rt_history.proofs.Steps.{length-legal, legal_next}
pub use Rattle.rt_history.specs.Entries.{ticks_of, GoesOnBy}
pub use Rattle.rt_history.specs.Job.{release_by, ends_job, jobs, is_hard, Job, response, is_late}
pub use Rattle.rt_history.specs.Legal.{record_at, state_at}
unfoldable pub use Rattle.rt_history.specs.Legal.{legal}
pub use Rattle.rt_history.specs.OwnPart.{serving_after, own}
pub use Rattle.rt_history.specs.Serving.{Serving, first_serving, due, after}
pub use Rattle.rt_history.specs.Working.Bounded.{taken}
pub use Rattle.rt_history.specs.declared.mode.Mode.TheVariants.{Active}
pub use Rattle.rt_history.specs.declared.record.Attempt.{Attempt}
pub use Rattle.rt_history.specs.declared.record.AttemptOutcome.{AttemptOutcome}
pub use Rattle.rt_history.specs.declared.record.Entry.{Entry}
pub use Rattle.rt_history.specs.declared.record.Record.{Record}
pub use Rattle.rt_history.specs.declared.record.Record.TheVariants.{Idle, Busy}
pub use Rattle.rt_image.specs.SystemFile.{SetTask, TaskSet}
pub use Rattle.rt_laws.specs.OpenJob.{OpenJob, open_job}
pub use Rattle.rt_laws.specs.Work.{gone_on, finished_at}
pub use Rattle.rt_report.specs.JobLines.{finished_job, finished_jobs}
pub use Rattle.rt_report.specs.Rows.{row_of, rows}
pub use Rattle.rt_report.specs.Standing.{OpenSpan, span_from, TaskReport, task_report, ReportState, wide_row_at}
unfoldable pub use Rattle.rt_report.specs.Standing.{report_at}
pub use Rattle.rt_report.specs.Working.Detailing.{detail_in, all_unfinished}
pub use Rattle.rt_report.specs.Working.Plainly.{plainly, added_plain}
unfoldable pub use Rattle.rt_report.specs.Working.Plainly.{plain_for}
pub use Rattle.rt_report.specs.Working.Tallied.{spanned, with_tick, gone, tallied, tallied_at, added, IsSound, first_reports, closed}
pub use Rattle.rt_report.specs.Working.Waiting.{HasRoom}
pub use Rattle.rt_report.specs.declared.finished_job.FinishedJob.{FinishedJob}
pub use Rattle.rt_report.specs.declared.row.Row.{Row}
pub use Rattle.rt_server.specs.Account.{Account}
pub use Rattle.rt_sink.specs.Sink.{Counts}
pub use Rattle.rt_text_out.proofs.LineLemmas.{lines-by}
pub use Rattle.rt_words.specs.Limits.{tick_limit}
pub use Rattle.std.proofs.lemmas.Bool.Decides.{nat_tests}
pub use Rattle.std.proofs.lemmas.List.{append-nil, take_all}
pub use Rattle.std.proofs.lemmas.List.Concat.{flat_map-append}
pub use Rattle.std.proofs.lemmas.List.Sums.{sum_by-cons}
pub use Rattle.std.specs.List.{flat_map, enumerate_from}
pub use Rattle.std.specs.Option.{option_map, option_map_or, option_to_list}
