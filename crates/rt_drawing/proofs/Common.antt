-- The names that three or more files of these proofs cite, passed on from one place. Declares nothing.
pub use Rattle.std.proofs.Common.{ℕ, suc, ◌+◌, ◌<◌, ◌≤◌, ◌==◌, nat_lt, max, inl, inr, Bool, true, false, cond, List, [], ◌∷◌, ◌++◌, length, get_or, arith, ◌≡◌, zero, ◌-◌, nat_le, ◌&&◌, refl, sym, ap, subst, ◌∙◌, Some, zero-add, Option, ◌⊎◌, None}
pub use Rattle.rt_drawing.specs.Drawn.{noted}
pub use Rattle.rt_drawing.specs.Standing.{TaskDrawing}
pub use Rattle.rt_drawing.specs.Stretches.{alike, stretches, shown_ticks}
pub use Rattle.rt_drawing.specs.Jobs.{first_job, ticked, job_by, job_after}
pub use Rattle.rt_drawing.specs.Waits.{stretch, behind, turns_after, turns, wait, Turn}
pub use Rattle.rt_drawing.specs.declared.job.Job.{Job}
pub use Rattle.rt_drawing.specs.declared.mark.Mark.{Mark}
pub use Rattle.rt_drawing.specs.declared.stretch.Stretch.{Stretch}
pub use Rattle.rt_drawing.specs.declared.window.Window.{Window}
pub use Rattle.rt_history.specs.OwnPart.{own, own_from, serving_after}
pub use Rattle.rt_history.specs.Serving.{first_serving, due, Serving, after}
pub use Rattle.rt_history.specs.Working.Bounded.{IsBounded}
pub use Rattle.rt_history.specs.declared.mode.Mode.{Mode}
pub use Rattle.rt_history.specs.declared.mode.Mode.TheVariants.{Active, Asleep, Ended, Faulted}
pub use Rattle.rt_history.specs.declared.record.AttemptOutcome.{AttemptOutcome}
pub use Rattle.rt_history.specs.declared.record.Record.{Record}
pub use Rattle.rt_history.specs.declared.record.Record.TheVariants.{Idle, Busy}
pub use Rattle.rt_image.specs.SystemFile.{SetTask}
pub use Rattle.rt_server.specs.Account.{Account}
pub use Rattle.std.proofs.lemmas.Bool.{cases_lt}
pub use Rattle.std.proofs.lemmas.Bool.Decides.{nat_tests}
pub use Rattle.std.proofs.lemmas.List.{append-nil}
pub use Rattle.std.specs.List.{flat_map, range_with_len}
pub use Rattle.std.specs.Option.{option_or}
