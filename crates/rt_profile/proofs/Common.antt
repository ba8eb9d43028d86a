-- The names that three or more files of these proofs cite, passed on from one place. Declares nothing.
pub use Rattle.std.proofs.Common.{◌≡◌, ℕ, zero, suc, ◌+◌, ◌-◌, ◌*◌, ◌/◌, ◌%◌, ◌^◌, ◌<◌, ◌≤◌, ◌==◌, nat_le, nat_lt, Bool, true, false, refl, sym, ap, subst, ◌∙◌, arith, ◌≢◌, cond, List, [], ◌∷◌, length, slice_index, slice_set, Option, Some, None, add-zero, get_or-set_other, get_or-set_same, length-set, ◌++◌, map, replicate, slice_get, length-append, count_by, drop, get_or, append_assoc, take, min}
pub use Rattle.rt_history.specs.Job.{ends_job}
unfoldable pub use Rattle.rt_history.specs.Legal.{legal}
pub use Rattle.rt_history.specs.declared.record.Attempt.{Attempt}
pub use Rattle.rt_history.specs.declared.record.AttemptOutcome.{AttemptOutcome}
pub use Rattle.rt_history.specs.declared.record.Record.{Record}
pub use Rattle.rt_history.specs.declared.record.Record.TheVariants.{Idle, Busy}
pub use Rattle.rt_image.specs.ObjectFile.{Label, labels}
pub use Rattle.rt_image.specs.SystemFile.{SetTask, TaskSet}
pub use Rattle.rt_names.specs.Parts.{part, namer}
pub use Rattle.rt_profile.specs.Attempts.{attempts}
pub use Rattle.rt_profile.specs.Counted.{TaskCounts, word_at, with_place, with_pc, finished, with_outcome, counted, counted_all, no_ticks, word_count, counted_at}
pub use Rattle.rt_profile.specs.NeedCounts.{bracket_number, number_from, with_need, bracket_count}
pub use Rattle.rt_profile.specs.NeedsText.{need_text}
pub use Rattle.rt_profile.specs.Rows.{placed, placed_all, ticks_at, ticks_in, PartRow, pcs, row_at, firsts, begins}
pub use Rattle.rt_profile.specs.RowsText.{row_text}
pub use Rattle.rt_profile.specs.Standing.{ProfileState}
pub use Rattle.rt_profile.specs.Working.NeedsTold.{kept_need, kept_needs_from, kept_need_lines}
pub use Rattle.rt_profile.specs.Working.Told.{executed_from, with_outside, executed, kept_at, first_word, kept_costs, kept_row, kept_lines}
pub use Rattle.rt_report.specs.Rows.{is_idle, idle_ticks}
pub use Rattle.rt_words.specs.Base.{base}
pub use Rattle.rt_words.specs.Limits.{tick_limit}
pub use Rattle.std.proofs.lemmas.Bool.{leb-true, eqb-true}
pub use Rattle.std.proofs.lemmas.Bool.Decides.{nat_tests}
pub use Rattle.std.proofs.lemmas.List.{length-replicate, length-map}
pub use Rattle.std.proofs.lemmas.List.Concat.{flat_map-cons}
pub use Rattle.std.proofs.lemmas.List.Sums.{sum_by-cons, count_by-le-length}
pub use Rattle.std.specs.List.{flat_map, sum_by, sum}
pub use Rattle.std.specs.Option.{option_map_or}
