-- The names that three or more files of these proofs cite, passed on from one place. Declares nothing.
pub use Rattle.std.proofs.Common.{◌≡◌, ℕ, zero, suc, ◌+◌, ◌^◌, ◌<◌, ◌≤◌, ◌==◌, Bool, true, false, cond, List, [], ◌∷◌, ◌++◌, append_assoc, inl, inr, refl, sym, ap, ◌∙◌, arith, ◌-◌, ◌*◌, nat_le, ◌&&◌, length, take, drop, get_or, ◌≢◌, nat_lt, append-nil, codes, decimal, slice_get, slice_set, Option, Some, None, subst, map, length-append, All, not, count_by}
pub use Rattle.rt_history.specs.Entries.{GoesOnBy}
pub use Rattle.rt_history.specs.Legal.{record_at}
unfoldable pub use Rattle.rt_history.specs.Legal.{legal, state_at}
pub use Rattle.rt_history.specs.OwnPart.{task_state}
pub use Rattle.rt_history.specs.Serving.{Serving, due, after}
pub use Rattle.rt_history.specs.declared.mode.Mode.{Mode}
pub use Rattle.rt_history.specs.declared.mode.Mode.TheVariants.{Active, Asleep, Ended, Faulted}
pub use Rattle.rt_history.specs.declared.record.Attempt.{Attempt}
pub use Rattle.rt_history.specs.declared.record.AttemptOutcome.{AttemptOutcome}
pub use Rattle.rt_history.specs.declared.record.AttemptOutcome.TheVariants.{Next}
pub use Rattle.rt_history.specs.declared.record.Record.{Record}
pub use Rattle.rt_history.specs.declared.record.Record.TheVariants.{Busy, Idle}
pub use Rattle.rt_image.specs.SystemFile.{SetTask, TaskSet, set_tasks}
pub use Rattle.rt_report.specs.Rows.{is_idle}
pub use Rattle.rt_report.specs.WideRows.{postpones, fresh_in, kept_in}
pub use Rattle.rt_server.specs.Account.{Account}
pub use Rattle.rt_sink.specs.Offers.{Offers}
pub use Rattle.rt_trace.proofs.Places.{Placed-then}
pub use Rattle.rt_trace.specs.Placed.{Placed}
pub use Rattle.rt_waves.specs.Standing.{TaskStanding, WavesState, told_before, task_standing, told_block, idle_before}
unfoldable pub use Rattle.rt_waves.specs.Standing.{waves_at}
pub use Rattle.rt_waves.specs.Waves.{outcome_of, part_begin, task_waves, Waves, waves}
pub use Rattle.rt_waves.specs.WavesText.{Wave, is_same, line, changed_lines, timed, wave, values, block, time_line, task_values, idle_value, variables, task_head, scope_name, all_differ, mode_number}
pub use Rattle.rt_waves.specs.Working.Stepped.{seen, lines_of, lines_at, visited, visited_all, lines_all, gone_on, gone_by, offered, block_by, IsSoundWaves, first_standing, WakesFrom, gone_at}
pub use Rattle.rt_waves.specs.Working.Telling.{told_line, block_of, telling_at}
pub use Rattle.rt_waves.specs.Working.Visiting.{visited_at, lines_by}
pub use Rattle.rt_waves.specs.declared.block.Telling.{Telling}
pub use Rattle.rt_waves.specs.declared.block.Telling.TheVariants.{Changes}
pub use Rattle.rt_waves.specs.declared.signals.TaskWaves.{TaskWaves}
pub use Rattle.rt_waves.specs.declared.signals.Value.TheVariants.{Wire, Number}
pub use Rattle.rt_waves.specs.declared.track.Place.{Place}
pub use Rattle.rt_words.specs.Limits.{tick_limit}
pub use Rattle.std.proofs.lemmas.Bool.{eq-eqb, cases_lt, eqb-true, cases_Bool}
pub use Rattle.std.proofs.lemmas.Bool.Decides.{nat_tests}
pub use Rattle.std.proofs.lemmas.List.{length-map, length-set}
pub use Rattle.std.proofs.lemmas.List.Elements.{All-nil, All-cons, All-head, All-tail}
pub use Rattle.std.proofs.lemmas.List.FromFn.{length-enumerate_from}
pub use Rattle.std.proofs.lemmas.Option.{slice_get_read}
unfoldable pub use Rattle.std.specs.Fmt.{digits}
pub use Rattle.std.specs.List.{flat_map, range_with_len, enumerate_from, AllByRecursion}
pub use Rattle.std.specs.Option.{option_map_or}
