-- The names that three or more files of these proofs cite, passed on from one place. Declares nothing.
pub use Rattle.std.proofs.Common.{◌≡◌, ℕ, ◌<◌, length, get_or, slice_get, Some, refl, sym, ap, subst, ◌∙◌, zero, suc, ◌+◌, ◌-◌, ◌≤◌, inl, inr, cond, true, false, List, [], ◌∷◌, ◌++◌, map, slice_set, Option, None, arith, append_assoc, Bool, take, replicate, All, ◌*◌}
pub use Rattle.rt_core.specs.Kept.{Keeps}
pub use Rattle.rt_core.specs.Loading.{first_task_fault}
pub use Rattle.rt_core.specs.Working.First.{start_key}
pub use Rattle.rt_core.specs.Working.PlainSteps.{StepPlainly, woken_all, IsQuiet, RunsInTurns}
unfoldable pub use Rattle.rt_core.specs.Working.PlainSteps.{stepped_for, said_by}
pub use Rattle.rt_core.specs.Working.Tied.{wake_in, wake_at, IsSound, awake, count_some}
pub use Rattle.rt_exec.specs.Attempt.{attempt}
pub use Rattle.rt_history.specs.Calls.{Told, a0, reserves}
unfoldable pub use Rattle.rt_history.specs.Calls.{attempt_at}
pub use Rattle.rt_history.specs.Legal.{state_at, record_at}
pub use Rattle.rt_history.specs.MachineState.{MachineState}
pub use Rattle.rt_history.specs.Named.{deadline, deadline_in}
pub use Rattle.rt_history.specs.OwnPart.{TaskState}
pub use Rattle.rt_history.specs.Program.{Program}
pub use Rattle.rt_history.specs.Reservations.{grants, reserved_of}
pub use Rattle.rt_history.specs.Serving.{after}
pub use Rattle.rt_history.specs.Working.Step.{woken_task, ran, ran_at, next_state, first_task}
pub use Rattle.rt_history.specs.declared.mode.Mode.{Mode}
pub use Rattle.rt_history.specs.declared.mode.Mode.TheVariants.{Active}
pub use Rattle.rt_history.specs.declared.record.Attempt.{Attempt}
pub use Rattle.rt_history.specs.declared.record.Record.TheVariants.{Busy}
pub use Rattle.rt_image.specs.SystemFile.{SetTask, TaskSet, set_tasks}
pub use Rattle.rt_laws.proofs.Fitting.{safe_at}
pub use Rattle.rt_queue.specs.Keys.{key_at}
pub use Rattle.rt_queue.specs.Least.{IsLeast}
pub use Rattle.rt_server.specs.Account.{Account}
pub use Rattle.rt_words.specs.Limits.{tick_limit}
pub use Rattle.std.proofs.lemmas.Bool.{cases_lt}
pub use Rattle.std.proofs.lemmas.List.{length-map, map-set, append-nil}
pub use Rattle.std.proofs.lemmas.List.Elements.{All-map}
