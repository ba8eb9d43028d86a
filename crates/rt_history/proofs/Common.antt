-- The names that three or more files of these proofs cite, passed on from one place. Declares nothing.
pub use Rattle.std.proofs.Common.{◌≡◌, ℕ, zero, suc, ◌+◌, ◌≤◌, List, [], ◌∷◌, ◌++◌, length, replicate, refl, ap, ◌∙◌, arith, add-one, add-zero, nat_le, Bool, true, false, map, slice_get, slice_set, Option, Some, None, sym, length-append, ◌==◌, cond, ◌<◌, subst, take}
unfoldable pub use Rattle.rt_history.specs.Calls.{attempt_at}
pub use Rattle.rt_history.specs.MachineState.{MachineState}
pub use Rattle.rt_history.specs.OwnPart.{TaskState, serving_after, own}
pub use Rattle.rt_history.specs.Program.{Program}
pub use Rattle.rt_history.specs.Reservations.{grants}
pub use Rattle.rt_history.specs.declared.record.Attempt.{Attempt}
pub use Rattle.rt_history.specs.declared.record.AttemptOutcome.{AttemptOutcome}
pub use Rattle.rt_history.specs.declared.record.AttemptOutcome.TheVariants.{Reserve, Next}
pub use Rattle.rt_history.specs.declared.record.Entry.{Entry}
pub use Rattle.rt_history.specs.declared.record.Record.{Record}
pub use Rattle.rt_history.specs.declared.record.Record.TheVariants.{Idle, Busy}
pub use Rattle.rt_image.specs.SystemFile.{TaskSet}
pub use Rattle.rt_server.specs.Account.{Account}
pub use Rattle.std.proofs.lemmas.Bool.Decides.{nat_tests}
