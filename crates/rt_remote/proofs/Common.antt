-- The names that three or more files of these proofs cite, passed on from one place. Declares nothing.
pub use Rattle.std.proofs.Common.{◌≡◌, inl, inr, ℕ, zero, suc, ◌+◌, ◌<◌, List, [], ◌∷◌, ◌++◌, length, get_or, if◌then◌else◌, Bool, true, false, sym, ap, subst, ◌∙◌, arith, ◌-◌, drop, Option, Some, refl, None, ◌≤◌, true≢false, cond, eqb}
pub use Rattle.rt_core.specs.View.{lent}
pub use Rattle.rt_history.specs.Legal.{state_at}
pub use Rattle.rt_history.specs.MachineState.{MachineState}
pub use Rattle.rt_image.specs.SystemFile.{TaskSet}
pub use Rattle.rt_packet.specs.declared.answer.stops.Stop.{Stop}
pub use Rattle.rt_packet.specs.declared.answer.stops.Stop.TheVariants.{AtTick, Begin, Interrupted, Plain}
pub use Rattle.rt_packet.specs.declared.request.actions.Action.{Action}
pub use Rattle.rt_points.specs.declared.met.Watched.{Watched}
pub use Rattle.rt_remote.specs.Remote.{RemoteState, is_listed}
pub use Rattle.rt_remote.specs.Runs.{GoesTo, GoesBackTo, GoesOneBack, RunsOn}
pub use Rattle.rt_remote.specs.declared.stops.backward.Backward.{Backward}
pub use Rattle.rt_remote.specs.declared.stops.onward.Onward.{Onward}
pub use Rattle.rt_remote.specs.declared.stops.told.Told.{Told}
pub use Rattle.rt_remote.specs.stops.Ahead.{told, done_by}
pub use Rattle.rt_walk.specs.Met.{ahead_of, first_of}
pub use Rattle.rt_walk.specs.Position.{PositionState, WalkState}
pub use Rattle.std.proofs.lemmas.Bool.{cases_lt, lt-ltb, le-ltb}
pub use Rattle.std.specs.List.{filter, range_with_len}
pub use Rattle.std.specs.Option.{option_map}
