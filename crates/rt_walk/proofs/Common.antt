-- The names that three or more files of these proofs cite, passed on from one place. Declares nothing.
pub use Rattle.std.proofs.Common.{◌≡◌, inl, inr, ℕ, ◌+◌, ◌-◌, ◌<◌, ◌≤◌, Bool, true, false, cond, Option, Some, None, refl, sym, ap, subst, ◌∙◌, arith, true≢false, List, [], ◌∷◌, ◌++◌}
pub use Rattle.rt_history.specs.Legal.{state_at}
pub use Rattle.rt_history.specs.declared.record.Entry.{Entry}
pub use Rattle.rt_image.specs.SystemFile.{TaskSet}
pub use Rattle.rt_walk.specs.LastMet.{back_at}
pub use Rattle.rt_walk.specs.Met.{ahead_of, met_at}
pub use Rattle.rt_walk.specs.Position.{PositionState, IsReached, IsAt, WalkState}
pub use Rattle.rt_walk.specs.Working.Kept.{AreKept, tick_of}
pub use Rattle.rt_walk.specs.Working.Led.{GoesOn, sought_by, Searches, Comes}
pub use Rattle.rt_walk.specs.Working.Piece.{LastBefore}
pub use Rattle.rt_walk.specs.Working.Reached.{AreReached}
pub use Rattle.rt_walk.specs.declared.halt.Sought.{Sought}
pub use Rattle.rt_words.specs.Limits.{tick_limit}
pub use Rattle.std.proofs.lemmas.Bool.{cases_lt}
pub use Rattle.std.specs.Prelude.{max, nat_lt, min}
