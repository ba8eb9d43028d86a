-- The names that three or more files of these proofs cite, passed on from one place. Declares nothing.
pub use Rattle.std.proofs.Common.{◌≡◌, ℕ, Bool, true, false, not, List, [], ◌++◌, append-nil, append_assoc, Option, Some, Result, Ok, Err, refl, sym, ap, subst, ◌∙◌, inl, inr, arith, zero, suc, ◌+◌, ◌-◌, ◌<◌, ◌≤◌, eqb, ltb, ◌∷◌, length, take, min, true≢false, None, length-append, rules}
pub use Rattle.rt_dialogue.specs.Conversed.{EndsBy, Ends}
pub use Rattle.rt_dialogue.specs.NextByte.{IsOfInput, IsNextByte}
pub use Rattle.rt_dialogue.specs.Responds.{Responds}
pub use Rattle.rt_dialogue.specs.Saying.{HasSaid, SaysLess, Speaks}
pub use Rattle.rt_dialogue.specs.Working.NextLine.{IsNext}
pub use Rattle.rt_dialogue.specs.Working.Places.{SaysOn}
pub use Rattle.rt_dialogue.specs.declared.fault.DebugFault.{DebugFault}
pub use Rattle.rt_dialogue.specs.declared.fault.DebugFault.TheVariants.{Input, Sim}
pub use Rattle.rt_dialogue.specs.declared.remote.beats.Beaten.{Beaten}
pub use Rattle.rt_dialogue.specs.declared.remote.beats.Beaten.TheVariants.{GoesOn, Interrupted, Begun, Ended}
pub use Rattle.rt_dialogue.specs.remote.Dialogue.{DialogueState, RepliesFrom, Answers}
pub use Rattle.rt_dialogue.specs.remote.Working.Runs.{OneBeat, Runs, is_going}
pub use Rattle.rt_dialogue.specs.remote.Working.Took.{Took}
pub use Rattle.rt_image.specs.SystemFile.{TaskSet, task_set}
pub use Rattle.rt_opening.specs.declared.fault.SimFault.TheVariants.{Device}
pub use Rattle.rt_packet.specs.Packet.{packet_of}
pub use Rattle.rt_sink.proofs.Said.{said_nothing}
pub use Rattle.rt_sink.specs.Buffered.{BufferedSink, told, Flushes}
pub use Rattle.rt_sink.specs.Seen.{Seen}
pub use Rattle.rt_sink.specs.declared.sink.DeviceFault.{DeviceFault}
pub use Rattle.std.proofs.lemmas.Result.{err_from_is_err_and}
