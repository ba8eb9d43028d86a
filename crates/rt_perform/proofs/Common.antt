-- The names that three or more files of these proofs cite, passed on from one place. Declares nothing.
pub use Rattle.std.proofs.Common.{◌≡◌, ℕ, Bool, true, false, List, [], Option, inl, inr, refl, subst, suc, ◌<◌, ◌∷◌, ◌++◌, length, map, sym, ap, ◌∙◌, Some, None, Ok, true≢false, Result, Err, arith}
pub use Rattle.rt_admit.specs.declared.admission.Admission.{Admission}
pub use Rattle.rt_desk.specs.Desk.{Files}
pub use Rattle.rt_image.specs.SystemFile.{TaskSet}
pub use Rattle.rt_opening.specs.Overloaded.{IsOverload}
pub use Rattle.rt_perform.specs.Paths.{first_kind}
pub use Rattle.rt_perform.specs.Performs.{Replies, Answers, Works}
pub use Rattle.rt_perform.specs.declared.program.ProgramFault.{ProgramFault}
pub use Rattle.rt_perform.specs.declared.request.Request.{Request}
pub use Rattle.rt_programs.specs.printing.Fails.{Fails, Misnames}
pub use Rattle.rt_set.specs.SetLines.{set_of}
pub use Rattle.rt_sink.specs.Seen.{Seen}
pub use Rattle.std.specs.Global.{Vec}
