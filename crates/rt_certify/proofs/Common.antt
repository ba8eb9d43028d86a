-- The names that three or more files of these proofs cite, passed on from one place. Declares nothing.
pub use Rattle.std.proofs.Common.{◌≡◌, ℕ, zero, suc, ◌+◌, ◌<◌, ◌≤◌, [], length, Some, refl, sym, ap, subst, ◌∙◌, arith, Option, None, ◌*◌, ◌^◌, inl, inr}
pub use Rattle.rt_certify.specs.Certified.{IsCertificate}
pub use Rattle.rt_certify.specs.Extremes.{IsPlacedCertificate}
pub use Rattle.rt_certify.specs.Working.Trying.{progress, Stands, IsTold, StandsAt, Progress}
pub use Rattle.rt_certify.specs.declared.certificate.Limits.{Limits}
pub use Rattle.rt_history.specs.Legal.{state_at}
pub use Rattle.rt_history.specs.MachineState.{MachineState}
pub use Rattle.rt_history.specs.Program.{Program, Origin, origin}
pub use Rattle.rt_history.specs.declared.record.AttemptOutcome.{AttemptOutcome}
pub use Rattle.rt_history.specs.declared.record.AttemptOutcome.TheVariants.{Next, End, Write, WriteRefused, Sleep, Yield, Now, Reserve, ReserveRefused, Fault}
pub use Rattle.rt_laws.specs.Alone.{attempted}
pub use Rattle.rt_laws.specs.Certified.{outcome_of, GoesOn}
