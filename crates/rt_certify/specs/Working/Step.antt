-- What an attempt is to its job, by how it comes out.
use Rattle.std.specs.Prelude.{◌≡◌}
use Rattle.rt_history.specs.declared.record.AttemptOutcome.{AttemptOutcome}
use Rattle.rt_history.specs.declared.record.AttemptOutcome.TheVariants.{Next, End, Write, WriteRefused, Sleep, Yield, Now, Reserve, ReserveRefused, Fault}
use Rattle.rt_certify.specs.declared.certificate.Reason.TheVariants.{Yields, Asks, Faults}
use Rattle.rt_certify.specs.declared.trial.Step.{Step}
use Rattle.rt_certify.specs.declared.trial.Step.TheVariants.{Stays, Sleeps, Ends, Breaks}

abbrev pub IsStep : AttemptOutcome → Step → Type 0
IsStep Next step = step ≡ Stays
IsStep (Write n) step = step ≡ Stays
IsStep WriteRefused step = step ≡ Stays
IsStep (Sleep w) step = step ≡ Sleeps w
IsStep End step = step ≡ Ends
IsStep Yield step = step ≡ Breaks Yields
IsStep (Now u) step = step ≡ Breaks Asks
IsStep (Reserve q) step = step ≡ Breaks Asks
IsStep ReserveRefused step = step ≡ Breaks Asks
IsStep (Fault fault) step = step ≡ Breaks (Faults fault)
