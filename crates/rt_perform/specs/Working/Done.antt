-- What is done of a request that has something to work on.
use Rattle.std.specs.Prelude.{◌≡◌, ◌⊎◌, ℕ, List, Bool, false, Option, Result, Err}
use Rattle.rt_sink.specs.Seen.{Seen}
use Rattle.rt_sink.specs.Buffered.{BufferedSink}
use Rattle.rt_desk.specs.Desk.{Files, Keeps}
use Rattle.rt_opening.specs.declared.fault.SimFault.TheVariants.{Memory}
use Rattle.rt_perform.specs.declared.program.ProgramFault.{ProgramFault}
use Rattle.rt_perform.specs.declared.program.ProgramFault.TheVariants.{Sim}
use Rattle.rt_perform.specs.declared.request.Request.{Request}
use Rattle.rt_perform.specs.Noted.{admission_of, NotesOf}
use Rattle.rt_perform.specs.Performs.{Works, Reports, ReportsFault, status_of}

-- there is no memory to begin; or it is done, and reported behind a note
abbrev pub PerformsGiven : {D S : Type 0} → (D → Option Files) → (D → Option (List ℕ)) → (D → Bool) → (S → Seen) → Request → List ℕ → List ℕ → ℕ → Option (List ℕ) → D → BufferedSink S → ℕ → D → BufferedSink S → Type 0
PerformsGiven files said is_deaf seen request first names less input old out status new after =
    (result : Result ℕ ProgramFault) × (status ≡ status_of result)
    × (((result ≡ Err (Sim Memory)) × Keeps (files old) (files new) × (after ≡ out) × (is_deaf new ≡ false → ReportsFault (said old) result (said new)))
    ⊎ (Works seen request first names less input (files old) out result (files new) after
    × (is_deaf new ≡ false → (noted : Option (List ℕ)) × NotesOf (admission_of request) first (said old) noted × Reports request first noted result (said new))))
