-- What a text that was printed, and the failures of its run, answer.
use Rattle.std.specs.Prelude.{◌≡◌, ℕ, List, [], Option, Some, Result, Ok, Err}
use Rattle.rt_sink.specs.Seen.{Seen}
use Rattle.rt_names.specs.declared.task_word.TaskFault.{TaskFault}
use Rattle.rt_opening.specs.declared.fault.SimFault.{SimFault}
use Rattle.rt_programs.specs.printing.Prints.{Prints}
use Rattle.rt_programs.specs.declared.printing.judging.Finding.{Finding}
use Rattle.rt_programs.specs.declared.printing.judging.Verdict.{Verdict}
use Rattle.rt_programs.specs.declared.printing.judging.Verdict.TheVariants.{Judged, Misnamed}

-- its text is printed, and this was found wrong in it, or nothing was; or nothing is, for this fault of a word; or the text isn't
-- printed
abbrev pub Judges : {S : Type 0} → (S → Seen) → (List ℕ → Option SimFault → Type 0) → (Option Finding → Type 0) → (TaskFault → Type 0) → Result Verdict SimFault → S → Type 0
Judges seen Means Fails Misnames (Ok (Judged found)) sink = Prints {X = Unit {0}} seen Means (Ok tt) sink × Fails found
Judges seen Means Fails Misnames (Ok (Misnamed fault)) sink = ((seen sink).contents ≡ Some []) × Misnames fault
Judges seen Means Fails Misnames (Err fault) sink = Prints {X = Unit {0}} seen Means (Err fault) sink
