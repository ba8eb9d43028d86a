-- The text of why a program isn't certified.
use Rattle.std.specs.Prelude.{ℕ, List, ◌++◌, codes, decimal, Option, Some, None}
use Rattle.rt_words.specs.Hex.{hex}
use Rattle.rt_exec.specs.Numbering.{fault_name}
use Rattle.rt_certify.specs.declared.certificate.NotCertified.{NotCertified}
use Rattle.rt_certify.specs.declared.certificate.Reason.{Reason}
use Rattle.rt_certify.specs.declared.certificate.Reason.TheVariants.{OverBudget, Yields, Asks, Faults, TooSoon}

-- the reason's name, and what is told beside it
abbrev pub reason_name : Reason → List ℕ
reason_name (OverBudget release ticks) = codes "OverBudget"
reason_name Yields = codes "Yields"
reason_name Asks = codes "Asks"
reason_name (Faults fault) = codes "Faults"
reason_name (TooSoon release sleep periods) = codes "TooSoon"

abbrev pub periods_end : Option ℕ → List ℕ
periods_end (Some k) = codes " periods " ++ decimal k
periods_end None = codes ""

abbrev pub reason_end : Reason → List ℕ
reason_end (OverBudget release ticks) = codes " release " ++ decimal release ++ codes " ticks " ++ decimal ticks
reason_end Yields = codes ""
reason_end Asks = codes ""
reason_end (Faults fault) = codes " " ++ fault_name fault
reason_end (TooSoon release sleep periods) = codes " release " ++ decimal release ++ codes " sleep " ++ decimal sleep ++ periods_end periods

abbrev pub refusal_text : NotCertified → List ℕ
refusal_text e = reason_name e.reason ++ codes " job " ++ decimal e.job ++ codes " pc " ++ hex 8 e.pc ++ reason_end e.reason
