-- What is said of a failure.
use Rattle.std.specs.Prelude.{ℕ, List, ◌++◌, codes, decimal}
use Rattle.rt_report.specs.declared.failing.Failing.{Failing}
use Rattle.rt_report.specs.declared.failing.Failing.TheVariants.{Fault, Over, Soft, Refused, Few, Lost}
use Rattle.rt_accounts.specs.declared.accounts.Failure.{Failure}

-- the word that asks for it
abbrev pub failing_word : Failing → List ℕ
failing_word Fault = codes "fault"
failing_word Over = codes "over"
failing_word Soft = codes "soft"
failing_word Refused = codes "refused"
failing_word Few = codes "few"
failing_word Lost = codes "lost"

abbrev pub failure_text : Failure → List ℕ
failure_text f = failing_word f.failing ++ codes " task " ++ decimal f.task
