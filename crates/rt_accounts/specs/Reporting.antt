-- What the report of a system means.
use Rattle.std.specs.Prelude.{ℕ, min, List, Result}
use Rattle.rt_words.specs.Limits.{tick_limit}
use Rattle.rt_admit.specs.declared.admission.Admission.{Admission}
use Rattle.rt_image.specs.SystemFile.{TaskSet}
use Rattle.rt_history.specs.Legal.{legal}
use Rattle.rt_report.specs.ReportText.{report_text}
use Rattle.rt_report.specs.WideText.{wide_text}
use Rattle.rt_report.specs.CsvText.{csv_text}
use Rattle.rt_opening.specs.Sets.{SetMeans}
use Rattle.rt_opening.specs.declared.fault.SimFault.{SimFault}
use Rattle.rt_accounts.specs.declared.report_system.ReportWidth.{ReportWidth}
use Rattle.rt_accounts.specs.declared.report_system.ReportWidth.TheVariants.{Narrow, Wide, Csv}

-- the report of this width of the legal history of t ticks
abbrev pub text_at : ReportWidth → TaskSet → ℕ → List ℕ
text_at Narrow s t = report_text s (legal s t)
text_at Wide s t = wide_text s t (legal s t)
text_at Csv s t = csv_text s t (legal s t)

abbrev pub ReportMeans : List ℕ → Admission → ℕ → ReportWidth → Result (List ℕ) SimFault → Type 0
ReportMeans file admission n width = SetMeans admission (λ s. text_at width s (min n tick_limit)) file
