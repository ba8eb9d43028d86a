-- What a wide report counts, as marks and as its counts.
use Rattle.std.specs.Prelude.{ℕ, Bool, true, false, List}
use Rattle.rt_image.specs.SystemFile.{SetTask}
use Rattle.rt_history.specs.declared.record.AttemptOutcome.{AttemptOutcome}
use Rattle.rt_history.specs.Serving.{first_serving}
use Rattle.rt_history.specs.OwnPart.{serving_after}
use Rattle.rt_report.specs.declared.wide_row.WideCounts.{WideCounts}
use Rattle.rt_report.specs.WideRows.{counts_of, with_wake}
use Rattle.rt_drawing.specs.declared.mark.Event.{Event}
use Rattle.rt_drawing.specs.declared.mark.Event.TheVariants.{FreshWake, KeptWake, Postponed, GivenUp, Yield, Granted, Refused}

abbrev pub is_fresh_wake : Event → Bool
is_fresh_wake (FreshWake budget) = true
is_fresh_wake _ = false

abbrev pub is_kept_wake : Event → Bool
is_kept_wake KeptWake = true
is_kept_wake _ = false

-- a deadline that moved on, the budget used up or given up
abbrev pub is_postponement : Event → Bool
is_postponement (Postponed old new) = true
is_postponement (GivenUp old new) = true
is_postponement _ = false

abbrev pub is_yield_mark : Event → Bool
is_yield_mark Yield = true
is_yield_mark _ = false

abbrev pub is_grant_mark : Event → Bool
is_grant_mark (Granted q) = true
is_grant_mark _ = false

abbrev pub is_refusal_mark : Event → Bool
is_refusal_mark Refused = true
is_refusal_mark _ = false

-- the counts of a task's wide row after t ticks, by its own part
abbrev pub counts_by : ℕ → SetTask → List (ℕ × AttemptOutcome) → WideCounts
counts_by t s own = with_wake t (serving_after (first_serving s) own) (counts_of s own)
