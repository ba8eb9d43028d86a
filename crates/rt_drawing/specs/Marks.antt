-- What happened to a task and its server (Abeni and Buttazzo 1998), along its own part: wakes, deadlines, budgets that are used up.
use Rattle.std.specs.Prelude.{ℕ, ◌==◌, nat_le, nat_lt, if◌then◌else◌, Option, None, Some, List, [], ◌∷◌, ◌++◌}
use Rattle.std.specs.List.{flat_map}
use Rattle.rt_server.specs.Account.{Account, coming}
use Rattle.rt_server.specs.Arrival.{wakes_fresh}
use Rattle.rt_image.specs.SystemFile.{SetTask}
use Rattle.rt_history.specs.declared.mode.Mode.{Mode}
use Rattle.rt_history.specs.declared.mode.Mode.TheVariants.{Asleep}
use Rattle.rt_history.specs.declared.record.AttemptOutcome.{AttemptOutcome}
use Rattle.rt_history.specs.declared.record.AttemptOutcome.TheVariants as outcomes
use Rattle.rt_history.specs.Serving.{Serving, first_serving, due, charged}
use Rattle.rt_history.specs.OwnPart.{serving_after}
use Rattle.rt_report.specs.WideRows.{Moment, moments}
use Rattle.rt_drawing.specs.declared.mark.Event.{Event}
use Rattle.rt_drawing.specs.declared.mark.Event.TheVariants.{FreshWake, KeptWake, Deadline, Postponed, GivenUp, End, Yield, Sleep, Granted, Refused, Fault}
use Rattle.rt_drawing.specs.declared.mark.Mark.{Mark}

abbrev pub mark : ℕ → Event → Mark
mark t event = record { tick = t; event = event }

-- the budget that a fresh wake takes, where it is another than before
abbrev pub new_budget : Account → Option ℕ
new_budget a = if coming a == a.q then None else Some (coming a)

-- a wake from sleep until w: afresh, or with the account kept
abbrev pub wake_of : ℕ → Account → Event
wake_of w a = if wakes_fresh w a then FreshWake (new_budget a) else KeptWake

-- the wake of a task that is asleep, where it has come by tick t
abbrev pub wake_in : ℕ → Mode → Account → List Mark
wake_in t (Asleep w) a = if nat_le w t then mark w (wake_of w a) ∷ [] else []
wake_in t mode a = []

-- a deadline that moves on is drawn where it comes to
abbrev pub new_deadline : Account → Account → List Mark
new_deadline old new = if nat_lt old.d new.d then mark new.d Deadline ∷ [] else []

-- the wake by tick t of a task that stands so, and the deadline that it sets
abbrev pub woken_marks : ℕ → Serving → List Mark
woken_marks t s = wake_in t s.mode s.account ++ new_deadline s.account (due t s).account

-- a deadline that a record moves on: its tick used the budget up, or a yield gave the rest up
abbrev pub moved_by : AttemptOutcome → ℕ → ℕ → Event
moved_by outcomes.Yield old new = GivenUp old new
moved_by _ old new = Postponed old new

abbrev pub moved_on : ℕ → AttemptOutcome → Account → Account → List Mark
moved_on u o old new = if nat_lt old.d new.d then mark u (moved_by o old.d new.d) ∷ [] else []

abbrev pub charge_marks : ℕ → AttemptOutcome → Account → Account → List Mark
charge_marks u o old new = moved_on u o old new ++ new_deadline old new

-- what the record itself tells
abbrev pub outcome_marks : ℕ → AttemptOutcome → List Mark
outcome_marks u outcomes.End = mark u End ∷ []
outcome_marks u outcomes.Yield = mark u Yield ∷ []
outcome_marks u (outcomes.Sleep w) = mark u (Sleep w) ∷ []
outcome_marks u (outcomes.Reserve q) = mark u (Granted q) ∷ []
outcome_marks u outcomes.ReserveRefused = mark u Refused ∷ []
outcome_marks u (outcomes.Fault fault) = mark u (Fault fault) ∷ []
outcome_marks u _ = []

-- the marks of a record, the wake before it being told with it
abbrev pub moment_marks : Moment → List Mark
moment_marks m =
    woken_marks m.tick m.before ++ charge_marks m.tick m.outcome (due m.tick m.before).account (charged m.outcome (due m.tick m.before).account)
    ++ outcome_marks m.tick m.outcome

-- the marks of the records of an own part
abbrev pub record_marks : SetTask → List (ℕ × AttemptOutcome) → List Mark
record_marks s own = flat_map moment_marks (moments (first_serving s) own)

-- and with the wake that has come by tick t since the last of them
abbrev pub marks_by : ℕ → SetTask → List (ℕ × AttemptOutcome) → List Mark
marks_by t s own = record_marks s own ++ woken_marks t (serving_after (first_serving s) own)
