-- Which attempts may stop a task, and which actions are looked for.
use Rattle.std.specs.Prelude.{Bool, true, false, Option}
use Rattle.rt_history.specs.declared.record.AttemptOutcome.{AttemptOutcome}
use Rattle.rt_history.specs.declared.record.AttemptOutcome.TheVariants as outcomes
use Rattle.rt_packet.specs.declared.request.actions.Action.{Action}
use Rattle.std.specs.Option.{is_some}
use Rattle.rt_remote.specs.stops.Looked.{is_step}

-- whether an attempt may stop a task, where one is stepped at all or none is
abbrev pub may_stop : Bool → AttemptOutcome → Bool
may_stop steps outcomes.End = true
may_stop steps (outcomes.Fault fault) = true
may_stop steps outcome = steps

-- a step, or any action
abbrev pub such : Bool → Option Action → Bool
such true action = is_step action
such false action = is_some action
