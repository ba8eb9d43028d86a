-- By what a listed task is resumed.
use Rattle.std.specs.Prelude.{ℕ, ◌==◌, if◌then◌else◌, Option, Some, None}
use Rattle.rt_packet.specs.declared.request.actions.Action.{Action}
use Rattle.rt_packet.specs.declared.request.actions.Action.TheVariants as actions
use Rattle.rt_packet.specs.request.Actions.{action_of}
use Rattle.rt_packet.specs.request.Ids.{names}
use Rattle.rt_remote.specs.declared.chosen.Choice.{Choice}
use Rattle.rt_remote.specs.declared.chosen.Choice.TheVariants.{First, Continue, Step}

abbrev pub action_by : Choice → ℕ → Option Action
action_by (First resumed) task = action_of resumed.now task
action_by (Continue tasks) task = if names tasks task then Some actions.Continue else None
action_by (Step tasks stepped) task = if names tasks task then Some (if task == stepped then actions.Step else actions.Continue) else None
