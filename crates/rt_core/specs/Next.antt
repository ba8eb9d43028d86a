-- What comes next.
use Rattle.std.specs.Prelude.{nat_lt, if◌then◌else◌}
use Rattle.std.specs.Option.{option_map_or}
use Rattle.rt_words.specs.Limits.{tick_limit}
use Rattle.rt_history.specs.Named.{named_task}
use Rattle.rt_history.specs.MachineState.{MachineState}
use Rattle.rt_core.specs.declared.view.Next.{Next}
use Rattle.rt_core.specs.declared.view.Next.TheVariants.{Idle, Run}

-- the named task with its pc; Idle where none is named, and where the last tick has passed
abbrev pub next_of : MachineState → Next
next_of m = if nat_lt m.tick tick_limit then option_map_or (λ n. Run n.0 n.1.program.state.pc) (named_task m.tasks) Idle else Idle
