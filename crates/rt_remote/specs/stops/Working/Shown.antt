-- What is met by what is shown of a task.
use Rattle.std.specs.Prelude.{ℕ, List, Option}
use Rattle.std.specs.Option.{option_and_then}
use Rattle.rt_core.specs.View.{TaskView}
use Rattle.rt_points.specs.declared.point.Point.{Point}
use Rattle.rt_points.specs.declared.met.Watched.{Watched}
use Rattle.rt_points.specs.Access.{access_of}
use Rattle.rt_points.specs.Met.{watch_at}
use Rattle.rt_remote.specs.stops.Ahead.{word_at}

-- the watchpoint that a task meets by a word that is executed with these registers
abbrev pub watch_of_word : List Point → ℕ → ℕ → List ℕ → Option Watched
watch_of_word points task word x = option_and_then (watch_at points task) (access_of word x)

-- and which is shown so
abbrev pub watch_of_view : List Point → ℕ → ℕ → TaskView → Option Watched
watch_of_view points task pc v = option_and_then (λ word. watch_of_word points task word v.state.x) (word_at v.state.ram pc)
