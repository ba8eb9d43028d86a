-- The lines on a task at the end of a run.
use Rattle.std.specs.Prelude.{ℕ, List, [], ◌++◌, codes, decimal}
use Rattle.rt_words.specs.Hex.{hex}
use Rattle.rt_exec.specs.Numbering.{fault_name}
use Rattle.rt_history.specs.declared.mode.Mode.{Mode}
use Rattle.rt_history.specs.declared.mode.Mode.TheVariants.{Active, Asleep, Ended, Faulted}
use Rattle.rt_core.specs.View.{TaskView}
use Rattle.rt_trace.specs.RegsLine.{regs_text}
use Rattle.rt_trace.specs.OutLine.{out_text}
use Rattle.rt_trace.specs.declared.telling.Telling.{Telling}
use Rattle.rt_trace.specs.declared.telling.Telling.TheVariants.{WithServers, Alone}

abbrev pub mode_text : Mode → List ℕ
mode_text Active = codes "active"
mode_text (Asleep w) = codes "asleep " ++ decimal w
mode_text Ended = codes "ended"
mode_text (Faulted fault) = codes "faulted " ++ fault_name fault

-- the current budget and the deadline, where they are told
abbrev pub server_text : Telling → TaskView → List ℕ
server_text WithServers v = codes " c " ++ decimal v.serving.account.c ++ codes " d " ++ decimal v.serving.account.d
server_text Alone v = []

-- `task <i> <mode> c <c> d <d> pc <pc>`
abbrev pub task_line : Telling → ℕ → TaskView → List ℕ
task_line telling i v =
    codes "task " ++ decimal i ++ codes " " ++ mode_text v.serving.mode ++ server_text telling v
    ++ codes " pc " ++ hex 8 v.state.pc ++ codes "\n"

-- the task's line, its registers and its output
abbrev pub task_text : Telling → ℕ → TaskView → List ℕ → List ℕ
task_text telling i v output = task_line telling i v ++ regs_text v.state.x ++ out_text output
