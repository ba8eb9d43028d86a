-- Ticks by address, in the format that callgrind_annotate reads (Valgrind's manual, "Callgrind Format Specification").
use Rattle.std.specs.Prelude.{ℕ, if◌then◌else◌, Bool, true, false, not, List, [], ◌∷◌, ◌++◌, count_by, Option, Some, None, codes, decimal}
use Rattle.std.specs.List.{flat_map, enumerate_from}
use Rattle.rt_words.specs.Hex.{hex}
use Rattle.rt_image.specs.ObjectFile.{Label}
use Rattle.rt_image.specs.SystemFile.{SetTask, TaskSet}
use Rattle.rt_history.specs.declared.record.Record.{Record}
use Rattle.rt_report.specs.Rows.{is_idle}
use Rattle.rt_profile.specs.Attempts.{attempts}
use Rattle.rt_names.specs.Parts.{part, namer}
use Rattle.rt_profile.specs.Rows.{begins, pcs, ticks_at}

abbrev pub callgrind_header : List ℕ
callgrind_header = codes "# callgrind format\nversion: 1\ncreator: rt_sim\npositions: instr\nevents: Ticks\n\n"

-- the line that names a part
abbrev pub function_line : Option Label → List ℕ
function_line None = codes "fn=???\n"
function_line (Some l) = codes "fn=" ++ l.name ++ codes "\n"

-- a pc, and how many records have it
abbrev pub cost_line : ℕ → ℕ → List ℕ
cost_line a n = codes "0x" ++ hex 8 a ++ codes " " ++ decimal n ++ codes "\n"

-- the lines of an address with so many ticks; a part that isn't that of the address before is named first
abbrev pub name_line : Bool → Option Label → List ℕ
name_line true symbol = function_line symbol
name_line false symbol = []

abbrev pub address_lines : List Label → Option ℕ → ℕ → ℕ → List ℕ
address_lines ls before a n = name_line (begins before (part ls a)) (namer ls a) ++ cost_line a n

-- those of addresses that rise
abbrev pub cost_lines : List Label → (ℕ → ℕ) → Option ℕ → List ℕ → List ℕ
cost_lines ls ticks before [] = []
cost_lines ls ticks before (a ∷ later) = address_lines ls before a (ticks a) ++ cost_lines ls ticks (Some (part ls a)) later

abbrev pub task_head : ℕ → List ℕ
task_head i = codes "ob=task" ++ decimal i ++ codes "\nfl=task" ++ decimal i ++ codes "\n"

abbrev pub is_empty : List ℕ → Bool
is_empty [] = true
is_empty (a ∷ later) = false

-- a task with these ticks at these addresses, where there is one
abbrev pub task_costs : ℕ → List Label → (ℕ → ℕ) → List ℕ → List ℕ
task_costs i ls ticks bs = if is_empty bs then [] else task_head i ++ cost_lines ls ticks None bs ++ codes "\n"

abbrev pub task_text : ℕ → SetTask → List Record → List ℕ
task_text i s history = task_costs i s.object.labels (ticks_at (attempts i history)) (pcs (attempts i history))

-- how many ticks were busy
abbrev pub busy_ticks : List Record → ℕ
busy_ticks history = count_by (λ r. not (is_idle r)) history

abbrev pub totals_line : ℕ → List ℕ
totals_line n = codes "totals: " ++ decimal n ++ codes "\n"

-- the text of a set and a whole history
abbrev pub callgrind_text : TaskSet → List Record → List ℕ
callgrind_text set history =
    callgrind_header ++ flat_map (λ n. task_text n.0 n.1 history) (enumerate_from 0 set.tasks) ++ totals_line (busy_ticks history)
