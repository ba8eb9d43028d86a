-- The text of waves: a value change dump (IEEE 1364-2005, 18.2), which tells each value at its first time, and then where it changes.
use Rattle.std.specs.Prelude.{ℕ, zero, suc, ◌+◌, ◌-◌, ◌==◌, ◌&&◌, if◌then◌else◌, Bool, true, false, not, List, [], ◌∷◌, ◌++◌, length, codes, decimal, bytes_eq}
use Rattle.std.specs.List.{flat_map, enumerate_from, range_with_len}
use Rattle.std.specs.Fmt.{digits}
use Rattle.rt_image.specs.SystemFile.{TaskSet}
use Rattle.rt_names.specs.TaskNames.{task_names, name_at}
use Rattle.rt_waves.specs.declared.scale.Scale.{Scale}
use Rattle.rt_waves.specs.declared.signals.ModeSignal.{ModeSignal}
use Rattle.rt_waves.specs.declared.signals.ModeSignal.TheVariants.{Asleep, Active, Ended, Faulted}
use Rattle.rt_waves.specs.declared.signals.TaskWaves.{TaskWaves}
use Rattle.rt_waves.specs.declared.signals.Value.{Value}
use Rattle.rt_waves.specs.declared.signals.Value.TheVariants.{Wire, Number}
use Rattle.rt_waves.specs.Scale.{scale_line}
use Rattle.rt_waves.specs.Waves.{Waves, waves}

-- ---- values

-- a signal by its code, and its value
pub record Wave : Type 0 where
  pub code : List ℕ
  pub value : Value

abbrev pub wave : List ℕ → Value → Wave
wave code value = record { code = code; value = value }

abbrev pub mode_number : ModeSignal → ℕ
mode_number Asleep = 0
mode_number Active = 1
mode_number Ended = 2
mode_number Faulted = 3

abbrev pub is_same : Value → Value → Bool
is_same (Wire true) (Wire b) = b
is_same (Wire false) (Wire b) = not b
is_same (Number m) (Number n) = m == n
is_same (Wire a) (Number n) = false
is_same (Number m) (Wire b) = false

-- the signals of task i: each code has its number
abbrev pub task_values : ℕ → TaskWaves → List Wave
task_values i w =
    wave (codes "r" ++ decimal i) (Wire w.running)
    ∷ wave (codes "m" ++ decimal i) (Number (mode_number w.mode))
    ∷ wave (codes "p" ++ decimal i) (Number w.pc)
    ∷ wave (codes "s" ++ decimal i) (Number w.part)
    ∷ wave (codes "c" ++ decimal i) (Number w.c)
    ∷ wave (codes "d" ++ decimal i) (Number w.d)
    ∷ wave (codes "o" ++ decimal i) (Number w.out)
    ∷ wave (codes "f" ++ decimal i) (Wire w.fresh)
    ∷ wave (codes "k" ++ decimal i) (Wire w.kept)
    ∷ wave (codes "x" ++ decimal i) (Wire w.postponed)
    ∷ wave (codes "j" ++ decimal i) (Wire w.finish)
    ∷ []

abbrev pub idle_value : Bool → Wave
idle_value idle = wave (codes "i") (Wire idle)

-- those of all
abbrev pub values : Waves → List Wave
values w = idle_value w.idle ∷ flat_map (λ n. task_values n.0 n.1) (enumerate_from 0 w.tasks)

-- ---- lines

abbrev pub value_text : Value → List ℕ
value_text (Wire true) = codes "1"
value_text (Wire false) = codes "0"
value_text (Number n) = codes "b" ++ digits 2 false n ++ codes " "

abbrev pub line : Wave → List ℕ
line w = value_text w.value ++ w.code ++ codes "\n"

-- the lines of those values that differ from the ones before
abbrev pub changed_lines : List Wave → List Wave → List ℕ
changed_lines [] ys = []
changed_lines (x ∷ xs) [] = []
changed_lines (x ∷ xs) (y ∷ ys) = (if is_same x.value y.value then [] else line y) ++ changed_lines xs ys

abbrev pub time_line : ℕ → List ℕ
time_line u = codes "#" ++ decimal u ++ codes "\n"

-- ---- blocks

-- the first block tells all values
abbrev pub first_block : ℕ → List Wave → List ℕ
first_block u now = time_line u ++ codes "$dumpvars\n" ++ flat_map line now ++ codes "$end\n"

abbrev pub is_empty : List ℕ → Bool
is_empty [] = true
is_empty (b ∷ text) = false

-- a later one those that differ; where none does, there is no block
abbrev pub timed : ℕ → List ℕ → List ℕ
timed u lines = if is_empty lines then [] else time_line u ++ lines

abbrev pub later_block : ℕ → List Wave → List Wave → List ℕ
later_block u before now = timed u (changed_lines before now)

-- that of time u, in a window that begins at `from`
abbrev pub block : TaskSet → ℕ → ℕ → List ℕ
block set from u =
    if u == from then first_block u (values (waves set u)) else later_block u (values (waves set (u - 1))) (values (waves set u))

-- ---- the scopes

-- whether task i has another name than each of tasks 0 to n - 1
abbrev pub differs : List (List ℕ) → ℕ → ℕ → Bool
differs names i zero = true
differs names i (suc j) = differs names i j && not (bytes_eq (name_at names j) (name_at names i))

-- whether no two of tasks 0 to n - 1 have one name
abbrev pub all_differ : List (List ℕ) → ℕ → Bool
all_differ names zero = true
all_differ names (suc i) = all_differ names i && differs names i i

-- the scope of task i: its name where those of all differ, else its number
abbrev pub scope_name : Bool → List (List ℕ) → ℕ → List ℕ
scope_name true names i = name_at names i
scope_name false names i = codes "task" ++ decimal i

-- ---- the head

-- a signal's type, code, name, and which bits it has
unfoldable pub variable : List ℕ → List ℕ → ℕ → List ℕ → List ℕ
variable front name i bits = codes "$var " ++ front ++ decimal i ++ codes " " ++ name ++ decimal i ++ bits ++ codes " $end\n"

abbrev pub variables : ℕ → List ℕ
variables i =
    variable (codes "wire 1 r") (codes "running") i []
    ++ variable (codes "reg 2 m") (codes "mode") i (codes " [1:0]")
    ++ variable (codes "reg 32 p") (codes "pc") i (codes " [31:0]")
    ++ variable (codes "reg 32 s") (codes "part") i (codes " [31:0]")
    ++ variable (codes "integer 32 c") (codes "c") i []
    ++ variable (codes "integer 64 d") (codes "d") i []
    ++ variable (codes "integer 32 o") (codes "out") i []
    ++ variable (codes "wire 1 f") (codes "fresh") i []
    ++ variable (codes "wire 1 k") (codes "kept") i []
    ++ variable (codes "wire 1 x") (codes "postponed") i []
    ++ variable (codes "wire 1 j") (codes "finish") i []
    ++ codes "$upscope $end\n"

abbrev pub task_head : List ℕ → ℕ → List ℕ
task_head scope i = codes "$scope module " ++ scope ++ codes " $end\n" ++ variables i

-- of so many tasks with these names
abbrev pub head_text : Scale → List (List ℕ) → ℕ → List ℕ
head_text scale names count =
    scale_line scale ++ codes "$scope module system $end\n$var wire 1 i idle $end\n"
    ++ flat_map (λ i. task_head (scope_name (all_differ names count) names i) i) (range_with_len 0 count)
    ++ codes "$upscope $end\n$enddefinitions $end\n"

-- the text of n times from `from` on: the head, their blocks, and where the last tick ends
abbrev pub waves_text : Scale → TaskSet → ℕ → ℕ → List ℕ
waves_text scale set from n =
    head_text scale (task_names set) (length set.tasks) ++ flat_map (block set from) (range_with_len from n) ++ time_line (from + n)
