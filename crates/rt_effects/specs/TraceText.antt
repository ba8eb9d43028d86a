-- The text of the ticks of a history: what each did.
use Rattle.std.specs.Prelude.{ℕ, ◌+◌, ◌-◌, ◌==◌, nat_lt, if◌then◌else◌, Bool, true, false, List, [], ◌∷◌, ◌++◌, length, drop, map, slice_get, Option, Some, None, codes, decimal}
use Rattle.std.specs.List.{flat_map, enumerate_from}
use Rattle.std.specs.Option.{option_map_or}
use Rattle.rt_words.specs.Hex.{hex}
use Rattle.rt_isa.specs.Print.{text}
use Rattle.rt_image.specs.ObjectFile.{Label}
use Rattle.rt_image.specs.SystemFile.{SetTask, TaskSet}
use Rattle.rt_exec.specs.State.{State, Registers}
use Rattle.rt_history.specs.declared.record.Attempt.{Attempt}
use Rattle.rt_history.specs.declared.record.Entry.{Entry}
use Rattle.rt_history.specs.declared.record.Entry.TheVariants.{Busy, Idle}
use Rattle.rt_history.specs.OwnPart.{task_state}
use Rattle.rt_history.specs.Legal.{legal}
use Rattle.rt_history.specs.Entries.{entries_from}
use Rattle.rt_names.specs.Parts.{namer}
use Rattle.rt_names.specs.TaskName.{task_name}
use Rattle.rt_effects.specs.Did.{did}

-- hexadecimal digits without those zeros that lead
abbrev pub least_digits : List ℕ → List ℕ
least_digits [] = []
least_digits (c ∷ digits) = if c == 48 then least_digits digits else c ∷ digits

-- how far an address is from the beginning of its part, where it isn't there
abbrev pub offset_text : ℕ → List ℕ
offset_text n = if n == 0 then [] else codes "+0x" ++ least_digits (hex 8 n)

-- the part of an address by its name; `-` for the nameless part
abbrev pub part_text : ℕ → Option Label → List ℕ
part_text a None = codes "-"
part_text a (Some l) = l.name ++ offset_text (a - l.address)

-- the name and the symbols of a task
pub record TaskWords : Type 0 where
  pub name : List ℕ
  pub labels : List Label

abbrev pub words_of : ℕ → SetTask → TaskWords
words_of i s = record { name = task_name i s.object; labels = s.object.labels }

-- those of each task of a set
abbrev pub words_in : TaskSet → List TaskWords
words_in set = map (λ n. words_of n.0 n.1) (enumerate_from 0 set.tasks)

-- where a task is at an address; its name comes first where it has one of several
abbrev pub place_text : Bool → TaskWords → ℕ → List ℕ
place_text true w a = w.name ++ codes ":" ++ part_text a (namer w.labels a)
place_text false w a = part_text a (namer w.labels a)

-- the instruction at pc; `-` where no word was fetched
abbrev pub instruction_text : ℕ → Option ℕ → List ℕ
instruction_text pc None = codes "-"
instruction_text pc (Some word) = text pc word

-- `<tick> <task> <pc> <place> <instruction> <what it did>` with tabulators: the registers before the tick, pc and the registers after it
abbrev pub busy_line : Bool → TaskWords → List ℕ → Registers → ℕ → Attempt → List ℕ
busy_line is_one_of_several w x after t a =
    decimal t ++ codes "\t" ++ decimal a.task ++ codes "\t" ++ hex 8 a.pc ++ codes "\t" ++ place_text is_one_of_several w a.pc ++ codes "\t"
    ++ instruction_text a.pc a.word ++ codes "\t" ++ did x after a ++ codes "\n"

-- `<first tick> idle <how many>`
abbrev pub idle_line : ℕ → ℕ → List ℕ
idle_line t n = decimal t ++ codes "\tidle\t" ++ decimal n ++ codes "\n"

-- task i's state before tick t
abbrev pub state_before : TaskSet → ℕ → ℕ → SetTask → State
state_before set t i s = (task_state t (legal set t) i s).program.state

abbrev pub registers_of : State → Registers
registers_of s = record { pc = s.pc; x = s.x }

abbrev pub attempt_line : TaskSet → ℕ → Attempt → SetTask → List ℕ
attempt_line set t a s =
    busy_line (nat_lt 1 (length set.tasks)) (words_of a.task s) (state_before set t a.task s).x
    (registers_of (state_before set (t + 1) a.task s)) t a

-- whether a task's ticks are asked for: all of them, or those of one
abbrev pub is_asked : Option ℕ → ℕ → Bool
is_asked None i = true
is_asked (Some task) i = task == i

-- where all are asked for, idle stretches have lines too
abbrev pub entry_line : TaskSet → Option ℕ → Entry → List ℕ
entry_line set task (Busy t a) = if is_asked task a.task then option_map_or (attempt_line set t a) (slice_get set.tasks a.task) [] else []
entry_line set None (Idle t n) = idle_line t n
entry_line set (Some task) (Idle t n) = []

-- the entries of ticks from .. from + n - 1 of the legal history
abbrev pub window : TaskSet → ℕ → ℕ → List Entry
window set from n = entries_from from (drop from (legal set (from + n)))

-- their text: all of it, or that of one task's ticks
abbrev pub trace_text : TaskSet → ℕ → ℕ → Option ℕ → List ℕ
trace_text set from n task = flat_map (entry_line set task) (window set from n)
