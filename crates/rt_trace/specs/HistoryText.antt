-- The text of a history: a line for each entry.
use Rattle.std.specs.Prelude.{ℕ, List, ◌++◌, Option, Some, None, codes, decimal}
use Rattle.std.specs.List.{flat_map}
use Rattle.rt_words.specs.Hex.{hex}
use Rattle.rt_exec.specs.Numbering.{fault_name}
use Rattle.rt_history.specs.declared.record.AttemptOutcome.{AttemptOutcome}
use Rattle.rt_history.specs.declared.record.AttemptOutcome.TheVariants.{Next, End, Write, WriteRefused, Sleep, Yield, Now, Reserve, ReserveRefused, Fault}
use Rattle.rt_history.specs.declared.record.Record.{Record}
use Rattle.rt_history.specs.declared.record.Entry.{Entry}
use Rattle.rt_history.specs.declared.record.Entry.TheVariants.{Busy, Idle}
use Rattle.rt_history.specs.Entries.{entries}

abbrev pub outcome_text : AttemptOutcome → List ℕ
outcome_text Next = codes "next"
outcome_text End = codes "end"
outcome_text (Write count) = codes "write " ++ decimal count
outcome_text WriteRefused = codes "write refused"
outcome_text (Sleep w) = codes "sleep " ++ decimal w
outcome_text Yield = codes "yield"
outcome_text (Now t) = codes "now " ++ decimal t
outcome_text (Reserve q) = codes "reserve " ++ decimal q
outcome_text ReserveRefused = codes "reserve refused"
outcome_text (Fault fault) = codes "fault " ++ fault_name fault

-- eight hexadecimal digits, or eight hyphens where no word was fetched
abbrev pub word_text : Option ℕ → List ℕ
word_text (Some word) = hex 8 word
word_text None = codes "--------"

-- `<t> <task> <pc> <word> <outcome>`, or `<t> idle <n>`
abbrev pub line : Entry → List ℕ
line (Busy t rec) =
    decimal t ++ codes " " ++ decimal rec.task ++ codes " " ++ hex 8 rec.pc ++ codes " " ++ word_text rec.word ++ codes " "
    ++ outcome_text rec.outcome ++ codes "\n"
line (Idle t n) = decimal t ++ codes " idle " ++ decimal n ++ codes "\n"

-- the lines of a whole history
abbrev pub history_text : List Record → List ℕ
history_text records = flat_map line (entries records)
