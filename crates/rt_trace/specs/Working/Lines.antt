-- A page of lines as contracts see it, and parts of lines.
use Rattle.std.specs.Prelude.{ℕ, List, ◌++◌, codes, decimal}
use Rattle.rt_words.specs.Hex.{hex}
use Rattle.rt_history.specs.declared.record.Attempt.{Attempt}
use Rattle.rt_history.specs.declared.record.Entry.{Entry}
use Rattle.rt_history.specs.declared.record.Entry.TheVariants.{Busy, Idle}
use Rattle.rt_trace.specs.HistoryText.{word_text, outcome_text}

-- its bytes, the first of the hundred ticks whose digits it keeps, and the number of a task that it keeps, as it stands in a line
pub record PageState : Type 0 where
  pub text : List ℕ
  pub hundred : ℕ
  pub name : List ℕ

-- the number of a task as it stands in a line
abbrev pub name_text : ℕ → List ℕ
name_text task = codes " " ++ decimal task ++ codes " "

-- what follows the tick of an attempt in its line, but for the line's end
abbrev pub attempt_text : Attempt → List ℕ
attempt_text rec = name_text rec.task ++ (hex 8 rec.pc ++ codes " " ++ word_text rec.word) ++ (codes " " ++ outcome_text rec.outcome)

-- what follows the tick in the line of an entry
abbrev pub rest_text : Entry → List ℕ
rest_text (Busy t rec) = attempt_text rec ++ codes "\n"
rest_text (Idle t n) = (codes " idle " ++ decimal n) ++ codes "\n"
