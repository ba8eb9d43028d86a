-- What the commands show that look at a task.
use Rattle.std.specs.Prelude.{ℕ, ◌==◌, if◌then◌else◌, List, [], ◌∷◌, ◌++◌, length, Option, Some, None, codes, decimal}
use Rattle.std.specs.List.{flat_map}
use Rattle.byteorder.specs.Endian.{little_number}
use Rattle.circular_buffer.specs.Buffer.{keep_last}
use Rattle.rt_words.specs.Hex.{hex}
use Rattle.rt_words.specs.Modular.{sum32}
use Rattle.rt_isa.specs.Print.{text}
use Rattle.rt_history.specs.declared.record.Entry.{Entry}
use Rattle.rt_core.specs.View.{TaskView}
use Rattle.rt_trace.specs.HistoryText.{line}
use Rattle.rt_trace.specs.OutLine.{bytes_text}
use Rattle.rt_trace.specs.RegsLine.{regs_text}
use Rattle.rt_trace.specs.TaskText.{mode_text}

-- `pc <pc>` and the regs line
abbrev pub regs_shown : TaskView → List ℕ
regs_shown v = codes "pc " ++ hex 8 v.state.pc ++ codes " " ++ regs_text v.state.x

-- ` pending <q>` where a budget is reserved that hasn't taken effect
abbrev pub pending_text : Option ℕ → List ℕ
pending_text None = []
pending_text (Some q) = codes " pending " ++ decimal q

-- ` c <c> d <d> q <q> p <p>`, and what is pending
abbrev pub account_shown : TaskView → List ℕ
account_shown v =
    codes " c " ++ decimal v.serving.account.c ++ codes " d " ++ decimal v.serving.account.d
    ++ codes " q " ++ decimal v.serving.account.q ++ codes " p " ++ decimal v.serving.account.p
    ++ pending_text v.serving.account.pending ++ codes "\n"

-- `task <i> <mode>` and its account
abbrev pub server_shown : ℕ → TaskView → List ℕ
server_shown i v = codes "task " ++ decimal i ++ codes " " ++ mode_text v.serving.mode ++ account_shown v

-- `mem <a>` and two digits for each byte
abbrev pub mem_shown : ℕ → List ℕ → List ℕ
mem_shown a bytes = codes "mem " ++ hex 8 a ++ codes " " ++ bytes_text bytes ++ codes "\n"

-- `<address> <word> <text>`
abbrev pub word_line : ℕ → ℕ → List ℕ
word_line a w = hex 8 a ++ codes " " ++ hex 8 w ++ codes " " ++ text a w ++ codes "\n"

-- the lines of the whole words of bytes, the first of them at address a
abbrev pub words_shown : ℕ → List ℕ → List ℕ
words_shown a (b0 ∷ b1 ∷ b2 ∷ b3 ∷ rest) = word_line a (little_number 4 (b0 ∷ b1 ∷ b2 ∷ b3 ∷ [])) ++ words_shown (sum32 a 4) rest
words_shown a _ = []

-- the lines of the last n entries, or of all that are kept
abbrev pub trace_shown : ℕ → List Entry → List ℕ
trace_shown n entries = if length entries == 0 then codes "empty\n" else flat_map line (keep_last n entries)
