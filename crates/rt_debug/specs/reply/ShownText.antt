-- The text of what is lent to be shown.
use Rattle.std.specs.Prelude.{ℕ, List, []}
use Rattle.rt_core.specs.View.{lent}
use Rattle.rt_trace.specs.OutLine.{out_text}
use Rattle.rt_debug.specs.reply.Shown.{regs_shown, server_shown, mem_shown, words_shown, trace_shown}
use Rattle.rt_debug.specs.declared.reply.showing.Shown.{Shown}
use Rattle.rt_debug.specs.declared.reply.showing.Shown.TheVariants.{Regs, Server, Mem, Words, Out, Trace}

-- by what the command shows
abbrev pub shown_text : Shown → List ℕ
shown_text (Regs view) = regs_shown (lent view)
shown_text (Server task view) = server_shown task (lent view)
shown_text (Mem address bytes) = mem_shown address bytes.now
shown_text (Words address bytes) = words_shown address bytes.now
shown_text (Out bytes) = out_text bytes.now
shown_text (Trace ring count) = trace_shown count ring.now.items

-- the bytes of RAM or output that are lent
abbrev pub bytes_lent : Shown → List ℕ
bytes_lent (Mem address bytes) = bytes.now
bytes_lent (Words address bytes) = bytes.now
bytes_lent (Out bytes) = bytes.now
bytes_lent shown = []
