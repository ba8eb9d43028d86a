-- What a line is answered: its text, and what follows it.
use Rattle.std.specs.Prelude.{ℕ, List, Result, Ok, Err}
use Rattle.rt_command.specs.declared.refusal.Refusal.{Refusal}
use Rattle.rt_debug.specs.declared.reply.reply.Reply.TheVariants.{Quit}
use Rattle.rt_debug.specs.reply.ReplyText.{reply_text, break_text, refusal_text}
use Rattle.rt_debug.specs.declared.line.Answer.{Answer}
use Rattle.rt_debug.specs.declared.line.Answer.TheVariants.{Reply, Added}
use Rattle.rt_debug.specs.declared.line.After.{After}
use Rattle.rt_debug.specs.declared.line.After.TheVariants.{NextLine, End}

abbrev pub answer_text : Result Answer Refusal → List ℕ
answer_text (Ok (Reply reply)) = reply_text reply
answer_text (Ok (Added k place)) = break_text k place.task place.pc
answer_text (Err refusal) = refusal_text refusal

-- the end after `quit`, else the next line
abbrev pub after_of : Result Answer Refusal → After
after_of (Ok (Reply Quit)) = End
after_of answer = NextLine
