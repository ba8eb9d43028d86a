use Rattle.rt_dialogue.proofs.Common.{ℕ, List, subst, sym, ap, ◌∙◌, err_from_is_err_and, HasSaid, SaysLess}
use Rattle.std.specs.Prelude.{option_copied}
use Rattle.rt_dialogue.specs.remote.Packets.{answer_packet}
use Rattle.rt_dialogue.proofs.remote.AskLemmas.{speaks_at}
use Rattle.rt_dialogue.proofs.remote.ConsoleLemmas.{fails_before}
use Rattle.rt_dialogue.proofs.remote.TookLemmas.{told_text, told_part}
use Rattle.rt_dialogue.proofs.remote.talk.Talk.tell.Goals as goal

pub returns-in_err-say_console-clause-says : goal.returns-in_err-say_console-clause-says
returns-in_err-say_console-clause-says g c = λ text said.
    speaks_at g.S.Sink.seen _ _ c.in_err-say_console.field-0.0 c.say_console.new.out (err_from_is_err_and c.from_residual.result c.from_residual.ensures.1)
    (subst (λ (l : List ℕ). SaysLess g.S.Sink.seen l c.in_err-say_console.field-0.0 c.say_console.new.out) (told_part text _ c.args.answered.now c.console.ensures)
    (fails_before g.S.Sink.seen _ (answer_packet c.args.answered.now.answer) c.in_err-say_console.field-0.0 c.say_console.new.out (c.in_err-say_console.ensures.says text said)))

pub returns-in_err-say-in-Some-clause-says : goal.returns-in_err-say-in-Some-clause-says
returns-in_err-say-in-Some-clause-says g c = λ text said.
    speaks_at g.S.Sink.seen _ _ c.in_err-say-in-Some.field-0.0 c.say.new.out (err_from_is_err_and c.from_residual-in_err-say-in-Some.result c.from_residual-in_err-say-in-Some.ensures.1)
    (subst (λ (l : List ℕ). SaysLess g.S.Sink.seen l c.in_err-say-in-Some.field-0.0 c.say.new.out)
    (told_text text _ _ _ c.args.answered.now c.console.ensures (c.bytes.ensures.value ∙ c.encode-packet.ensures) (sym (ap option_copied c.in-Some.is) ∙ c.answer.ensures.value))
    (c.in_err-say-in-Some.ensures.says _ (c.in_ok-say_console.ensures.says text said)))

pub returns-in_ok-say-in-Some-clause-says : goal.returns-in_ok-say-in-Some-clause-says
returns-in_ok-say-in-Some-clause-says g c = λ text said.
    subst (λ (l : List ℕ). HasSaid g.S.Sink.seen l c.say.new.out)
    (told_text text _ _ _ c.args.answered.now c.console.ensures (c.bytes.ensures.value ∙ c.encode-packet.ensures) (sym (ap option_copied c.in-Some.is) ∙ c.answer.ensures.value))
    (c.in_ok-say-in-Some.ensures.says _ (c.in_ok-say_console.ensures.says text said))
