use Rattle.rt_dialogue.proofs.Common.{◌++◌, true, Some, Ok, [], ℕ, List, subst, sym, ap, refl, append-nil, err_from_is_err_and, packet_of, DialogueState, Answers, HasSaid}
use Rattle.std.specs.Prelude.{codes}
use Rattle.rt_packet.specs.declared.decoder.Heard.TheVariants.{Nothing, Again, Wrong, TooLong, Interrupt}
use Rattle.rt_dialogue.specs.remote.Packets.{again}
use Rattle.rt_dialogue.specs.remote.Dialogue.{says}
use Rattle.rt_dialogue.proofs.remote.TookLemmas.{answers_as, took_said, took_failing, took_at}
use Rattle.rt_dialogue.proofs.remote.talk.Talk.answer.Goals as goal

pub returns-in_err-say_again-in-Again-clause-took : goal.returns-in_err-say_again-in-Again-clause-took
returns-in_err-say_again-in-Again-clause-took g c = λ bytes text unread said. answers_as g.S.Sink.seen c.args.self.now bytes text _ _ _ _ _ _ c.in-Again.is (
    took_at g.S.Sink.seen (Answers c.args.self.now Again) bytes text _ _ _ _ _ (err_from_is_err_and c.from_residual.result c.from_residual.ensures.1)
    (took_failing g.S.Sink.seen (Answers c.args.self.now Again) bytes text (g.I.Read.remaining c.args.input.now) c.args.self.now (again c.args.self.now.last) c.say_again.new.out c.in_err-say_again-in-Again.field-0.0 c.args.self.now (c.in_err-say_again-in-Again.ensures.says text said) refl))

pub returns-in_err-say-in-Wrong-clause-took : goal.returns-in_err-say-in-Wrong-clause-took
returns-in_err-say-in-Wrong-clause-took g c = λ bytes text unread said. answers_as g.S.Sink.seen c.args.self.now bytes text _ _ _ _ _ _ c.in-Wrong.is (
    took_at g.S.Sink.seen (Answers c.args.self.now Wrong) bytes text _ _ _ _ _ (err_from_is_err_and c.from_residual-in_err-say-in-Wrong.result c.from_residual-in_err-say-in-Wrong.ensures.1)
    (took_failing g.S.Sink.seen (Answers c.args.self.now Wrong) bytes text (g.I.Read.remaining c.args.input.now) c.args.self.now (codes "-") c.say.new.out c.in_err-say-in-Wrong.field-0.0 c.args.self.now (c.in_err-say-in-Wrong.ensures.says text said) refl))

pub returns-in_err-refuse_long-in-TooLong-clause-took : goal.returns-in_err-refuse_long-in-TooLong-clause-took
returns-in_err-refuse_long-in-TooLong-clause-took g c = λ bytes text unread said. answers_as g.S.Sink.seen c.args.self.now bytes text _ _ _ _ _ _ c.in-TooLong.is (
    took_at g.S.Sink.seen (Answers c.args.self.now TooLong) bytes text _ _ _ _ _ (err_from_is_err_and c.from_residual-in_err-refuse_long-in-TooLong.result c.from_residual-in_err-refuse_long-in-TooLong.ensures.1)
    (took_failing g.S.Sink.seen (Answers c.args.self.now TooLong) bytes text (g.I.Read.remaining c.args.input.now) c.args.self.now (codes "+" ++ packet_of []) c.refuse_long.new.out c.in_err-refuse_long-in-TooLong.field-0.0 (record c.args.self.now { last = Some (packet_of []) }) (c.in_err-refuse_long-in-TooLong.ensures.says text said) refl))

pub returns-in-Nothing-clause-took : goal.returns-in-Nothing-clause-took
returns-in-Nothing-clause-took g c = λ bytes text unread said. answers_as g.S.Sink.seen c.args.self.now bytes text (Ok true) (g.I.Read.remaining c.args.input.now) c.args.out.now c.args.self.now _ _ c.in-Nothing.is (
    took_said g.S.Sink.seen (Answers c.args.self.now Nothing) bytes text (g.I.Read.remaining c.args.input.now) c.args.self.now [] c.args.out.now unread (subst (λ (l : List ℕ). HasSaid g.S.Sink.seen l c.args.out.now) (sym (append-nil text)) said) (λ tail. refl))

pub returns-in-Interrupt-clause-took : goal.returns-in-Interrupt-clause-took
returns-in-Interrupt-clause-took g c = λ bytes text unread said. answers_as g.S.Sink.seen c.args.self.now bytes text (Ok true) (g.I.Read.remaining c.args.input.now) c.args.out.now c.interrupt.new.self _ _ c.in-Interrupt.is (
    took_said g.S.Sink.seen (Answers c.args.self.now Interrupt) bytes text (g.I.Read.remaining c.args.input.now) c.interrupt.new.self [] c.args.out.now unread (subst (λ (l : List ℕ). HasSaid g.S.Sink.seen l c.args.out.now) (sym (append-nil text)) said)
    (λ tail. ap (λ (s : DialogueState). says [] tail s) c.interrupt.ensures))

pub returns-in_ok-say_again-in-Again-clause-took : goal.returns-in_ok-say_again-in-Again-clause-took
returns-in_ok-say_again-in-Again-clause-took g c = λ bytes text unread said. answers_as g.S.Sink.seen c.args.self.now bytes text (Ok true) (g.I.Read.remaining c.args.input.now) c.say_again.new.out c.args.self.now _ _ c.in-Again.is (
    took_said g.S.Sink.seen (Answers c.args.self.now Again) bytes text (g.I.Read.remaining c.args.input.now) c.args.self.now (again c.args.self.now.last) c.say_again.new.out unread (c.in_ok-say_again-in-Again.ensures.says text said) (λ tail. refl))

pub returns-in_ok-say-in-Wrong-clause-took : goal.returns-in_ok-say-in-Wrong-clause-took
returns-in_ok-say-in-Wrong-clause-took g c = λ bytes text unread said. answers_as g.S.Sink.seen c.args.self.now bytes text (Ok true) (g.I.Read.remaining c.args.input.now) c.say.new.out c.args.self.now _ _ c.in-Wrong.is (
    took_said g.S.Sink.seen (Answers c.args.self.now Wrong) bytes text (g.I.Read.remaining c.args.input.now) c.args.self.now (codes "-") c.say.new.out unread (c.in_ok-say-in-Wrong.ensures.says text said) (λ tail. refl))

pub returns-in_ok-refuse_long-in-TooLong-clause-took : goal.returns-in_ok-refuse_long-in-TooLong-clause-took
returns-in_ok-refuse_long-in-TooLong-clause-took g c = λ bytes text unread said. answers_as g.S.Sink.seen c.args.self.now bytes text (Ok true) (g.I.Read.remaining c.args.input.now) c.refuse_long.new.out c.refuse_long.new.self _ _ c.in-TooLong.is (
    took_said g.S.Sink.seen (Answers c.args.self.now TooLong) bytes text (g.I.Read.remaining c.args.input.now) c.refuse_long.new.self (codes "+" ++ packet_of []) c.refuse_long.new.out unread (c.in_ok-refuse_long-in-TooLong.ensures.says text said)
    (λ tail. ap (λ (s : DialogueState). says (codes "+" ++ packet_of []) tail s) c.in_ok-refuse_long-in-TooLong.ensures.sent))

pub returns-in-Right-clause-took : goal.returns-in-Right-clause-took
returns-in-Right-clause-took g c = λ bytes text unread said. answers_as g.S.Sink.seen c.args.self.now bytes text _ _ _ _ _ _ c.in-Right.is (
    c.serve.ensures.took bytes text unread said)
