use Rattle.rt_dialogue.proofs.Common.{sym, ◌∙◌, err_from_is_err_and}
use Rattle.rt_dialogue.specs.remote.Dialogue.{Serves}
use Rattle.rt_dialogue.proofs.remote.TookLemmas.{took_at, took_nothing, ran_broke, ran_ended, ran_on, ran_told, ran_failing, states_join}
use Rattle.rt_dialogue.proofs.remote.talk.Talk.serve.Goals as goal

pub returns-in_err-say-clause-took : goal.returns-in_err-say-clause-took
returns-in_err-say-clause-took g c = λ bytes text unread said.
    took_at g.S.Sink.seen (Serves c.args.self.now) bytes text _ _ _ _ _ (err_from_is_err_and c.from_residual.result c.from_residual.ensures.1)
    (took_nothing g.S.Sink.seen (Serves c.args.self.now) bytes text (g.I.Read.remaining c.args.input.now) c.say.new.out c.args.self.now c.in_err-say.field-0.0 43 (c.in_err-say.ensures.says text said))

pub returns-in_err-beaten-clause-took : goal.returns-in_err-beaten-clause-took
returns-in_err-beaten-clause-took g c = λ bytes text unread said.
    took_at g.S.Sink.seen (Serves c.args.self.now) bytes text _ _ _ _ _ (err_from_is_err_and c.from_residual-in_err-beaten.result c.from_residual-in_err-beaten.ensures.1)
    (ran_broke c.args.self.now c.run-ran.result.answered c.run-ran.new.self.session g.S.Sink.seen bytes text _ _ _ _ c.args.self.now c.in_err-beaten.was
    (c.run-ran.ensures.runs bytes _ unread (c.in_ok-say.ensures.says text said)) c.run-ran.ensures.executes)

pub returns-then-is_ended-clause-took : goal.returns-then-is_ended-clause-took
returns-then-is_ended-clause-took g c = λ bytes text unread said.
    ran_ended c.args.self.now c.run-ran.result.answered c.run-ran.new.self.session g.S.Sink.seen bytes text _ _ _ _ c.args.self.now c.in_ok-beaten.was (sym c.is_ended.ensures ∙ c.if-is_ended.true)
    (c.run-ran.ensures.runs bytes _ unread (c.in_ok-say.ensures.says text said)) c.run-ran.ensures.executes

pub returns-in_err-goes-clause-took : goal.returns-in_err-goes-clause-took
returns-in_err-goes-clause-took g c = λ bytes text unread said.
    let went = c.run-ran.ensures.runs bytes _ unread (c.in_ok-say.ensures.says text said) in
    took_at g.S.Sink.seen (Serves c.args.self.now) bytes text _ _ _ _ _ (err_from_is_err_and c.from_residual-in_err-goes.result c.from_residual-in_err-goes.ensures.1)
    (ran_failing c.args.self.now c.run-ran.result.answered c.run-ran.new.self.session g.S.Sink.seen bytes text _ _ _ _ c.in_ok-beaten.was (sym c.is_ended.ensures ∙ c.if-is_ended.false)
    went c.run-ran.ensures.executes c.tell.new.out c.in_err-goes.field-0.0 c.args.self.now
    (c.in_err-goes.ensures.says _ (ran_on c.args.self.now c.run-ran.result.answered c.run-ran.new.self.session g.S.Sink.seen bytes text _ _ _ _ c.in_ok-beaten.was
    (sym c.is_ended.ensures ∙ c.if-is_ended.false) went c.run-ran.ensures.executes c.tell.new.out).came.1))

pub returns-clause-took : goal.returns-clause-took
returns-clause-took g c = λ bytes text unread said.
    let went = c.run-ran.ensures.runs bytes _ unread (c.in_ok-say.ensures.says text said) in
    ran_told c.args.self.now c.run-ran.result.answered c.run-ran.new.self.session g.S.Sink.seen bytes text _ _ _ _ c.in_ok-beaten.was (sym c.is_ended.ensures ∙ c.if-is_ended.false)
    went c.run-ran.ensures.executes _ _ _ c.in_ok-goes.ensures.goes (states_join c.args.self.now c.run-ran.new.self c.go_behind.new.self _ _ _ c.run-ran.ensures.same c.go_behind.ensures c.in_ok-goes.ensures.sent)
    (c.in_ok-goes.ensures.says _ (ran_on c.args.self.now c.run-ran.result.answered c.run-ran.new.self.session g.S.Sink.seen bytes text _ _ _ _ c.in_ok-beaten.was
    (sym c.is_ended.ensures ∙ c.if-is_ended.false) went c.run-ran.ensures.executes c.tell.new.out).came.1)
