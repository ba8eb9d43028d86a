use Rattle.rt_dialogue.proofs.Common.{ℕ, [], Option, Some, refl, sym, ap, subst, ◌∙◌, append-nil, err_from_is_err_and, IsNextByte, RepliesFrom}
use Rattle.rt_dialogue.proofs.ConversationLemmas.{responds_without_input}
use Rattle.rt_dialogue.proofs.remote.ReplyLemmas.{responds}
use Rattle.rt_dialogue.proofs.remote.serving.TalkResponder.respond.Goals as goal

pub returns-in_err-byte-clause-responds : goal.returns-in_err-byte-clause-responds
returns-in_err-byte-clause-responds g c = λ bytes text unread said.
    responds_without_input g.S.Sink.seen (RepliesFrom c.args.self.now bytes) text _ _ (RepliesFrom c.args.self.now) _ _ (err_from_is_err_and c.from_residual.result c.from_residual.ensures.1) c.in_err-byte.ensures.fault said
    ([], bytes, refl, (0, (refl, refl)))

pub returns-in-Some-clause-responds : goal.returns-in-Some-clause-responds
returns-in-Some-clause-responds g c = λ bytes text unread said.
    let next = subst (λ (b : Option ℕ). IsNextByte bytes b (g.I.Read.remaining c.next_byte.new.input)) c.in-Some.is (c.in_ok-byte.ensures.byte bytes unread) in
    responds g.S.Sink.seen c.args.self.now bytes text c.in-Some.byte _ next (g.I.Read.remaining c.hear.new.input) c.hear.new.out c.hear.new.self c.hear.result (c.hear.ensures.took next.0 text next.2 said)

pub returns-in-None-clause-responds : goal.returns-in-None-clause-responds
returns-in-None-clause-responds g c = λ bytes text unread said.
    let next = subst (λ (b : Option ℕ). IsNextByte bytes b (g.I.Read.remaining c.next_byte.new.input)) c.in-None.is (c.in_ok-byte.ensures.byte bytes unread) in
    ([], (0, (refl, next.0)), said.arrived ∙ ap Some (sym (append-nil text)))
