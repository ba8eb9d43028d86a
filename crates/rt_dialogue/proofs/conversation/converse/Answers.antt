use Rattle.rt_dialogue.proofs.Common.{subst, Ok, Bool, err_from_is_err_and, Responds}
use Rattle.rt_dialogue.proofs.ConversationLemmas.{begins, goes_on, ends, fails, stops}
use Rattle.rt_dialogue.proofs.conversation.converse.Goals as goal

pub loop-init : goal.loop-init
loop-init g c = record {
  is_open = c.requires;
  went = λ bytes unread none. begins g.S.Sink.seen (g.R.Responder.replies c.args.responder.now) bytes _ _ c.requires unread none;
}

pub returns-in_err-respond-clause-session : goal.returns-in_err-respond-clause-session
returns-in_err-respond-clause-session g c = λ bytes unread none.
    let went = c.loop.invariant.went bytes unread none in
    fails g.S.Sink.seen _ _ _ (g.R.Responder.replies c.loop.responder) went _ _ (g.I.Read.remaining c.respond.new.input) c.respond.new.out (g.R.Responder.replies c.respond.new.self)
    (err_from_is_err_and c.from_residual.result c.from_residual.ensures.1) (c.in_err-respond.ensures.responds went.left went.more went.unread went.said)

pub returns-then-not-branch-clause-session : goal.returns-then-not-branch-clause-session
returns-then-not-branch-clause-session g c = λ bytes unread none.
    let went = c.loop.invariant.went bytes unread none in
    ends g.S.Sink.seen _ _ _ (g.R.Responder.replies c.loop.responder) went tt (g.I.Read.remaining c.respond.new.input) c.respond.new.out (g.R.Responder.replies c.respond.new.self)
    (subst (λ (goes : Bool). Responds g.S.Sink.seen (g.R.Responder.replies c.loop.responder went.left) went.more (Ok goes) (g.I.Read.remaining c.respond.new.input) c.respond.new.out (g.R.Responder.replies c.respond.new.self)) c.if-not-branch.true (c.in_ok-respond.ensures.responds went.left went.more went.unread went.said))

pub loop-preserved : goal.loop-preserved
loop-preserved g c = record {
  is_open = c.in_ok-respond.ensures.is_open c.if-not-branch.false;
  went = λ bytes unread none.
      let went = c.loop.invariant.went bytes unread none in
      goes_on g.S.Sink.seen _ _ _ (g.R.Responder.replies c.loop.responder) went _ _ (g.R.Responder.replies c.respond.new.self)
      (subst (λ (goes : Bool). Responds g.S.Sink.seen (g.R.Responder.replies c.loop.responder went.left) went.more (Ok goes) (g.I.Read.remaining c.respond.new.input) c.respond.new.out (g.R.Responder.replies c.respond.new.self)) c.if-not-branch.false (c.in_ok-respond.ensures.responds went.left went.more went.unread went.said));
}

pub returns-clause-session : goal.returns-clause-session
returns-clause-session g c = λ bytes unread none.
    let went = c.loop.invariant.went bytes unread none in
    stops g.S.Sink.seen _ _ _ (g.R.Responder.replies c.loop.responder) went (g.R.Responder.silent c.loop.responder went.left)
