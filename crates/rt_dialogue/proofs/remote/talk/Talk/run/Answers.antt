use Rattle.rt_dialogue.proofs.Common.{ℕ, Bool, eqb, not, inl, inr, refl, subst, ap, ◌∙◌, rules, DialogueState, is_going}
use Rattle.rt_packet.specs.declared.request.request.Request.{Request}
use Rattle.rt_packet.specs.request.Requests.{request_of}
use Rattle.rt_packet.specs.Frame.{kept_of}
use Rattle.rt_remote.specs.Paced.{is_paced, asks}
use Rattle.rt_remote.specs.Executes.{Executes}
use Rattle.rt_dialogue.proofs.remote.WaitLemmas.{pauses_at_end, runs_to_end, fails_at_end, asked_none}
use Rattle.rt_dialogue.proofs.remote.talk.Talk.run.Goals as goal

pub returns-clause-executes : goal.returns-clause-executes
returns-clause-executes g c =
    let paused = pauses_at_end g.S.Sink.seen _ _ c.new-wire.ensures.left c.new-wire.ensures.beaten c.exec-answered.ensures.goes.2 in
    let did = c.exec-answered.ensures.executes (ap (λ (n : ℕ). eqb n 0) c.new-wire.ensures.left) in
    let did = subst (λ (b : Bool). Executes c.self.inside.session c.parse_request.result b c.exec-answered.result c.exec-answered.new.self) paused did in
    let did = subst (λ (r : Request). Executes c.self.inside.session r (not (is_going c.exec-answered.new.pace.beaten)) c.exec-answered.result c.exec-answered.new.self)
    (c.parse_request.ensures.exact ∙ ap request_of c.payload.ensures.value) did in
    subst (λ (d : DialogueState). Executes d.session (request_of (kept_of d.frame)) (not (is_going c.exec-answered.new.pace.beaten)) c.exec-answered.result c.exec-answered.new.self) c.self.view_is did

pub returns-clause-runs : goal.returns-clause-runs
returns-clause-runs g c = λ bytes text unread said.
    let request = c.parse_request.ensures.exact ∙ ap request_of c.payload.ensures.value ∙ ap (λ (d : DialogueState). request_of (kept_of d.frame)) c.self.view_is in
    let ran = runs_to_end g.S.Sink.seen _ _ c.new-wire.ensures.left c.new-wire.ensures.beaten c.exec-answered.ensures.goes.2 (asks c.args.self.now.session (request_of (kept_of c.args.self.now.frame)))
    (λ none. elim (asked_none c.args.self.now.session.has_interrupt (is_paced (request_of (kept_of c.args.self.now.frame))) none) [
      | inl held ↦ rw (c.exec-answered.ensures.held (ap (λ (d : DialogueState). d.session.has_interrupt) c.self.view_is ∙ held)) refl
      | inr paced ↦ rw (c.exec-answered.ensures.stays (ap is_paced request ∙ paced)) refl
    ]) bytes text in
    search rules

pub returns-clause-fails : goal.returns-clause-fails
returns-clause-fails g c =
    let fails = fails_at_end g.S.Sink.seen _ _ c.new-wire.ensures.left c.new-wire.ensures.beaten c.exec-answered.ensures.goes.2 in
    search rules
