use Rattle.rt_dialogue.proofs.Common.{subst, DialogueState, Answers, Took}
use Rattle.rt_packet.specs.Frame.{Frame}
use Rattle.rt_packet.specs.declared.decoder.Heard.{Heard}
use Rattle.rt_dialogue.specs.remote.Dialogue.{Hears}
use Rattle.rt_dialogue.proofs.remote.talk.Talk.hear.Goals as goal

pub returns-clause-took : goal.returns-clause-took
returns-clause-took g c = λ bytes text unread said.
    let took = c.answer.ensures.took bytes text unread said in
    let took = subst (λ (h : Frame × Heard). Took g.S.Sink.seen (Answers (record { frame = h.0; last = c.self.inside.last; session = c.self.inside.session }) h.1) bytes text c.answer.result (g.I.Read.remaining c.answer.new.input) c.answer.new.out c.answer.new.self)
    c.hear-heard.ensures took in
    subst (λ (d : DialogueState). Took g.S.Sink.seen (Hears d c.args.byte) bytes text c.answer.result (g.I.Read.remaining c.answer.new.input) c.answer.new.out c.answer.new.self) c.self.view_is took
