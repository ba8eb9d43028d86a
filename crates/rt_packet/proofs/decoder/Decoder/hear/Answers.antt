use Rattle.rt_packet.proofs.Common.{sym, ◌∙◌, ap}
use Rattle.rt_packet.specs.Working.Seen.{frame_of}
use Rattle.rt_packet.proofs.HearLemmas.{ended, grown}
use Rattle.rt_packet.proofs.decoder.Decoder.hear.Goals as goal

pub returns-in-Half-default : goal.returns-in-Half-default
returns-in-Half-default c =
    let d = c.self.inside in
    let seen = sym c.self.view_is ∙ ap (λ place. frame_of place (record { kept = d.kept.items; is_long = d.is_long; total = d.total })) c.in-Half-default.is-0 in
    ended c.args.self.now _ _ _ _ _ seen c.finish.ensures.frame c.finish.ensures.heard

pub returns-in-Within-default : goal.returns-in-Within-default
returns-in-Within-default c =
    let d = c.self.inside in
    let seen = sym c.self.view_is ∙ ap (λ place. frame_of place (record { kept = d.kept.items; is_long = d.is_long; total = d.total })) c.in-Within-default.is-0 in
    grown c.args.self.now _ _ _ seen c.in-Within-default.is-1.0.1 c.in-Within-default.is-1.1 c.keep.ensures
