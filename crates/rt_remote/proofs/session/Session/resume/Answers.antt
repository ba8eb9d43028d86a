use Rattle.rt_remote.proofs.Common.{◌≡◌, Bool, List, Option, sym, ap, subst, ◌∙◌, Action, RunsOn}
use Rattle.std.specs.List.{list_all}
use Rattle.rt_packet.specs.declared.request.ids.Tasks.{Tasks}
use Rattle.rt_packet.specs.request.Ids.{is_among}
use Rattle.rt_remote.specs.Chosen.{is_id, resumed_by}
use Rattle.rt_remote.proofs.RunLemmas.{done-so, refused-so}
use Rattle.rt_remote.proofs.session.Session.resume.Goals as goal

pub returns-then-not-are_among-clause-runs : goal.returns-then-not-are_among-clause-runs
returns-then-not-are_among-clause-runs g c = λ fresh.
    let all : c.are_among.result ≡ list_all (λ (part : Action × Tasks). is_id c.args.self.now part.1) c.args.resumed.now =
    c.are_among.ensures ∙ ap (λ (l : List Bool). list_all (λ (part : Action × Tasks). is_among l part.1) c.args.resumed.now) c.listing.ensures in
    refused-so (list_all (λ (part : Action × Tasks). is_id c.args.self.now part.1) c.args.resumed.now) c.args.self.now c.refusal.result
    (RunsOn c.args.self.now (resumed_by c.args.self.now c.args.resumed.now) (g.P.Pace.has_paused c.args.pace.now) c.refusal.result c.args.self.now)
    (sym all ∙ c.if-not-are_among.true) c.refusal.ensures

pub returns-clause-runs : goal.returns-clause-runs
returns-clause-runs g c = λ fresh.
    let all : c.are_among.result ≡ list_all (λ (part : Action × Tasks). is_id c.args.self.now part.1) c.args.resumed.now =
    c.are_among.ensures ∙ ap (λ (l : List Bool). list_all (λ (part : Action × Tasks). is_among l part.1) c.args.resumed.now) c.listing.ensures in
    let paused = g.P.Pace.has_paused c.run_on.new.pace in
    done-so (list_all (λ (part : Action × Tasks). is_id c.args.self.now part.1) c.args.resumed.now) c.args.self.now c.run_on.new.self c.run_on.result
    (RunsOn c.args.self.now (resumed_by c.args.self.now c.args.resumed.now) paused c.run_on.result c.run_on.new.self)
    (sym all ∙ c.if-not-are_among.false)
    (subst (λ (l : List (Option Action)). RunsOn c.args.self.now l paused c.run_on.result c.run_on.new.self) c.resumed_by-actions.ensures (c.run_on.ensures.runs fresh))
