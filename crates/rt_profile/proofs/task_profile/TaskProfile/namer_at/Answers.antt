use Rattle.rt_profile.proofs.Common.{List, ap, ◌∙◌, Label, labels, namer, TaskCounts}
use Rattle.rt_names.proofs.ShortLemmas.{namer-short}
use Rattle.rt_profile.proofs.task_profile.TaskProfile.namer_at.Goals as goal

pub returns-clause-named : goal.returns-clause-named
returns-clause-named c =
    c.namer_at.ensures ∙ ap (λ (ls : List Label). namer ls c.args.address) c.self.invariant.places_are
    ∙ ap (λ (t : TaskCounts). namer t.labels c.args.address) c.self.view_is

pub returns-clause-short : goal.returns-clause-short
returns-clause-short c =
    let named = c.namer_at.ensures ∙ ap (λ (ls : List Label). namer ls c.args.address) c.self.invariant.places_are in
    namer-short (labels c.self.inside.symbols.now) c.args.address c.namer_at.result c.self.invariant.names named
