use Rattle.rt_report.proofs.Common.{◌≡◌, ◌+◌, ◌<◌, List, length, slice_set, sym, ap, subst, ◌∙◌, arith, tick_limit, TaskReport, ReportState, tallied_at}
use Rattle.rt_report.proofs.SoundLemmas.{sound_more, tallied_at-is}
use Rattle.rt_report.proofs.report.Report.take_busy.Goals as goal

pub invariant_of-self : goal.invariant_of-self
invariant_of-self c =
    let xs = c.self.inside.tasks.items in
    let tick : c.self.inside.clock ≡ c.args.self.now.tick = ap (λ (r : ReportState). r.tick) c.self.view_is in
    let tasks : length xs ≡ length c.args.self.now.tasks = ap (λ (r : ReportState). length r.tasks) c.self.view_is in
    let below : c.args.task < length xs = omega (arith, c.requires.task) in
    let early : c.self.inside.clock < tick_limit = omega (arith, c.requires.limit) in
    rw c.take.ensures (sound_more c.self.inside.clock c.self.inside.idle c.args.task c.args.outcome xs c.index_mut.result.now c.self.invariant early below c.index_mut.ensures.value)

pub returns : goal.returns
returns c =
    let xs = c.self.inside.tasks.items in
    let t = c.self.inside.clock in
    let tasks : length xs ≡ length c.args.self.now.tasks = ap (λ (r : ReportState). length r.tasks) c.self.view_is in
    let below : c.args.task < length xs = omega (arith, c.requires.task) in
    let new : ReportState = record { tick = t + 1; idle = c.self.inside.idle; tasks = slice_set xs c.args.task c.take.new.self } in
    let P : ReportState → Type 0 = λ r. new ≡ record { tick = r.tick + 1; idle = r.idle; tasks = tallied_at r.tick c.args.outcome r.tasks c.args.task } in
    subst P c.self.view_is
    (ap (λ (ys : List TaskReport). record { tick = t + 1; idle = c.self.inside.idle; tasks = ys })
    (ap (slice_set xs c.args.task) c.take.ensures ∙ sym (tallied_at-is t c.args.task c.args.outcome xs c.index_mut.result.now below c.index_mut.ensures.value)))
