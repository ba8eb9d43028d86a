use Rattle.rt_report.proofs.Common.{◌≡◌, ◌+◌, ◌<◌, List, length, slice_set, sym, ap, subst, ◌∙◌, arith, TaskReport, ReportState, added_plain}
use Rattle.rt_report.proofs.SoundLemmas.{sound_at, sound_set}
use Rattle.rt_report.proofs.PlainLaws.{sound_for, plain_at-is, added_plain-none}
use Rattle.rt_report.proofs.report.Report.take_plain.Goals as goal

pub invariant_of-self : goal.invariant_of-self
invariant_of-self c =
    let xs = c.self.inside.tasks.items in
    let x = c.index_mut.result.now in
    let t = c.self.inside.clock in
    let tick : t ≡ c.args.self.now.tick = ap (λ (r : ReportState). r.tick) c.self.view_is in
    let tasks : length xs ≡ length c.args.self.now.tasks = ap (λ (r : ReportState). length r.tasks) c.self.view_is in
    let below : c.args.task < length xs = omega (arith, tasks, c.requires.task) in
    rw c.take_plain.ensures (sound_set t c.self.inside.idle c.args.n c.args.task xs _ c.self.invariant (omega (arith, tick, c.requires.limit))
    (sound_for t c.args.n x (sound_at t c.args.task xs x below c.index_mut.ensures.value c.self.invariant.tasks)))

pub returns-then-n-gt0 : goal.returns-then-n-gt0
returns-then-n-gt0 c =
    let xs = c.self.inside.tasks.items in
    let x = c.index_mut.result.now in
    let t = c.self.inside.clock in
    let tasks : length xs ≡ length c.args.self.now.tasks = ap (λ (r : ReportState). length r.tasks) c.self.view_is in
    let below : c.args.task < length xs = omega (arith, tasks, c.requires.task) in
    let new : ReportState = record { tick = t + c.args.n; idle = c.self.inside.idle; tasks = slice_set xs c.args.task c.take_plain.new.self } in
    subst (λ r. new ≡ added_plain c.args.task c.args.n r) c.self.view_is
    (ap (λ (ys : List TaskReport). record { tick = t + c.args.n; idle = c.self.inside.idle; tasks = ys })
    (ap (slice_set xs c.args.task) c.take_plain.ensures ∙ sym (plain_at-is t c.args.n c.args.task xs x below c.index_mut.ensures.value)))

pub returns-else-n-gt0 : goal.returns-else-n-gt0
returns-else-n-gt0 c =
    let none : c.args.n ≡ 0 = omega (arith, c.if-n-gt0.false) in
    rw none (added_plain-none c.args.task c.args.self.now)
