use Rattle.rt_drawing.proofs.Common.{◌≡◌, ◌+◌, ◌-◌, length, sym, ap, ◌∙◌, arith, IsBounded, Job, ticked, TaskDrawing, option_or, noted}
use Rattle.rt_history.proofs.ServingLaws.{IsBounded-spent_for}
use Rattle.rt_drawing.specs.Working.Shown.{plain_miss}
use Rattle.rt_drawing.proofs.PlainLaws.{at_once, drawn-at-once}
use Rattle.rt_drawing.proofs.sketch.Sketch.go_on.Goals as goal

pub returns-clause-ok : goal.returns-clause-ok
returns-clause-ok c =
    let w = c.args.window.now in
    let u = c.args.u in
    let n = c.args.n in
    let once = drawn-at-once w u n c.args.self.now c.requires.some c.requires.budget c.requires.active c.requires.alike c.requires.sound.behind in
    let budget : c.noted-budget.result ≡ noted w.from (u + n - 1) c.self.inside.budget c.self.inside.serving =
    c.noted-budget.ensures ∙ ap (λ (x : TaskDrawing). noted w.from (u + n - 1) x.budget x.serving) (sym c.self.view_is) in
    let missed : c.missed_in-miss.result ≡ option_or c.self.inside.miss (plain_miss c.self.inside.behind u n c.self.inside.serving.account) =
    c.missed_in-miss.ensures ∙ ap (λ (x : TaskDrawing). option_or x.miss (plain_miss x.behind u n x.serving.account)) (sym c.self.view_is) in
    let shown = c.self-2.view_is ∙ c.in_default.ensures.ok in
    let job : c.ticked-self-inside.result ≡ ticked n c.self.inside.job =
    c.ticked-self-inside.ensures ∙ ap (λ (x : TaskDrawing). ticked n x.job) shown in
    ap (λ (x : TaskDrawing). record x { serving = c.spend_for.new.self; budget = c.noted-budget.result; job = c.ticked-self-inside.result; behind = u + n; miss = c.missed_in-miss.result }) shown
    ∙ rw (
      budget,
      missed,
      job,
      c.keep_charge.ensures.marks,
      c.server-2.ensures,
      c.server.ensures,
      c.spend_for.ensures.serving,
      c.in_ok-make_room.ensures.items,
    ) (ap (at_once w u n) c.self.view_is ∙ sym once)

pub returns-clause-sound : goal.returns-clause-sound
returns-clause-sound c =
    let before : c.self.inside.serving ≡ c.args.self.now.serving = ap (λ (x : TaskDrawing). x.serving) c.self.view_is in
    let bounded : IsBounded c.args.u c.self.inside.serving.account = rw before c.requires.sound.account in
    let waits : length c.self.inside.waits.items ≡ length c.args.self.now.waits = ap (λ (x : TaskDrawing). length x.waits) c.self.view_is in
    let new_waits : length c.self-2.inside.waits.items ≡ length c.show.new.self.waits = ap (λ (x : TaskDrawing). length x.waits) c.self-2.view_is in
    let stretches : length c.self.inside.stretches.items ≡ length c.args.self.now.stretches = ap (λ (x : TaskDrawing). length x.stretches) c.self.view_is in
    let new_stretches : length c.self-2.inside.stretches.items ≡ length c.show.new.self.stretches = ap (λ (x : TaskDrawing). length x.stretches) c.self-2.view_is in
    let marks : length c.make_room.new.list.items ≡ length c.args.self.now.marks =
    ap length c.in_ok-make_room.ensures.items ∙ ap (λ (x : TaskDrawing). length x.marks) c.self.view_is in
    let new_marks : length c.self-2.inside.marks.items ≡ length c.keep_charge.new.marks.items =
    ap (λ (x : TaskDrawing). length x.marks) (c.self-2.view_is ∙ c.in_default.ensures.ok) in
    let job : c.ticked-self-inside.result ≡ ticked c.args.n c.args.self.now.job =
    c.ticked-self-inside.ensures ∙ ap (λ (x : TaskDrawing). ticked c.args.n x.job) (c.self-2.view_is ∙ c.in_default.ensures.ok) ∙ ap (λ (x : TaskDrawing). ticked c.args.n x.job) c.self.view_is in
    record {
      account = rw c.spend_for.ensures.serving (IsBounded-spent_for c.args.u c.args.n c.self.inside.serving.account bounded);
      behind = omega arith;
      number = omega (arith, ap (λ (j : Job). j.number) job, c.requires.sound.number);
      ticks = omega (arith, ap (λ (j : Job). j.ticks) job, c.requires.sound.ticks);
      waits = omega (arith, new_waits, c.in_default.ensures.waits, waits, c.requires.sound.waits, c.requires.some);
      stretches = omega (arith, new_stretches, c.in_default.ensures.stretches, stretches, c.requires.sound.stretches, c.requires.some);
      marks = omega (arith, new_marks, c.keep_charge.ensures.len, marks, c.requires.sound.marks, c.requires.some);
    }
