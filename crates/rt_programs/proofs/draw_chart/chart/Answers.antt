use Rattle.rt_programs.proofs.Common.{◌≡◌, ℕ, List, sym, ap, subst, ◌∙◌, Task, object_value, task_set, set_tasks, legal, ends-written, SpellsSet, sizes_fit, own-state}
use Rattle.std.proofs.Common.{All}
use Rattle.rt_image.specs.ObjectFile.{IsObject}
use Rattle.rt_chart.specs.declared.style.Style.{Style}
use Rattle.rt_drawing.specs.declared.window.Window.{Window}
use Rattle.rt_chart.specs.ChartText.{chart_text}
use Rattle.rt_chart.specs.Standing.{chart_at}
use Rattle.rt_programs.specs.Charting.{ChartMeans}
use Rattle.rt_programs.proofs.ObjectLemmas.{objects_fit}
use Rattle.rt_programs.proofs.draw_chart.chart.Goals as goal

pub open_set-requires-clause-sizes : goal.open_set-requires-clause-sizes
open_set-requires-clause-sizes g c = sizes_fit c.in_ok-system.system.version c.in_ok-system.system.tasks.items c.in_ok-system.ensures.found.0.tasks_fit

pub new-requires-clause-spelled : goal.new-requires-clause-spelled
new-requires-clause-spelled g c =
    subst (λ (ts : List Task). All (λ (t : Task). IsObject (object_value t.object)) ts) (sym c.deref-3.ensures.value)
    (objects_fit c.in_ok-system.system.version c.in_ok-system.system.tasks.items c.in_ok-system.ensures.found.0.tasks_fit)

pub returns : goal.returns
returns g c = λ words excepted.
    let set = task_set c.in_ok-system.system in
    let w = c.args.window in
    let s = c.args.style in
    let x = c.args.except.now in
    let o = c.in_ok-opened.ensures in
    let machine = c.in_ok-opened.opened.machine in
    let made = c.in_ok-chart.ensures in
    let chart = c.in_ok-chart.chart in
    let first : chart ≡ chart_at w s x set 0 = made.stands set (ap set_tasks (sym c.deref-3.ensures.value)) in
    let start : machine.tick ≡ 0 = o.start in
    let shows : chart.window ≡ w = made.window in
    let looks : chart.style ≡ s = made.style in
    let begun : chart ≡ chart_at chart.window chart.style x set machine.tick = cc in
    let d = c.follow.new.listener in
    let after : d.chart ≡ chart_at d.chart.window d.chart.style d.except.now set w.to = c.in_ok-follow.ensures.told d set (own-state set 0 machine o.stands) begun in
    let kept : d.chart.window ≡ w = ap (λ (p : Window × Style × List ℕ). p.0) c.in_ok-follow.ensures.kept ∙ shows in
    let styled : d.chart.style ≡ s = ap (λ (p : Window × Style × List ℕ). p.1) c.in_ok-follow.ensures.kept ∙ looks in
    let same : d.except.now ≡ x = ap (λ (p : Window × Style × List ℕ). p.2) c.in_ok-follow.ensures.kept in
    let stands : d.chart ≡ chart_at d.chart.window d.chart.style d.except.now set d.chart.window.to = cc in
    let is : chart_text d.chart.window d.chart.style d.except.now set (legal set d.chart.window.to) ≡ chart_text w s x set (legal set w.to) = cc in
    let spells : SpellsSet c.args.bytes.now set = record { valid = c.in_ok-system.ensures.found.0; bytes = c.in_ok-system.ensures.found.1 } in
    ends-written g.S.Sink.seen (ChartMeans c.args.bytes.now c.args.admission w s words) c.args.out.now c.write_text.new.out (chart_text d.chart.window d.chart.style d.except.now set (legal set d.chart.window.to))
    c.write_text.result c.answer.result c.answer.ensures (set, spells, o.loads, x, excepted set spells, is) (c.write_text.ensures.legal d.except.now set stands)
