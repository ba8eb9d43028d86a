use Rattle.rt_chart.proofs.Common.{◌≡◌, List, ℕ, ◌++◌, sym, ap, subst, ◌∙◌, Offers, Offers-then, mark_text, title_begin, titled_text}
use Rattle.std.proofs.lemmas.List.Concat.{flat_map-append}
use Rattle.rt_history.specs.Serving.{due}
use Rattle.rt_drawing.specs.Waits.{last_wait}
use Rattle.rt_drawing.specs.Standing.{next_turn}
use Rattle.rt_drawing.specs.Marks.{woken_marks}
use Rattle.rt_chart.specs.declared.mark_text.Bar.TheVariants.{Run, Wait}
use Rattle.rt_drawing.specs.Drawing.{in_window}
use Rattle.rt_chart.specs.MarkText.{stretch_text}
use Rattle.rt_chart.proofs.TitleLemmas.{titled-same}
use Rattle.rt_chart.proofs.row_text.offer_row.Goals as goal

pub returns-clause-offers : goal.returns-clause-offers
returns-clause-offers g c =
    let seen = g.S.Sink.seen in
    let l = c.args.scale.now.look in
    let w = l.window in
    let x = c.args.sketch.now in
    let text = mark_text l c.args.task in
    let wait_text = stretch_text l c.args.task c.args.sketch.now.name x.params.period Wait in
    let last = in_window w (woken_marks w.to x.serving) in
    let still = last_wait w (due w.to x.serving).mode (next_turn w.to x) in
    let name : c.as_slice-name.result.now ≡ x.name =
    c.as_slice-name.ensures.value ∙ c.push.ensures.text ∙ ap (λ (t : List ℕ). t ++ c.name.result.now) c.new-text.ensures ∙ c.name.ensures in
    let title : c.title_begin-title.result ≡ title_begin c.args.task x.name = c.title_begin-title.ensures ∙ ap (title_begin c.args.task) name in
    let of_waits : titled_text l c.args.task (title_begin c.args.task x.name) x.params.period Wait ≡ wait_text = λ j s. titled-same l c.args.task x.name x.params.period Wait s j in
    let of_runs : titled_text l c.args.task (title_begin c.args.task x.name) x.params.period Run ≡ stretch_text l c.args.task x.name x.params.period Run = λ j s. titled-same l c.args.task x.name x.params.period Run s j in
    let begin = rw (name, c.budget.ensures, c.period.ensures) at c.offer_to.ensures.offers in
    let waits = rw (title, c.period-period.ensures, c.waits.ensures, c.new-numbers.ensures, of_waits) at c.offer_stretches.ensures.offers in
    let waiting = rw (title, c.period-period.ensures, c.deref.ensures.0, c.last_wait-wait.ensures, c.offer_stretches.ensures.task, c.new-numbers.ensures, of_waits) at c.offer_stretches-2.ensures.offers in
    let stretches = rw (title, c.period-period.ensures, c.stretches.ensures, c.offer_stretches-2.ensures.task, c.offer_stretches.ensures.task, c.new-numbers.ensures, of_runs) at c.offer_stretches-3.ensures.offers in
    let marks = rw (c.marks.ensures, c.offer_stretches-3.ensures.task, c.offer_stretches-2.ensures.task, c.offer_stretches.ensures.task, c.new-numbers.ensures) at c.offer_marks.ensures.offers in
    let woken = rw (c.deref-2.ensures.0, c.last_marks-last.ensures, c.offer_marks.ensures.task, c.offer_stretches-3.ensures.task, c.offer_stretches-2.ensures.task, c.offer_stretches.ensures.task, c.new-numbers.ensures) at c.offer_marks-2.ensures.offers in
    let end = rw (c.last_mode.ensures, name, c.budget.ensures, c.period.ensures) at c.offer_end.ensures.offers in
    let all_waits = subst (λ (t : List ℕ). Offers seen c.offer_to.new.out.written c.offer_to.new.out.sink.now t c.offer_stretches-2.new.out.written c.offer_stretches-2.new.out.sink.now)
    (sym (flat_map-append wait_text x.waits still)) (Offers-then seen _ _ _ _ _ _ _ _ waits waiting) in
    let all = subst (λ (t : List ℕ). Offers seen c.put.new.self.written c.put.new.self.sink.now t c.offer_marks-2.new.out.written c.offer_marks-2.new.out.sink.now)
    (sym (flat_map-append text x.marks last)) (Offers-then seen _ _ _ _ _ _ _ _ marks woken) in
    let waited = Offers-then seen _ _ _ _ _ _ _ _ begin all_waits in
    let front = Offers-then seen _ _ _ _ _ _ _ _ waited stretches in
    let opened = Offers-then seen _ _ _ _ _ _ _ _ front c.put.ensures.offers in
    let marked = Offers-then seen _ _ _ _ _ _ _ _ opened all in
    let missed = rw c.shown_miss.ensures at c.offer_miss.ensures.offers in
    let body = Offers-then seen _ _ _ _ _ _ _ _ marked missed in
    Offers-then seen _ _ _ _ _ _ _ _ body end
