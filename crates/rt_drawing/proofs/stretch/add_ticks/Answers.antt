use Rattle.rt_drawing.proofs.Common.{◌≡◌, ◌+◌, ◌-◌, List, [], ◌∷◌, ◌++◌, length, ap, sym, ◌∙◌, arith, Stretch, stretch}
use Rattle.std.proofs.Common.{set}
use Rattle.rt_drawing.specs.Drawn.{goes_on}
use Rattle.rt_drawing.proofs.StretchLaws.{ticks_behind-joins, ticks_behind-parts, ticks_behind-first}
use Rattle.rt_drawing.proofs.stretch.add_ticks.Goals as goal
use Rattle.rt_drawing.proofs.stretch.add_ticks.Goals.{then-count-gt0+else-goes_on, else-count-gt0}

pub returns-then-goes_on-clause-ok : goal.returns-then-goes_on-clause-ok
returns-then-goes_on-clause-ok c =
    let xs = c.args.stretches.now.items in
    let n = c.len-count.result - 1 in
    let z = c.index.result.now in
    let last : n + 1 ≡ length xs = omega (arith, c.len-count.ensures, c.args.stretches.now.ok, c.if-count-gt0.true) in
    ap (λ (s : Stretch). set xs n (stretch s.from c.args.to c.args.over c.args.job)) c.index.ensures
    ∙ ticks_behind-joins c.args.from c.args.to n c.args.over c.args.job xs z last
    (ap (λ (s : Stretch). goes_on s c.args.from c.args.over c.args.job.number) (sym c.index.ensures) ∙ sym c.goes_on.ensures ∙ c.if-goes_on.true)

pub returns-clause-ok : goal.returns-clause-ok
returns-clause-ok c =
    let xs = c.args.stretches.now.items in
    let n = c.len-count.result - 1 in
    let ok = c.args.stretches.now.ok in
    let pushed = c.push_reserved.ensures.items ∙ ap (λ (ys : List Stretch). ys ++ stretch c.args.from c.args.to c.args.over c.args.job ∷ []) c.in_ok-make_room.ensures.items in
    elim c.if-count-gt0.branch [
      | then-count-gt0+else-goes_on w ↦
          pushed
          ∙ ticks_behind-parts c.args.from c.args.to n c.args.over c.args.job xs w.index.result.now (omega (arith, c.len-count.ensures, ok, w.if-count-gt0.true))
          (ap (λ (s : Stretch). goes_on s c.args.from c.args.over c.args.job.number) (sym w.index.ensures) ∙ sym w.goes_on.ensures ∙ w.if-goes_on.false)
      | else-count-gt0 w ↦ pushed ∙ ticks_behind-first c.args.from c.args.to c.args.over c.args.job xs (omega (arith, c.len-count.ensures, ok, w.if-count-gt0.false))
    ]
