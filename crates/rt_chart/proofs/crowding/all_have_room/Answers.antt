use Rattle.rt_chart.proofs.Common.{◌≡◌, false, get_or, ap, sym, ◌∙◌, list_all, take_all}
use Rattle.std.proofs.lemmas.List.Folds.{list_all_at}
use Rattle.rt_chart.proofs.CrowdLemmas.{row_has_room, rows-room}
use Rattle.rt_chart.proofs.crowding.all_have_room.Goals as goal

pub returns-then-not-has_room : goal.returns-then-not-has_room
returns-then-not-has_room c =
    let w = c.args.window.now in
    let xs = c.args.sketches.now in
    let x = c.sketch-item.result in
    let i = c.loop-sketch.sketch-index in
    let crowded : row_has_room w c.args.width (get_or xs i x) ≡ false =
    ap (row_has_room w c.args.width) (sym c.sketch-item.is) ∙ sym c.has_room.ensures ∙ c.if-not-has_room.true in
    sym (rows-room w c.args.width xs ∙ list_all_at (row_has_room w c.args.width) xs i x c.loop-sketch-test.true crowded)

pub returns : goal.returns
returns c =
    let w = c.args.window.now in
    let xs = c.args.sketches.now in
    let all = take_all c.loop-sketch.sketch-index xs c.loop-sketch-test.false in
    sym (rows-room w c.args.width xs ∙ ap (list_all (row_has_room w c.args.width)) (sym all) ∙ c.loop-sketch.invariant)
