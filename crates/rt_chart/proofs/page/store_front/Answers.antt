use Rattle.rt_chart.proofs.Common.{◌≡◌, ℕ, List, ◌+◌, ◌++◌, length, take, length-take-le, take-take, ap, ◌∙◌, arith}
use Rattle.std.proofs.lemmas.Simd.{take_more_put_chunk}
use Rattle.rt_chart.proofs.PageLemmas.{take-stored}
use Rattle.rt_chart.proofs.page.store_front.Goals as goal

pub returns-clause-text : goal.returns-clause-text
returns-clause-text g c = λ count few.
    let text = c.args.text.now in
    let front = take g.row.N text in
    let long : length front ≡ g.row.N = length-take-le g.row.N text c.requires.long in
    let whole = take_more_put_chunk c.args.at c.args.bytes.now front (c.args.at + length front) (omega arith) (omega arith) in
    take-stored c.args.at count c.args.bytes.now front _ (omega arith) (omega arith) whole
    ∙ ap (λ (t : List ℕ). take c.args.at c.args.bytes.now ++ t) (take-take count g.row.N text few)
