use Rattle.rt_effects.proofs.Common.{◌<◌, ◌-◌, arith}
use Rattle.std.proofs.Common.{min}
use Rattle.rt_core.specs.Advance.{Goes, IsDue}
use Rattle.rt_effects.proofs.WindowLemmas.{grows, ends-here, told-more}
use Rattle.rt_effects.proofs.window.put_next.Goals as goal

pub returns-in-Some-clause-told : goal.returns-in-Some-clause-told
returns-in-Some-clause-told g c = λ set from t words begun told.
    let n = c.args.n in
    let e = c.in-Some.entry in
    let old = c.args.machine.now in
    let new = c.advance.new.self in
    let u = old.tick in
    let goes : Goes (min (n - u) (1099511627776 - u)) old e new = rw c.now.ensures.value at c.in-Some.ensures.goes in
    let due : IsDue (min (n - u) (1099511627776 - u)) old e new = rw c.now.ensures.value at c.in-Some.ensures.due in
    let less : u < n = c.requires.before in
    let follows = c.in-Some.ensures.legal set u told.stands in
    let on = grows set c.args.asked from u n e old new begun told.stands less c.requires.limit (told.cut less) goes due follows in
    let ends = ends-here set u (min (n - u) (1099511627776 - u)) e old new c.copy_named.new.x told.stands (omega (arith, less, c.requires.limit)) goes due c.in-Some.ensures.task follows c.copy_named.ensures in
    told-more set c.args.asked from u n t e c.args.page.now c.put_entry.new.page old new told on (c.put_entry.ensures.text set words ends)
