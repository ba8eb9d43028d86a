use Rattle.rt_trace.proofs.Common.{◌<◌, ◌-◌, List, ℕ, sym, subst, arith, IsTold}
use Rattle.std.proofs.Common.{min}
use Rattle.rt_core.specs.Advance.{Goes, IsDue}
use Rattle.rt_trace.proofs.EntryLemmas.{goes_on, told-more}
use Rattle.rt_trace.proofs.run.put_entry.Goals as goal

pub returns-in-Some-clause-told : goal.returns-in-Some-clause-told
returns-in-Some-clause-told g c = λ set t told.
    let n = c.args.n in
    let entry = c.in-Some.entry in
    let old = c.args.machine.now in
    let new = c.advance.new.self in
    let u = old.tick in
    let goes : Goes (min (n - u) (1099511627776 - u)) old entry new = rw c.now.ensures.value at c.in-Some.ensures.goes in
    let due : IsDue (min (n - u) (1099511627776 - u)) old entry new = rw c.now.ensures.value at c.in-Some.ensures.due in
    let less : u < n = omega (arith, goes.some, goes.within) in
    let on = goes_on set u n entry old new told.stands less c.requires.limit (told.cut less) goes due (c.in-Some.ensures.legal set u told.stands) in
    subst (λ (x : List ℕ). IsTold set n t x new) (sym c.put.ensures.text) (told-more set n t c.args.page.now.text entry old new told on)
