use Rattle.rt_profile.proofs.Common.{◌≡◌, ℕ, List, Bool, ◌++◌, length, length-append, ap, subst, ◌∙◌, arith, part, namer, begins, kept_at}
use Rattle.rt_profile.specs.CallgrindText.{name_line, cost_line}
use Rattle.rt_profile.proofs.callgrind.offer_address.Goals as goal

pub returns-clause-offers : goal.returns-clause-offers
returns-clause-offers g c =
    let first = c.begins.ensures ∙ ap (begins c.args.before) c.part_at-part.ensures.value in
    let named = rw first at c.offer_name.ensures.offers in
    let cost = rw c.ticks_at-ticks.ensures at c.offer.ensures.offers in
    g.met.O.Out.joined _ _ _ _ _ named cost

pub returns-clause-short : goal.returns-clause-short
returns-clause-short g c =
    let x = c.args.task.now in
    let a = c.args.address in
    let first = c.begins.ensures ∙ ap (begins c.args.before) c.part_at-part.ensures.value in
    let named = rw first at c.offer_name.ensures.short in
    let cost = rw c.ticks_at-ticks.ensures at c.offer.ensures.short in
    omega (arith, length-append (name_line (begins c.args.before (part x.labels a)) (namer x.labels a)) (cost_line a (kept_at x a)), named, cost)
