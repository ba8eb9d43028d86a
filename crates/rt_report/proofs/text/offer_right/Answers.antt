use Rattle.rt_report.proofs.Common.{ℕ, List, ◌++◌, replicate, take, subst, ap, ◌∙◌}
use Rattle.rt_report.proofs.TextLemmas.{to_the_right, length-right}
use Rattle.rt_report.proofs.text.offer_right.Goals as goal

pub returns-clause-offers : goal.returns-clause-offers
returns-clause-offers g c =
    let both = g.met.O.Out.joined _ _ _ _ _ c.put.ensures c.put-2.ensures in
    let text = c.args.text.now in
    subst (λ (t : List ℕ). g.O.Out.offers c.args.out.now t c.put-2.new.self)
    (ap (λ (k : ℕ). take k (replicate 18 32) ++ text) c.saturating_sub.ensures ∙ to_the_right c.args.places text c.requires) both

pub returns-clause-size : goal.returns-clause-size
returns-clause-size g c = length-right c.args.places c.args.text.now
