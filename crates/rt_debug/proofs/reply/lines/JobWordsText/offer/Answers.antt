use Rattle.std.proofs.Common.{sym, subst}
use Rattle.rt_debug.specs.reply.ReplyText.{job_suffix}
use Rattle.rt_debug.proofs.reply.lines.JobWordsText.offer.Goals as goal

pub returns-in-Some-clause-offers : goal.returns-in-Some-clause-offers
returns-in-Some-clause-offers g c =
    let front = subst (λ text. g.O.Out.offers c.args.out.now text c.offer.new.out) c.word.ensures c.offer.ensures.offers in
    subst (λ job. g.O.Out.offers c.args.out.now (job_suffix job) c.offer-in-Some.new.out) (sym c.in-Some.is)
    (g.met.O.Out.joined _ _ _ _ _ front c.offer-in-Some.ensures.offers)
