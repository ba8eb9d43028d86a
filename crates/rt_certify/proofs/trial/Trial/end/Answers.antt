use Rattle.rt_certify.proofs.Common.{◌≡◌, None, sym, ap, subst, ◌∙◌, arith, End, IsPlacedCertificate, Progress, progress}
use Rattle.rt_certify.specs.declared.certificate.PlacedCertificate.{PlacedCertificate}
use Rattle.rt_certify.specs.Working.Trying.{done}
use Rattle.rt_certify.proofs.Told.{quiet}
use Rattle.rt_certify.proofs.Results.{placed-ended}
use Rattle.rt_certify.proofs.trial.Trial.end.Goals as goal

-- what is told of finished jobs
abbrev told_of : Progress → PlacedCertificate
told_of p = record { certificate = record { jobs = p.jobs; longest = p.longest; distance = p.distance; next = None }; extremes = p.extremes }

pub returns-clause-is : goal.returns-clause-is
returns-clause-is c = λ o start k x y st told.
    let l = c.args.self.now.limits in
    let heard = quiet x y End (λ answered. answered) told in
    let same : c.certificate.result ≡ told_of (done (progress c.args.self.now)) = c.certificate.ensures ∙ ap told_of c.finish.ensures.done in
    subst (IsPlacedCertificate o start l k) (sym same)
    (placed-ended o start l k x (progress c.args.self.now) st heard.0 (omega arith))
