-- What the certificate of a task promises of its jobs in a set.
use Rattle.rt_certify.proofs.Common.{◌≡◌, ℕ, Some, Option, subst, arith, inl, inr, origin}
use Rattle.std.specs.Prelude.{slice_get, IfNone}
use Rattle.rt_image.specs.SystemFile.{SetTask, TaskSet}
use Rattle.rt_history.specs.Admitted.{IsAdmittedSet}
use Rattle.rt_laws.specs.Certified.{IsCertified}
use Rattle.rt_laws.specs.SeveralPeriods.{IsCertifiedIn}
use Rattle.rt_laws.proofs.Certificates.{certified_finished, certified_open}
use Rattle.rt_laws.proofs.Seen.{certified-weaker}
use Rattle.rt_laws.proofs.SeveralPeriods.{one_period}
use Rattle.rt_certify.specs.declared.certificate.Certificate.{Certificate}
use Rattle.rt_certify.specs.CertifiedSet.{HasCertificate, Counts, AreInTime}

counted : (s : SetTask) (c : Certificate) (n : ℕ) → HasCertificate s c → Counts c n → IsCertified (origin s) s.budget s.period s.start n
counted s c n (k, is) (inl fewer) =
    certified-weaker (origin s) s.budget s.period s.start c.jobs s.budget s.period s.start n (omega arith) (omega arith) (omega arith) fewer ((one_period (origin s) s.budget s.period s.start c.jobs).1 is.certified)
counted s c n (k, is) (inr ended) =
    let ever = subst (λ (next : Option ℕ). IfNone next ((periods q p n : ℕ) → IsCertifiedIn (origin s) periods q p s.start c.jobs → IsCertifiedIn (origin s) periods q p s.start n)) ended is.for_ever in
    (one_period (origin s) s.budget s.period s.start n).1 (ever 1 s.budget s.period n is.certified)

pub in_time : (set : TaskSet) (i : ℕ) (s : SetTask) (c : Certificate) (n : ℕ) → IsAdmittedSet set → slice_get set.tasks i ≡ Some s → HasCertificate s c → Counts c n → AreInTime set i s n
in_time set i s c n admitted there has counts t =
    let certified = counted s c n has counts in (certified_finished set t i n s admitted there certified, certified_open set t i n s admitted there certified)
