-- An attempt by what it is to its job.
use Rattle.rt_certify.proofs.Common.{◌≡◌, ℕ, ◌*◌, ◌<◌, refl, ap, subst, AttemptOutcome, Next, End, Write, WriteRefused, Sleep, Yield, Now, Reserve, ReserveRefused, Fault, Program, Limits, Progress, IsTold}
use Rattle.rt_certify.specs.declared.certificate.Reason.{Reason}
use Rattle.rt_certify.specs.declared.certificate.Reason.TheVariants as reasons
use Rattle.rt_certify.specs.declared.trial.Step.{Step}
use Rattle.rt_certify.specs.declared.trial.Step.TheVariants.{Stays, Sleeps, Ends, Breaks}
use Rattle.rt_certify.specs.Refused as refused
use Rattle.rt_certify.specs.Working.Step.{IsStep}
use Rattle.rt_certify.proofs.Told.{quiet, asked}
use Rattle.rt_certify.proofs.Leading.{IsStay, job_in}

pub stays : (o : AttemptOutcome) (s : Step) → IsStep o s → s ≡ Stays → IsStay o
stays Next s is same = tt
stays (Write n) s is same = tt
stays WriteRefused s is same = tt
stays (Sleep w) s is same = absurd cc
stays End s is same = absurd cc
stays Yield s is same = absurd cc
stays (Now u) s is same = absurd cc
stays (Reserve q) s is same = absurd cc
stays ReserveRefused s is same = absurd cc
stays (Fault fault) s is same = absurd cc

pub sleeps : (o : AttemptOutcome) (s : Step) (t : ℕ) → IsStep o s → s ≡ Sleeps t → o ≡ Sleep t
sleeps Next s t is same = absurd cc
sleeps (Write n) s t is same = absurd cc
sleeps WriteRefused s t is same = absurd cc
sleeps (Sleep w) s t is same = let at : w ≡ t = cc in ap Sleep at
sleeps End s t is same = absurd cc
sleeps Yield s t is same = absurd cc
sleeps (Now u) s t is same = absurd cc
sleeps (Reserve q) s t is same = absurd cc
sleeps ReserveRefused s t is same = absurd cc
sleeps (Fault fault) s t is same = absurd cc

pub ends : (o : AttemptOutcome) (s : Step) → IsStep o s → s ≡ Ends → o ≡ End
ends Next s is same = absurd cc
ends (Write n) s is same = absurd cc
ends WriteRefused s is same = absurd cc
ends (Sleep w) s is same = absurd cc
ends End s is same = refl
ends Yield s is same = absurd cc
ends (Now u) s is same = absurd cc
ends (Reserve q) s is same = absurd cc
ends ReserveRefused s is same = absurd cc
ends (Fault fault) s is same = absurd cc

-- an attempt that breaks the limits by itself
pub breaks : (x y : Program) (p : Progress) (l : Limits) (o : AttemptOutcome) (s : Step) (r : Reason) → IsStep o s → s ≡ Breaks r
    → p.ticks < l.periods * l.budget → IsTold x o y → refused.Breaks l (job_in p x) r
breaks x y p l Next s r is same few told = absurd cc
breaks x y p l (Write n) s r is same few told = absurd cc
breaks x y p l WriteRefused s r is same few told = absurd cc
breaks x y p l (Sleep w) s r is same few told = absurd cc
breaks x y p l End s r is same few told = absurd cc
breaks x y p l Yield s r is same few told =
    let why : reasons.Yields ≡ r = cc in
    let heard = quiet x y Yield (λ answered. answered) told in
    subst (refused.Breaks l (job_in p x)) why (few, heard.0)
breaks x y p l (Now u) s r is same few told =
    let why : reasons.Asks ≡ r = cc in
    subst (refused.Breaks l (job_in p x)) why (few, asked x y (Now u) tt told)
breaks x y p l (Reserve n) s r is same few told =
    let why : reasons.Asks ≡ r = cc in
    subst (refused.Breaks l (job_in p x)) why (few, asked x y (Reserve n) tt told)
breaks x y p l ReserveRefused s r is same few told =
    let why : reasons.Asks ≡ r = cc in
    subst (refused.Breaks l (job_in p x)) why (few, asked x y ReserveRefused tt told)
breaks x y p l (Fault fault) s r is same few told =
    let why : reasons.Faults fault ≡ r = cc in
    let heard = quiet x y (Fault fault) (λ answered. answered) told in
    subst (refused.Breaks l (job_in p x)) why (few, heard.0)
