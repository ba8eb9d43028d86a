-- What is told of a program where its trial ends.
use Rattle.rt_certify.proofs.Common.{◌≡◌, ℕ, zero, suc, ◌+◌, ◌*◌, ◌<◌, ◌≤◌, [], Some, None, sym, ap, subst, ◌∙◌, arith, Program, Origin, attempted, outcome_of, GoesOn, Limits, IsCertificate, IsPlacedCertificate, Progress, Stands}
use Rattle.std.proofs.Common.{◌↔◌, max}
use Rattle.std.proofs.Math.Nat.{mul-le-mul_right}
use Rattle.rt_history.specs.declared.record.AttemptOutcome.TheVariants as outcomes
use Rattle.rt_laws.specs.Certified.{IsCertified}
use Rattle.rt_laws.specs.SeveralPeriods.{MaySleep, KeepsIn, IsCertifiedIn}
use Rattle.rt_laws.proofs.SeveralPeriods.{one_period}
use Rattle.rt_certify.specs.declared.certificate.Reason.{Reason}
use Rattle.rt_certify.specs.declared.certificate.Reason.TheVariants.{OverBudget, Yields, Asks, Faults, TooSoon}
use Rattle.rt_certify.specs.Opened.{Opened}
use Rattle.rt_certify.specs.Certified.{IsUpTo}
use Rattle.rt_certify.specs.Refused.{Breaks, IsRefused}
use Rattle.rt_certify.proofs.Told.{asks-stops}
use Rattle.rt_certify.specs.Working.Trying.{done}
use Rattle.rt_certify.proofs.Leading.{job_in, ended-extremes}
use Rattle.rt_certify.proofs.Steps.{fewer}

-- certificates are those for one period
of-one : (o : Origin) (q d start n : ℕ) (A : Type 0) → IsCertifiedIn o 1 q d start n ↔ A → IsCertified o q d start n ↔ A
of-one o q d start n A is = (λ certified. is.0 ((one_period o q d start n).0 certified), λ a. (one_period o q d start n).1 (is.1 a))

-- ---- while a job is open

certificate-open : (o : Origin) (start : ℕ) (l : Limits) (k : ℕ) (x : Program) (p : Progress) → Stands o start l k x p
    → IsCertificate o start l k (record { jobs = p.jobs; longest = p.longest; distance = p.distance; next = Some p.release })
certificate-open o start l k x p st =
    record {
      certified = st.certified;
      exact = λ q d. of-one o q d start p.jobs ((p.longest ≤ q) × IsUpTo p.distance d) (st.exact q d);
      kept = st.kept;
      next = (ap (λ (a : Opened). a.number) st.opened, ap (λ (a : Opened). a.release) st.opened);
      ended = tt;
      for_ever = tt;
    }

pub placed-open : (o : Origin) (start : ℕ) (l : Limits) (k : ℕ) (x : Program) (p : Progress) → Stands o start l k x p
    → IsPlacedCertificate o start l k
    (record { certificate = record { jobs = p.jobs; longest = p.longest; distance = p.distance; next = Some p.release }; extremes = p.extremes })
placed-open o start l k x p st = (certificate-open o start l k x p st, st.extremes)

-- ---- where the program ends

-- so it is certified for any number of jobs more
ended-forward : (o : Origin) (start : ℕ) (l : Limits) (k : ℕ) (x : Program) (p : Progress) → Stands o start l k x p → outcome_of x ≡ outcomes.End
    → (periods q d n : ℕ) → IsCertifiedIn o periods q d start p.jobs → p.ticks + 1 ≤ periods * q → IsCertifiedIn o periods q d start (p.jobs + suc n)
ended-forward o start l k x p st same periods q d n certified few =
    st.forward periods q d (suc zero) (suc n) certified (
      few,
      subst (GoesOn (KeepsIn periods q d zero (suc n) p.release (p.ticks + 1) (attempted [] x))
          (λ w. MaySleep q d p.release (p.ticks + 1) w × KeepsIn periods q d zero n w 0 (attempted [] x))) (sym same) tt,
    )

keeps-one : (x : Program) (periods q d n r m j : ℕ) → KeepsIn periods q d j (suc n) r m x → m + 1 ≤ periods * q
keeps-one x periods q d n r m zero keeps = absurd keeps
keeps-one x periods q d n r m (suc j) keeps = keeps.0

-- and for no budget besides
ended-least : (o : Origin) (start : ℕ) (l : Limits) (k : ℕ) (x : Program) (p : Progress) → Stands o start l k x p
    → (periods q d : ℕ) → IsCertifiedIn o periods q d start (p.jobs + 1) → IsCertifiedIn o periods q d start p.jobs × (p.ticks + 1 ≤ periods * q)
ended-least o start l k x p st periods q d certified =
    let one : p.jobs + 1 ≡ p.jobs + suc zero = omega arith in
    let last = st.backward periods q d zero (subst (IsCertifiedIn o periods q d start) one certified) in
    (fewer o periods q d start p.jobs (p.jobs + 1) (omega arith) certified, keeps-one x periods q d zero p.release p.ticks last.0 last.1)

exact-ended : (o : Origin) (start : ℕ) (l : Limits) (k : ℕ) (x : Program) (p : Progress) → Stands o start l k x p → outcome_of x ≡ outcomes.End
    → (q d : ℕ) → IsCertifiedIn o 1 q d start (p.jobs + 1) ↔ ((max p.longest (p.ticks + 1) ≤ q) × IsUpTo p.distance d)
exact-ended o start l k x p st same q d = (
  λ certified.
      let was = ended-least o start l k x p st 1 q d certified in
      let before = (st.exact q d).0 was.0 in
      (omega (arith, before.0, was.1), before.1),
  λ both.
      let one : p.jobs + suc zero ≡ p.jobs + 1 = omega arith in
      subst (IsCertifiedIn o 1 q d start) one
      (ended-forward o start l k x p st same 1 q d zero ((st.exact q d).1 (omega (arith, both.0), both.1)) (omega (arith, both.0))),
)

certificate-ended : (o : Origin) (start : ℕ) (l : Limits) (k : ℕ) (x : Program) (p : Progress) → Stands o start l k x p → outcome_of x ≡ outcomes.End
    → p.ticks + 1 ≤ l.periods * l.budget
    → IsCertificate o start l k (record { jobs = p.jobs + 1; longest = max p.longest (p.ticks + 1); distance = p.distance; next = None })
certificate-ended o start l k x p st same few =
    let one : p.jobs + suc zero ≡ p.jobs + 1 = omega arith in
    record {
      certified = subst (IsCertifiedIn o l.periods l.budget l.period start) one
          (ended-forward o start l k x p st same l.periods l.budget l.period zero st.certified few);
      exact = λ q d.
          of-one o q d start (p.jobs + 1) ((max p.longest (p.ticks + 1) ≤ q) × IsUpTo p.distance d) (exact-ended o start l k x p st same q d);
      kept = st.kept;
      next = tt;
      ended = (ap (λ (a : Opened). a.number + 1) st.opened, ap (λ (a : Opened). outcome_of a.program) st.opened ∙ same);
      for_ever = λ periods q d n certified.
          let was = ended-least o start l k x p st periods q d certified in
          fewer o periods q d start n (p.jobs + suc n) (omega arith) (ended-forward o start l k x p st same periods q d n was.0 was.1);
    }

pub placed-ended : (o : Origin) (start : ℕ) (l : Limits) (k : ℕ) (x : Program) (p : Progress) → Stands o start l k x p → outcome_of x ≡ outcomes.End
    → p.ticks + 1 ≤ l.periods * l.budget
    → IsPlacedCertificate o start l k
    (record { certificate = record { jobs = p.jobs + 1; longest = max p.longest (p.ticks + 1); distance = p.distance; next = None }; extremes = (done p).extremes })
placed-ended o start l k x p st same few = (certificate-ended o start l k x p st same few, ended-extremes o start k x p st.opened same st.extremes)

-- ---- where an attempt is wrong

-- a job can't sleep until less periods after its release than it takes budgets
too-soon : (q d r m w k : ℕ) → ((j : ℕ) → m ≤ j * q → k ≤ j) → w < r + k * d → MaySleep q d r m w → ⊥
too-soon q d r m w k least soon far =
    let periods : k * d ≤ far.0 * d = mul-le-mul_right d (least far.0 far.1) in
    omega (arith, periods, soon, far.2)

breaks-stops : (l : Limits) (x : Program) (r m j number : ℕ) (reason : Reason) → Breaks l (record { number = number; release = r; ticks = m; program = x }) reason
    → KeepsIn l.periods l.budget l.period j 1 r m x → ⊥
breaks-stops l x r m zero number reason breaks keeps = keeps
breaks-stops l x r m (suc j) number (OverBudget release ticks) breaks keeps = omega (arith, breaks.0, keeps.0)
breaks-stops l x r m (suc j) number Yields breaks keeps =
    subst (GoesOn (KeepsIn l.periods l.budget l.period j 1 r (m + 1) (attempted [] x))
    (λ w. MaySleep l.budget l.period r (m + 1) w × KeepsIn l.periods l.budget l.period j 0 w 0 (attempted [] x))) breaks.1 keeps.1
breaks-stops l x r m (suc j) number Asks breaks keeps =
    asks-stops (KeepsIn l.periods l.budget l.period j 1 r (m + 1) (attempted [] x))
    (λ w. MaySleep l.budget l.period r (m + 1) w × KeepsIn l.periods l.budget l.period j 0 w 0 (attempted [] x)) x breaks.1 keeps.1
breaks-stops l x r m (suc j) number (Faults fault) breaks keeps =
    subst (GoesOn (KeepsIn l.periods l.budget l.period j 1 r (m + 1) (attempted [] x))
    (λ w. MaySleep l.budget l.period r (m + 1) w × KeepsIn l.periods l.budget l.period j 0 w 0 (attempted [] x))) breaks.1 keeps.1
breaks-stops l x r m (suc j) number (TooSoon release sleep periods) breaks keeps =
    let goes : MaySleep l.budget l.period r (m + 1) sleep × KeepsIn l.periods l.budget l.period j 0 sleep 0 (attempted [] x) =
    subst (GoesOn (KeepsIn l.periods l.budget l.period j 1 r (m + 1) (attempted [] x))
    (λ w. MaySleep l.budget l.period r (m + 1) w × KeepsIn l.periods l.budget l.period j 0 w 0 (attempted [] x))) breaks.2 keeps.1 in
    let soon = breaks.3 in
    too-soon l.budget l.period r (m + 1) sleep soon.0 soon.1.1 soon.2 goes.0

pub refused-by : (o : Origin) (start : ℕ) (l : Limits) (k : ℕ) (x : Program) (p : Progress) (pc : ℕ) (reason : Reason) → Stands o start l k x p → x.state.pc ≡ pc
    → Breaks l (job_in p x) reason → IsRefused o start l k (record { job = p.jobs; pc = pc; reason = reason })
refused-by o start l k x p pc reason st at breaks =
    let one : p.jobs + 1 ≡ p.jobs + suc zero = omega arith in
    record {
      before = st.certified;
      not = λ certified.
          let last = st.backward l.periods l.budget l.period zero (subst (IsCertifiedIn o l.periods l.budget l.period start) one certified) in
          breaks-stops l x p.release p.ticks last.0 p.jobs reason breaks last.1;
      kept = st.kept;
      job = ap (λ (a : Opened). a.number) st.opened;
      pc = ap (λ (a : Opened). a.program.state.pc) st.opened ∙ at;
      breaks = subst (λ a. Breaks l a reason) (sym st.opened) breaks;
    }
