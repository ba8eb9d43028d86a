-- One attempt more of a program on trial.
use Rattle.rt_certify.proofs.Common.{◌≡◌, ℕ, zero, suc, ◌+◌, ◌*◌, ◌≤◌, [], Option, Some, None, inl, inr, refl, sym, ap, subst, ◌∙◌, arith, AttemptOutcome, Next, End, Write, WriteRefused, Sleep, Yield, Now, Reserve, ReserveRefused, Fault, Program, Origin, attempted, outcome_of, GoesOn, Limits, Progress, Stands}
use Rattle.std.proofs.Common.{◌↔◌, max}
use Rattle.std.proofs.lemmas.Bool.{cases_lt}
use Rattle.rt_history.specs.Program.{loaded}
use Rattle.rt_laws.specs.SeveralPeriods.{MaySleep, KeepsIn, IsCertifiedIn}
use Rattle.rt_laws.proofs.SeveralPeriods.{one-sleep, sleep-one, several-weaker}
use Rattle.rt_certify.specs.Opened.{Opened, opened_by, opened, GoesPast, IsKept, AreKept}
use Rattle.rt_certify.specs.Certified.{IsUpTo}
use Rattle.rt_certify.specs.Working.Trying.{nearer, slept, ArePlainAttempts}
use Rattle.rt_certify.proofs.Told.{IsAnswered}
use Rattle.rt_certify.proofs.Leading.{IsStay, job_in, still, slept-extremes}

-- ---- attempts that leave the job open

stay-goes : (A : Type 0) (C : ℕ → Type 0) (o : AttemptOutcome) → IsStay o → A → GoesOn A C o
stay-goes A C Next stay a = a
stay-goes A C (Write n) stay a = a
stay-goes A C WriteRefused stay a = a
stay-goes A C End stay a = absurd stay
stay-goes A C (Sleep w) stay a = absurd stay
stay-goes A C Yield stay a = absurd stay
stay-goes A C (Now u) stay a = absurd stay
stay-goes A C (Reserve q) stay a = absurd stay
stay-goes A C ReserveRefused stay a = absurd stay
stay-goes A C (Fault fault) stay a = absurd stay

goes-stay : (A : Type 0) (C : ℕ → Type 0) (o : AttemptOutcome) → IsStay o → GoesOn A C o → A
goes-stay A C Next stay goes = goes
goes-stay A C (Write n) stay goes = goes
goes-stay A C WriteRefused stay goes = goes
goes-stay A C End stay goes = absurd stay
goes-stay A C (Sleep w) stay goes = absurd stay
goes-stay A C Yield stay goes = absurd stay
goes-stay A C (Now u) stay goes = absurd stay
goes-stay A C (Reserve q) stay goes = absurd stay
goes-stay A C ReserveRefused stay goes = absurd stay
goes-stay A C (Fault fault) stay goes = absurd stay

stay-past : (C : ℕ → Type 0) (o : AttemptOutcome) → IsStay o → GoesPast C o
stay-past C Next stay = tt
stay-past C (Write n) stay = tt
stay-past C WriteRefused stay = tt
stay-past C End stay = absurd stay
stay-past C (Sleep w) stay = absurd stay
stay-past C Yield stay = absurd stay
stay-past C (Now u) stay = absurd stay
stay-past C (Reserve q) stay = absurd stay
stay-past C ReserveRefused stay = absurd stay
stay-past C (Fault fault) stay = absurd stay

abbrev one_more : Opened → Opened
one_more a = record { number = a.number; release = a.release; ticks = a.ticks + 1; program = attempted [] a.program }

stay-opened : (a : Opened) (o : AttemptOutcome) → IsStay o → opened_by a o ≡ one_more a
stay-opened a Next stay = refl
stay-opened a (Write n) stay = refl
stay-opened a WriteRefused stay = refl
stay-opened a End stay = refl
stay-opened a (Sleep w) stay = absurd stay
stay-opened a Yield stay = refl
stay-opened a (Now u) stay = refl
stay-opened a (Reserve q) stay = refl
stay-opened a ReserveRefused stay = refl
stay-opened a (Fault fault) stay = refl

pub stay-quiet : (o : AttemptOutcome) → IsStay o → IsAnswered o → ⊥
stay-quiet Next stay answered = answered
stay-quiet (Write n) stay answered = answered
stay-quiet WriteRefused stay answered = answered
stay-quiet End stay answered = stay
stay-quiet (Sleep w) stay answered = stay
stay-quiet Yield stay answered = stay
stay-quiet (Now u) stay answered = stay
stay-quiet (Reserve q) stay answered = stay
stay-quiet ReserveRefused stay answered = stay
stay-quiet (Fault fault) stay answered = stay

-- ---- how the jobs stand

opened-next : (o : Origin) (start k : ℕ) (a : Opened) (out : AttemptOutcome) → opened o start k ≡ a → outcome_of a.program ≡ out
    → opened o start (suc k) ≡ opened_by a out
opened-next o start k a out is same = ap (λ (b : Opened). opened_by b (outcome_of b.program)) is ∙ ap (opened_by a) same

kept-more : (o : Origin) (start : ℕ) (l : Limits) (k : ℕ) → AreKept o start l k → IsKept l (opened o start k) → AreKept o start l (suc k)
kept-more o start l k all here = λ i below.
    elim (cases_lt i k) [
      | inl lower ↦ all i lower
      | inr high ↦ let at : k ≡ i = omega (arith, high, below) in subst (λ j. IsKept l (opened o start j)) at here
    ]

-- the attempt of the open job keeps to the limits
kept-next : (o : Origin) (start : ℕ) (l : Limits) (k : ℕ) (x : Program) (p : Progress) (out : AttemptOutcome) → Stands o start l k x p → outcome_of x ≡ out
    → p.ticks + 1 ≤ l.periods * l.budget → GoesPast (MaySleep l.budget l.period p.release (p.ticks + 1)) out → AreKept o start l (suc k)
kept-next o start l k x p out st same few past =
    kept-more o start l k st.kept
    (subst (IsKept l) (sym st.opened) (few, subst (GoesPast (MaySleep l.budget l.period p.release (p.ticks + 1))) (sym same) past))

-- ---- an attempt that leaves the job open

abbrev pub more : Progress → Progress
more p = record { jobs = p.jobs; release = p.release; ticks = p.ticks + 1; longest = p.longest; distance = p.distance; extremes = p.extremes }

forward-on : (o : Origin) (start : ℕ) (l : Limits) (k : ℕ) (x : Program) (p : Progress) (out : AttemptOutcome) → Stands o start l k x p → outcome_of x ≡ out → IsStay out
    → (periods q d j n : ℕ) → IsCertifiedIn o periods q d start p.jobs → KeepsIn periods q d j n p.release (p.ticks + 1) (attempted [] x)
    → IsCertifiedIn o periods q d start (p.jobs + n)
forward-on o start l k x p out st same stay periods q d j zero certified keeps = st.forward periods q d j zero certified tt
forward-on o start l k x p out st same stay periods q d zero (suc n) certified keeps = absurd keeps
forward-on o start l k x p out st same stay periods q d (suc j) (suc n) certified keeps =
    st.forward periods q d (suc (suc j)) (suc n) certified (
      omega (arith, keeps.0),
      subst (GoesOn (KeepsIn periods q d (suc j) (suc n) p.release (p.ticks + 1) (attempted [] x))
          (λ w. MaySleep q d p.release (p.ticks + 1) w × KeepsIn periods q d (suc j) n w 0 (attempted [] x))) (sym same)
          (stay-goes (KeepsIn periods q d (suc j) (suc n) p.release (p.ticks + 1) (attempted [] x))
          (λ w. MaySleep q d p.release (p.ticks + 1) w × KeepsIn periods q d (suc j) n w 0 (attempted [] x)) out stay keeps),
    )

backward-on : (x : Program) (p : Progress) (out : AttemptOutcome) → outcome_of x ≡ out → IsStay out → (periods q d n j : ℕ)
    → KeepsIn periods q d j (suc n) p.release p.ticks x → (i : ℕ) × KeepsIn periods q d i (suc n) p.release (p.ticks + 1) (attempted [] x)
backward-on x p out same stay periods q d n zero keeps = absurd keeps
backward-on x p out same stay periods q d n (suc j) keeps = (
  j,
  goes-stay (KeepsIn periods q d j (suc n) p.release (p.ticks + 1) (attempted [] x))
      (λ w. MaySleep q d p.release (p.ticks + 1) w × KeepsIn periods q d j n w 0 (attempted [] x)) out stay
      (subst (GoesOn (KeepsIn periods q d j (suc n) p.release (p.ticks + 1) (attempted [] x))
      (λ w. MaySleep q d p.release (p.ticks + 1) w × KeepsIn periods q d j n w 0 (attempted [] x))) same keeps.1),
)

pub stands-on : (o : Origin) (start : ℕ) (l : Limits) (k : ℕ) (x : Program) (p : Progress) (out : AttemptOutcome) → Stands o start l k x p → outcome_of x ≡ out → IsStay out
    → p.ticks + 1 ≤ l.periods * l.budget → Stands o start l (suc k) (attempted [] x) (more p)
stands-on o start l k x p out st same stay few = record {
  opened = opened-next o start k (job_in p x) out st.opened same ∙ stay-opened (job_in p x) out stay;
  kept = kept-next o start l k x p out st same few (stay-past (MaySleep l.budget l.period p.release (p.ticks + 1)) out stay);
  extremes = still o start k (job_in p x) out p.longest p.distance p.extremes st.opened same stay st.extremes;
  certified = st.certified;
  exact = st.exact;
  forward = forward-on o start l k x p out st same stay;
  backward = λ periods q d n certified. let before = st.backward periods q d n certified in backward-on x p out same stay periods q d n before.0 before.1;
}

-- several that carry out an instruction and are no calls
abbrev pub more_by : ℕ → Progress → Progress
more_by n p = record { jobs = p.jobs; release = p.release; ticks = p.ticks + n; longest = p.longest; distance = p.distance; extremes = p.extremes }

pub stands-plain : (o : Origin) (start : ℕ) (l : Limits) (n k : ℕ) (x y : Program) (p : Progress) → Stands o start l k x p → ArePlainAttempts n x y → p.ticks + n ≤ l.periods * l.budget
    → Stands o start l (k + n) y (more_by n p)
stands-plain o start l zero k x y p st plain few =
    let at : k ≡ k + zero = omega arith in
    let ticks : p.ticks ≡ p.ticks + zero = omega arith in
    subst (λ z. Stands o start l (k + zero) z (more_by zero p)) plain
    (subst (λ m. Stands o start l (k + zero) x (record { jobs = p.jobs; release = p.release; ticks = m; longest = p.longest; distance = p.distance; extremes = p.extremes })) ticks
    (subst (λ j. Stands o start l j x p) at st))
stands-plain o start l (suc n) k x y p st plain few =
    let one = stands-on o start l k x p Next st plain.0 tt (omega (arith, few)) in
    let all = stands-plain o start l n (suc k) (attempted [] x) y (more p) one plain.1 (omega (arith, few)) in
    let at : suc k + n ≡ k + suc n = omega arith in
    let ticks : p.ticks + 1 + n ≡ p.ticks + suc n = omega arith in
    subst (λ j. Stands o start l j y (more_by (suc n) p)) at
    (subst (λ m. Stands o start l (suc k + n) y (record { jobs = p.jobs; release = p.release; ticks = m; longest = p.longest; distance = p.distance; extremes = p.extremes })) ticks all)

-- ---- distances

nearer-far : (e : Option ℕ) (d q : ℕ) → IsUpTo e q → q ≤ d → IsUpTo (nearer e d) q
nearer-far None d q up near = near
nearer-far (Some e) d q up near = omega (arith, up, near)

far-nearer : (e : Option ℕ) (d q : ℕ) → IsUpTo (nearer e d) q → IsUpTo e q × (q ≤ d)
far-nearer None d q up = (tt, up)
far-nearer (Some e) d q up = (omega (arith, up), omega (arith, up))

-- ---- a sleep

backward-slept : (x : Program) (p : Progress) (w : ℕ) → outcome_of x ≡ Sleep w → (periods q d n j : ℕ) → KeepsIn periods q d j (suc n) p.release p.ticks x
    → (p.ticks + 1 ≤ periods * q) × MaySleep q d p.release (p.ticks + 1) w × ((i : ℕ) × KeepsIn periods q d i n w 0 (attempted [] x))
backward-slept x p w same periods q d n zero keeps = absurd keeps
backward-slept x p w same periods q d n (suc j) keeps =
    let goes : MaySleep q d p.release (p.ticks + 1) w × KeepsIn periods q d j n w 0 (attempted [] x) =
    subst (GoesOn (KeepsIn periods q d j (suc n) p.release (p.ticks + 1) (attempted [] x))
    (λ v. MaySleep q d p.release (p.ticks + 1) v × KeepsIn periods q d j n v 0 (attempted [] x))) same keeps.1 in
    (keeps.0, goes.0, (j, goes.1))

keeps-slept : (x : Program) (p : Progress) (w : ℕ) → outcome_of x ≡ Sleep w → (periods q d n j : ℕ) → p.ticks + 1 ≤ periods * q
    → MaySleep q d p.release (p.ticks + 1) w → KeepsIn periods q d j n w 0 (attempted [] x) → KeepsIn periods q d (suc j) (suc n) p.release p.ticks x
keeps-slept x p w same periods q d n j few far keeps = (
  few,
  subst (GoesOn (KeepsIn periods q d j (suc n) p.release (p.ticks + 1) (attempted [] x))
      (λ v. MaySleep q d p.release (p.ticks + 1) v × KeepsIn periods q d j n v 0 (attempted [] x))) (sym same) (far, keeps),
)

pub fewer : (o : Origin) (periods q d start m n : ℕ) → m ≤ n → IsCertifiedIn o periods q d start n → IsCertifiedIn o periods q d start m
fewer o periods q d start m n less = several-weaker o periods q d start n periods q d start m (omega arith) (omega arith) (omega arith) (omega arith) less

-- the job that is finished by the sleep is one of those for which the program is certified
certified-slept : (o : Origin) (start : ℕ) (l : Limits) (k : ℕ) (x : Program) (p : Progress) (w : ℕ) → Stands o start l k x p → outcome_of x ≡ Sleep w
    → (periods q d : ℕ) → IsCertifiedIn o periods q d start p.jobs → p.ticks + 1 ≤ periods * q → MaySleep q d p.release (p.ticks + 1) w
    → IsCertifiedIn o periods q d start (p.jobs + 1)
certified-slept o start l k x p w st same periods q d certified few far =
    let one : p.jobs + suc zero ≡ p.jobs + 1 = omega arith in
    subst (IsCertifiedIn o periods q d start) one
    (st.forward periods q d (suc zero) (suc zero) certified (keeps-slept x p w same periods q d zero zero few far tt))

-- and it was so before
slept-certified : (o : Origin) (start : ℕ) (l : Limits) (k : ℕ) (x : Program) (p : Progress) (w : ℕ) → Stands o start l k x p → outcome_of x ≡ Sleep w
    → (periods q d : ℕ) → IsCertifiedIn o periods q d start (p.jobs + 1)
    → IsCertifiedIn o periods q d start p.jobs × (p.ticks + 1 ≤ periods * q) × MaySleep q d p.release (p.ticks + 1) w
slept-certified o start l k x p w st same periods q d certified =
    let one : p.jobs + 1 ≡ p.jobs + suc zero = omega arith in
    let last = st.backward periods q d zero (subst (IsCertifiedIn o periods q d start) one certified) in
    let goes = backward-slept x p w same periods q d zero last.0 last.1 in
    (fewer o periods q d start p.jobs (p.jobs + 1) (omega arith) certified, goes.0, goes.1)

exact-slept : (o : Origin) (start : ℕ) (l : Limits) (k : ℕ) (x : Program) (p : Progress) (w e : ℕ) → Stands o start l k x p → outcome_of x ≡ Sleep w
    → p.release + e ≡ w → (q d : ℕ)
    → IsCertifiedIn o 1 q d start (p.jobs + 1) ↔ ((max p.longest (p.ticks + 1) ≤ q) × IsUpTo (nearer p.distance e) d)
exact-slept o start l k x p w e st same at q d = (
  λ certified.
      let was = slept-certified o start l k x p w st same 1 q d certified in
      let before = (st.exact q d).0 was.0 in
      let far = sleep-one q d p.release p.ticks w was.2 in
      (omega (arith, before.0, was.1), nearer-far p.distance e d before.1 (omega (arith, far, at))),
  λ both.
      let ups = far-nearer p.distance e d both.1 in
      certified-slept o start l k x p w st same 1 q d ((st.exact q d).1 (omega (arith, both.0), ups.0)) (omega (arith, both.0))
      (one-sleep q d p.release (p.ticks + 1) w (omega (arith, ups.1, at)) (omega (arith, both.0))),
)

pub stands-slept : (o : Origin) (start : ℕ) (l : Limits) (k : ℕ) (x : Program) (p : Progress) (w e : ℕ) → Stands o start l k x p → outcome_of x ≡ Sleep w
    → p.ticks + 1 ≤ l.periods * l.budget → MaySleep l.budget l.period p.release (p.ticks + 1) w → p.release + e ≡ w
    → Stands o start l (suc k) (attempted [] x) (slept w e p)
stands-slept o start l k x p w e st same few far at = record {
  opened = opened-next o start k (job_in p x) (Sleep w) st.opened same;
  kept = kept-next o start l k x p (Sleep w) st same few far;
  extremes = slept-extremes o start k x p w e st.opened same at st.extremes;
  certified = certified-slept o start l k x p w st same l.periods l.budget l.period st.certified few far;
  exact = exact-slept o start l k x p w e st same at;
  forward = λ periods q d j n certified keeps.
      let was = slept-certified o start l k x p w st same periods q d certified in
      let next : p.jobs + suc n ≡ p.jobs + 1 + n = omega arith in
      subst (IsCertifiedIn o periods q d start) next
      (st.forward periods q d (suc j) (suc n) was.0 (keeps-slept x p w same periods q d n j was.1 was.2 keeps));
  backward = λ periods q d n certified.
      let next : p.jobs + 1 + suc n ≡ p.jobs + suc (suc n) = omega arith in
      let before = st.backward periods q d (suc n) (subst (IsCertifiedIn o periods q d start) next certified) in
      let goes = backward-slept x p w same periods q d (suc n) before.0 before.1 in
      goes.2;
}

-- ---- before the first attempt

pub stands-first : (o : Origin) (start : ℕ) (l : Limits) → Stands o start l 0 (loaded o) (record { jobs = 0; release = start; ticks = 0; longest = 0; distance = None; extremes = record { longest = None; distance = None } })
stands-first o start l = record {
  opened = refl;
  kept = λ i below. absurd (omega (arith, below));
  extremes = record { ticks = refl; near = refl; longest = refl; distance = refl };
  certified = (0, tt);
  exact = λ q d. (λ certified. (omega arith, tt), λ both. (0, tt));
  forward = λ periods q d j n certified keeps. let at : n ≡ 0 + n = omega arith in subst (IsCertifiedIn o periods q d start) at (j, keeps);
  backward = λ periods q d n certified.
      let at : 0 + suc n ≡ suc n = omega arith in
      subst (IsCertifiedIn o periods q d start) at certified;
}
