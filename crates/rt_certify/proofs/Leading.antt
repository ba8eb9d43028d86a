-- The first jobs with the most ticks and the least distance, one attempt more.
use Rattle.rt_certify.proofs.Common.{◌≡◌, ℕ, suc, ◌+◌, [], Option, Some, None, inl, inr, refl, sym, ap, subst, ◌∙◌, arith, AttemptOutcome, Next, End, Write, WriteRefused, Sleep, Yield, Now, Reserve, ReserveRefused, Fault, Program, Origin, outcome_of, Progress}
use Rattle.std.proofs.Common.{Bool, true, false, List, ◌∷◌, ◌++◌, ◌-◌, max, min, nat_lt, if◌then◌else◌}
use Rattle.std.specs.Option.{option_map}
use Rattle.std.proofs.lemmas.Bool.{cases_lt}
use Rattle.std.proofs.lemmas.Bool.Decides.{nat_tests}
use Rattle.std.proofs.lemmas.List.Sums.{fold-append}
use Rattle.rt_certify.specs.declared.certificate.Extremes.{Extremes}
use Rattle.rt_certify.specs.declared.certificate.JobAt.{JobAt}
use Rattle.rt_certify.specs.Opened.{Opened, opened}
use Rattle.rt_certify.specs.Extremes.{FinishedJob, finished_by, finished, ticks_of, longer, first_longest, distance_of, is_closer, closer, first_closest, job_at, AreExtremesOf}
use Rattle.rt_certify.specs.Working.Trying.{nearer, done, slept}

abbrev pub job_in : Progress → Program → Opened
job_in p x = record { number = p.jobs; release = p.release; ticks = p.ticks; program = x }

abbrev pub IsStay : AttemptOutcome → Type 0
IsStay Next = Unit {0}
IsStay (Write n) = Unit {0}
IsStay WriteRefused = Unit {0}
IsStay _ = ⊥

-- ---- the lists of finished jobs

finished-next : (o : Origin) (start k : ℕ) (a : Opened) (out : AttemptOutcome) → opened o start k ≡ a → outcome_of a.program ≡ out
    → finished o start (suc k) ≡ finished o start k ++ finished_by a out
finished-next o start k a out is same =
    ap (λ (b : Opened). finished o start k ++ finished_by b (outcome_of b.program)) is
    ∙ ap (λ (x : AttemptOutcome). finished o start k ++ finished_by a x) same

stay-finished : (a : Opened) (o : AttemptOutcome) → IsStay o → finished_by a o ≡ []
stay-finished a Next stay = refl
stay-finished a (Write n) stay = refl
stay-finished a WriteRefused stay = refl
stay-finished a End stay = absurd stay
stay-finished a (Sleep w) stay = absurd stay
stay-finished a Yield stay = absurd stay
stay-finished a (Now u) stay = absurd stay
stay-finished a (Reserve q) stay = absurd stay
stay-finished a ReserveRefused stay = absurd stay
stay-finished a (Fault fault) stay = absurd stay

append-none : (js : List FinishedJob) → js ++ [] ≡ js
append-none [] = refl
append-none (j ∷ js) = ap (λ (ks : List FinishedJob). j ∷ ks) (append-none js)

pub still : (o : Origin) (start k : ℕ) (a : Opened) (out : AttemptOutcome) (m : ℕ) (d : Option ℕ) (e : Extremes) → opened o start k ≡ a → outcome_of a.program ≡ out → IsStay out
    → AreExtremesOf (finished o start k) m d e → AreExtremesOf (finished o start (suc k)) m d e
still o start k a out m d e is same stay are =
    let all : finished o start (suc k) ≡ finished o start k =
    finished-next o start k a out is same ∙ ap (λ (js : List FinishedJob). finished o start k ++ js) (stay-finished a out stay) ∙ append-none (finished o start k) in
    subst (λ js. AreExtremesOf js m d e) (sym all) are

-- ---- one job more

map-either : (b : Bool) (x y : Option FinishedJob) → option_map job_at (if b then x else y) ≡ (if b then option_map job_at x else option_map job_at y)
map-either true x y = refl
map-either false x y = refl

longer-ticks : (first : Option FinishedJob) (j : FinishedJob) (m : ℕ) → ticks_of first ≡ m → ticks_of (longer first j) ≡ max m j.ticks
longer-ticks first j m at =
    elim (cases_lt (ticks_of first) j.ticks) [
      | inl more ↦ let is : nat_lt (ticks_of first) j.ticks ≡ true = grind (arith, nat_tests) in rw is (omega (arith, more, at))
      | inr fewer ↦ let is : nat_lt (ticks_of first) j.ticks ≡ false = grind (arith, nat_tests) in rw is (omega (arith, fewer, at))
    ]

closer-distance : (first : Option FinishedJob) (j : FinishedJob) (e : Option ℕ) (d : ℕ) → distance_of first ≡ e → j.distance ≡ Some d
    → distance_of (if is_closer e d then Some j else first) ≡ nearer e d
closer-distance first j None d at is = is
closer-distance first j (Some e) d at is =
    elim (cases_lt d e) [
      | inl less ↦
          let test : nat_lt d e ≡ true = grind (arith, nat_tests) in
          let least : d ≡ min e d = omega (arith, less) in
          rw test (is ∙ ap Some least)
      | inr more ↦
          let test : nat_lt d e ≡ false = grind (arith, nat_tests) in
          let least : e ≡ min e d = omega (arith, more) in
          rw test (at ∙ ap Some least)
    ]

-- the open job, finished by one attempt more, after which it sleeps so far or not
abbrev finished_in : Progress → Option ℕ → FinishedJob
finished_in p d = record { number = p.jobs; release = p.release; ticks = p.ticks + 1; distance = d }

module _ (js : List FinishedJob) (p : Progress) (are : AreExtremesOf js p.longest p.distance p.extremes) where
  longest-ticks : (d : Option ℕ) → ticks_of (first_longest (js ++ finished_in p d ∷ [])) ≡ max p.longest (p.ticks + 1)
  longest-ticks d =
      ap ticks_of (fold-append longer None js (finished_in p d ∷ [])) ∙ longer-ticks (first_longest js) (finished_in p d) p.longest are.ticks

  longest-job : (d : Option ℕ) → option_map job_at (first_longest (js ++ finished_in p d ∷ [])) ≡ (done p).extremes.longest
  longest-job d =
      ap (option_map job_at) (fold-append longer None js (finished_in p d ∷ []))
      ∙ map-either (nat_lt (ticks_of (first_longest js)) (p.ticks + 1)) (Some (finished_in p d)) (first_longest js)
      ∙ ap (λ (m : ℕ). if nat_lt m (p.ticks + 1) then Some (job_at (finished_in p d)) else option_map job_at (first_longest js)) are.ticks
      ∙ ap (λ (at : Option JobAt). if nat_lt p.longest (p.ticks + 1) then Some (job_at (finished_in p d)) else at) are.longest

  more-ended : AreExtremesOf (js ++ finished_in p None ∷ []) (done p).longest (done p).distance (done p).extremes
  more-ended = record {
    ticks = longest-ticks None;
    near = ap distance_of (fold-append closer None js (finished_in p None ∷ [])) ∙ are.near;
    longest = longest-job None;
    distance = ap (option_map job_at) (fold-append closer None js (finished_in p None ∷ [])) ∙ are.distance;
  }

  more-slept : (w d : ℕ) → AreExtremesOf (js ++ finished_in p (Some d) ∷ []) (slept w d p).longest (slept w d p).distance (slept w d p).extremes
  more-slept w d = record {
    ticks = longest-ticks (Some d);
    near = ap distance_of (fold-append closer None js (finished_in p (Some d) ∷ []))
        ∙ ap (λ (e : Option ℕ). distance_of (if is_closer e d then Some (finished_in p (Some d)) else first_closest js)) are.near
        ∙ closer-distance (first_closest js) (finished_in p (Some d)) p.distance d are.near refl;
    longest = longest-job (Some d);
    distance = ap (option_map job_at) (fold-append closer None js (finished_in p (Some d) ∷ []))
        ∙ map-either (is_closer (distance_of (first_closest js)) d) (Some (finished_in p (Some d))) (first_closest js)
        ∙ ap (λ (e : Option ℕ). if is_closer e d then Some (job_at (finished_in p (Some d))) else option_map job_at (first_closest js)) are.near
        ∙ ap (λ (at : Option JobAt). if is_closer p.distance d then Some (job_at (finished_in p (Some d))) else at) are.distance;
  }

-- an end, and a sleep until tick w, so far from the release

pub ended-extremes : (o : Origin) (start k : ℕ) (x : Program) (p : Progress) → opened o start k ≡ job_in p x → outcome_of x ≡ End
    → AreExtremesOf (finished o start k) p.longest p.distance p.extremes → AreExtremesOf (finished o start (suc k)) (done p).longest (done p).distance (done p).extremes
ended-extremes o start k x p is same are =
    subst (λ js. AreExtremesOf js (done p).longest (done p).distance (done p).extremes) (sym (finished-next o start k (job_in p x) End is same))
    (more-ended (finished o start k) p are)

pub slept-extremes : (o : Origin) (start k : ℕ) (x : Program) (p : Progress) (w d : ℕ) → opened o start k ≡ job_in p x → outcome_of x ≡ Sleep w → p.release + d ≡ w
    → AreExtremesOf (finished o start k) p.longest p.distance p.extremes
    → AreExtremesOf (finished o start (suc k)) (slept w d p).longest (slept w d p).distance (slept w d p).extremes
slept-extremes o start k x p w d is same at are =
    let far : d ≡ w - p.release = omega (arith, at) in
    let all : finished o start (suc k) ≡ finished o start k ++ finished_in p (Some d) ∷ [] =
    finished-next o start k (job_in p x) (Sleep w) is same
    ∙ ap (λ (e : ℕ). finished o start k ++ finished_in p (Some e) ∷ []) (sym far) in
    subst (λ js. AreExtremesOf js (slept w d p).longest (slept w d p).distance (slept w d p).extremes) (sym all) (more-slept (finished o start k) p are w d)
