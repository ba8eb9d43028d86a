-- The jobs of a certified task in a legal history are those of its program alone.
use Rattle.rt_laws.proofs.Common.{◌≡◌, ℕ, zero, suc, ◌+◌, ◌≤◌, false, List, [], ◌∷◌, ◌++◌, length, map, take, slice_get, Some, refl, sym, ap, subst, ◌∙◌, SetTask, TaskSet, AttemptOutcome, Next, End, Write, WriteRefused, Sleep, Yield, Now, Reserve, ReserveRefused, Fault, IsAdmittedSet, Program, loaded, first_program, origin, Told, attempt_at, Serving, first_serving, due, after, own, granted_by, legal, Job, Release, release_of, job_of, jobs_after, release-slept, ticks-more, attempted, first_jobs, outcome_of, GoesOn, Keeps}
use Rattle.rt_laws.proofs.OwnParts.{FitsAlong, fits_along}
use Rattle.rt_laws.proofs.Isolation.{Follows, follows}
use Rattle.rt_laws.specs.Planned.{planned_by, planned}
use Rattle.rt_laws.proofs.Attempts.{attempt-still}

abbrev IsAlike : List Job → List (ℕ × ℕ) → Type 0
IsAlike js plan = map (λ j. (j.release, j.ticks)) js ≡ take (length js) plan

alike-cons : (j : Job) (js : List Job) (r m : ℕ) (plan : List (ℕ × ℕ)) → j.release ≡ r → j.ticks ≡ m → IsAlike js plan → IsAlike (j ∷ js) ((r, m) ∷ plan)
alike-cons j js r m plan release ticks rest = rw (release, ticks, rest) refl

first-alike : (n : ℕ) (plan : List (ℕ × ℕ)) → IsAlike (take n []) plan
first-alike zero plan = refl
first-alike (suc n) plan = refl

-- what follows is as planned, at the records es
abbrev Later : SetTask → List (ℕ × AttemptOutcome) → Type 0
Later s es = (k n : ℕ) (p : Program) (before piece : List (ℕ × AttemptOutcome)) (v : Serving)
    → Keeps s.budget s.period k n (release_of s before).tick (length piece) p → Follows p es → FitsAlong v es
    → IsAlike (take n (jobs_after s before piece es)) (planned k (release_of s before).tick (length piece) p)

alike-on : (s : SetTask) (k n : ℕ) (p : Program) (before piece : List (ℕ × AttemptOutcome)) (e : ℕ × AttemptOutcome) (es : List (ℕ × AttemptOutcome)) (v : Serving)
    → Later s es → Keeps s.budget s.period k (suc n) (release_of s before).tick (length piece + 1) p → Follows p es → FitsAlong v es
    → IsAlike (take (suc n) (jobs_after s before (piece ++ e ∷ []) es)) (planned k (release_of s before).tick (length piece + 1) p)
alike-on s k n p before piece e es v later keeps along fit =
    let more = ticks-more piece e in
    subst (λ m. IsAlike (take (suc n) (jobs_after s before (piece ++ e ∷ []) es)) (planned k (release_of s before).tick m p)) more
    (later k (suc n) p before (piece ++ e ∷ []) v (subst (λ m. Keeps s.budget s.period k (suc n) (release_of s before).tick m p) (sym more) keeps) along fit)

alike-slept : (s : SetTask) (k n : ℕ) (p : Program) (before piece : List (ℕ × AttemptOutcome)) (u w : ℕ) (es : List (ℕ × AttemptOutcome)) (v : Serving)
    → Later s es → Keeps s.budget s.period k n w 0 p → Follows p es → FitsAlong v es
    → IsAlike (take (suc n) (jobs_after s before piece ((u, Sleep w) ∷ es))) (((release_of s before).tick, length piece + 1) ∷ planned k w 0 p)
alike-slept s k n p before piece u w es v later keeps along fit =
    let done = before ++ (piece ++ (u, Sleep w) ∷ []) in
    let here : (release_of s done).tick ≡ w = ap (λ (r : Release). r.tick) (release-slept s before piece u w) in
    alike-cons (job_of s before (piece ++ (u, Sleep w) ∷ []) u) (take n (jobs_after s done [] es)) (release_of s before).tick (length piece + 1) (planned k w 0 p)
    refl (ticks-more piece (u, Sleep w))
    (subst (λ r. IsAlike (take n (jobs_after s done [] es)) (planned k r 0 p)) here
    (later k n p done [] v (subst (λ r. Keeps s.budget s.period k n r 0 p) (sym here) keeps) along fit))

-- a task that has ended has no record more
alike-ended : (s : SetTask) (n : ℕ) (before piece : List (ℕ × AttemptOutcome)) (u : ℕ) (es : List (ℕ × AttemptOutcome)) (v : Serving)
    → FitsAlong (after u End (due u v).account) es
    → IsAlike (take (suc n) (jobs_after s before piece ((u, End) ∷ es))) (((release_of s before).tick, length piece + 1) ∷ [])
alike-ended s n before piece u [] v along =
    alike-cons (job_of s before (piece ++ (u, End) ∷ []) u) (take n []) (release_of s before).tick (length piece + 1) [] refl (ticks-more piece (u, End)) (first-alike n [])
alike-ended s n before piece u (f ∷ fs) v along = let active = along.0 in absurd cc

alike-by : (s : SetTask) (k n : ℕ) (p : Program) (before piece : List (ℕ × AttemptOutcome)) (u : ℕ) (o : AttemptOutcome) (es : List (ℕ × AttemptOutcome)) (v : Serving)
    → Later s es
    → GoesOn (Keeps s.budget s.period k (suc n) (release_of s before).tick (length piece + 1) p)
    (λ w. ((release_of s before).tick + s.period ≤ w) × Keeps s.budget s.period k n w 0 p) o
    → Follows p es → FitsAlong (after u o (due u v).account) es
    → IsAlike (take (suc n) (jobs_after s before piece ((u, o) ∷ es)))
    (planned_by (((release_of s before).tick, length piece + 1) ∷ []) (planned k (release_of s before).tick (length piece + 1) p)
    (λ w. ((release_of s before).tick, length piece + 1) ∷ planned k w 0 p) o)
alike-by s k n p before piece u Next es v later goes along fit = alike-on s k n p before piece (u, Next) es _ later goes along fit
alike-by s k n p before piece u (Write x) es v later goes along fit = alike-on s k n p before piece (u, Write x) es _ later goes along fit
alike-by s k n p before piece u WriteRefused es v later goes along fit = alike-on s k n p before piece (u, WriteRefused) es _ later goes along fit
alike-by s k n p before piece u (Sleep w) es v later goes along fit = alike-slept s k n p before piece u w es _ later goes.1 along fit
alike-by s k n p before piece u End es v later goes along fit = alike-ended s n before piece u es v fit
alike-by s k n p before piece u Yield es v later goes along fit = absurd goes
alike-by s k n p before piece u (Now x) es v later goes along fit = absurd goes
alike-by s k n p before piece u (Reserve x) es v later goes along fit = absurd goes
alike-by s k n p before piece u ReserveRefused es v later goes along fit = absurd goes
alike-by s k n p before piece u (Fault fault) es v later goes along fit = absurd goes

alike : (s : SetTask) (es : List (ℕ × AttemptOutcome)) → Later s es
alike s es k zero p before piece v keeps along fit = refl
alike s es zero (suc n) p before piece v keeps along fit = absurd keeps
alike s [] (suc k) (suc n) p before piece v keeps along fit = refl
alike s (e ∷ es) (suc k) (suc n) p before piece v keeps along fit =
    let r = (release_of s before).tick in
    let m = length piece + 1 in
    let q : Program = attempted [] p in
    let still : attempt_at e.0 (granted_by e.1) p ≡ attempt_at 0 (λ b. false) p =
    attempt-still (Keeps s.budget s.period k (suc n) r m q) (λ w. (r + s.period ≤ w) × Keeps s.budget s.period k n w 0 q) e.0 (granted_by e.1) p keeps.1 in
    let outcome : outcome_of p ≡ e.1 = ap (λ (x : Told). x.outcome) (sym still) ∙ along.0 in
    subst (λ o. IsAlike (take (suc n) (jobs_after s before piece (e ∷ es))) (planned_by ((r, m) ∷ []) (planned k r m q) (λ w. (r, m) ∷ planned k w 0 q) o)) (sym outcome)
    (alike-by s k n q before piece e.0 e.1 es v (alike s es)
    (subst (GoesOn (Keeps s.budget s.period k (suc n) r m q) (λ w. (r + s.period ≤ w) × Keeps s.budget s.period k n w 0 q)) outcome keeps.1)
    (subst (λ (x : Told). Follows x.program es) still along.1) fit.2)

pub jobs_alone : (set : TaskSet) (t i n k : ℕ) (s : SetTask) → IsAdmittedSet set → slice_get set.tasks i ≡ Some s
    → Keeps s.budget s.period k n s.start 0 (loaded (origin s))
    → map (λ j. (j.release, j.ticks)) (first_jobs n set t i s) ≡ take (length (first_jobs n set t i s)) (planned k s.start 0 (loaded (origin s)))
jobs_alone set t i n k s ok there keeps =
    alike s (own i (legal set t)) k n (first_program s) [] [] (first_serving s) keeps (follows set t i s there) (fits_along set t i s ok there)
