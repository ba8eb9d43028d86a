-- Turns and waits, one record more.
use Rattle.rt_drawing.proofs.Common.{◌≡◌, ℕ, ◌+◌, ◌≤◌, nat_lt, max, ◌⊎◌, inl, inr, Bool, true, false, List, [], ◌∷◌, ◌++◌, refl, ap, ◌∙◌, arith, nat_tests, AttemptOutcome, Job, job_by, job_after, Window, behind, Turn, turns_after, wait}
use Rattle.std.proofs.Common.{min}
use Rattle.rt_drawing.specs.Waits.{turn, part, parts}

pub behind-more : (t : ℕ) (es : List (ℕ × AttemptOutcome)) (e : ℕ × AttemptOutcome) → behind t (es ++ e ∷ []) ≡ e.0 + 1
behind-more t [] e = refl
behind-more t (f ∷ es) e = behind-more (f.0 + 1) es e

pub job-more : (j : Job) (es : List (ℕ × AttemptOutcome)) (e : ℕ × AttemptOutcome) → job_after j (es ++ e ∷ []) ≡ job_by (job_after j es) e.1
job-more j [] e = refl
job-more j (f ∷ es) e = job-more (job_by j f.1) es e

pub turns-more : (allowed : ℕ) (j : Job) (b : ℕ) (es : List (ℕ × AttemptOutcome)) (e : ℕ × AttemptOutcome)
    → turns_after allowed j b (es ++ e ∷ []) ≡ turns_after allowed j b es ++ turn allowed (job_after j es) (behind b es) e.0 ∷ []
turns-more allowed j b [] e = refl
turns-more allowed j b (f ∷ es) e = ap (λ (ts : List Turn). turn allowed j b f.0 ∷ ts) (turns-more allowed (job_by j f.1) (f.0 + 1) es e)

-- ---- no wait

pub part-none : (over : Bool) (j : Job) (from to : ℕ) → to ≤ from → part over j from to ≡ []
part-none over j from to none =
    let no : nat_lt from to ≡ false = grind (arith, nat_tests) in
    rw no refl

parts-none : (over_from : ℕ) (j : Job) (from to : ℕ) → to ≤ from → parts over_from j from to ≡ []
parts-none over_from j from to none =
    rw (part-none false j from (min to over_from) (omega (arith, none)), part-none true j (max from over_from) to (omega (arith, none))) refl

-- where a window shows nothing of it, or the task's last tick was the one before
pub wait_none : (w : Window) (over_from : ℕ) (j : Job) (since u : ℕ) → (u ≤ since) ⊎ (u ≤ w.from) → wait w over_from j since u ≡ []
wait_none w over_from j since u (inl none) = parts-none over_from j (max since w.from) u (omega (arith, none))
wait_none w over_from j since u (inr none) = parts-none over_from j (max since w.from) u (omega (arith, none))
