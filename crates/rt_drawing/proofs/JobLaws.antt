-- The jobs that bars tell are those of a list of jobs.
use Rattle.rt_drawing.proofs.Common.{◌≡◌, ℕ, suc, ◌+◌, true, List, [], ◌∷◌, ◌++◌, length, refl, sym, ap, ◌∙◌, arith, SetTask, AttemptOutcome, Job, first_job, job_by, job_after, behind, turns, Turn}
use Rattle.std.proofs.Common.{length-append, add-zero, zero-add}
use Rattle.rt_history.specs.declared.record.AttemptOutcome.TheVariants.{End, Sleep}
use Rattle.rt_history.specs.Job.{Release, release_by, release_after, release_of, jobs_after}
use Rattle.rt_laws.specs.OpenJob.{open_after}
use Rattle.rt_drawing.specs.Listed.{listed_job}
use Rattle.rt_drawing.specs.Waits.{turn}
use Rattle.rt_drawing.proofs.WaitLaws.{turns-more}

released-by : (j : Job) (r : Release) (u : ℕ) (o : AttemptOutcome) → j.release ≡ r.tick → (job_by j o).release ≡ (release_by r u o).tick
released-by j r u (Sleep w) same = refl
released-by j r u End same = same
released-by j r u _ same = same

released : (j : Job) (r : Release) (es : List (ℕ × AttemptOutcome)) → j.release ≡ r.tick → (job_after j es).release ≡ (release_after r es).tick
released j r [] same = same
released j r (e ∷ es) same = released (job_by j e.1) (release_by r e.0 e.1) es (released-by j r e.0 e.1 same)

-- one job more is finished
one-more : (k n : ℕ) → k + 1 + n ≡ k + suc n
one-more k n = omega arith

numbered : (s : SetTask) (j : Job) (before piece es : List (ℕ × AttemptOutcome)) → (job_after j es).number ≡ j.number + length (jobs_after s before piece es)
numbered s j before piece [] = sym (add-zero j.number)
numbered s j before piece ((u, Sleep w) ∷ es) =
    numbered s (job_by j (Sleep w)) (before ++ (piece ++ (u, Sleep w) ∷ [])) [] es ∙ one-more j.number (length (jobs_after s (before ++ (piece ++ (u, Sleep w) ∷ [])) [] es))
numbered s j before piece ((u, End) ∷ es) =
    numbered s (job_by j End) (before ++ (piece ++ (u, End) ∷ [])) [] es ∙ one-more j.number (length (jobs_after s (before ++ (piece ++ (u, End) ∷ [])) [] es))
numbered s j before piece ((u, o) ∷ es) = numbered s (job_by j o) before (piece ++ (u, o) ∷ []) es

ticking : (s : SetTask) (j : Job) (before piece es : List (ℕ × AttemptOutcome)) → j.ticks ≡ length piece → (job_after j es).ticks ≡ (open_after s before piece es).ticks
ticking s j before piece [] same = same
ticking s j before piece ((u, Sleep w) ∷ es) same = ticking s (job_by j (Sleep w)) (before ++ (piece ++ (u, Sleep w) ∷ [])) [] es refl
ticking s j before piece ((u, End) ∷ es) same = ticking s (job_by j End) (before ++ (piece ++ (u, End) ∷ [])) [] es refl
ticking s j before piece ((u, o) ∷ es) same =
    ticking s (job_by j o) before (piece ++ (u, o) ∷ []) es (ap (λ (n : ℕ). n + 1) same ∙ sym (length-append piece ((u, o) ∷ [])))

-- a job by its parts
made : (j : Job) (number release ticks : ℕ) → j.number ≡ number → j.release ≡ release → j.ticks ≡ ticks → j ≡ record { number = number; release = release; ticks = ticks }
made j number release ticks a b c =
    ap (λ (k : ℕ). record { number = k; release = j.release; ticks = j.ticks }) a
    ∙ ap (λ (k : ℕ). record { number = number; release = k; ticks = j.ticks }) b
    ∙ ap (λ (k : ℕ). record { number = number; release = release; ticks = k }) c

job-listed : (s : SetTask) (es : List (ℕ × AttemptOutcome)) → job_after (first_job s) es ≡ listed_job s es
job-listed s es =
    let k = length (jobs_after s [] [] es) in
    made (job_after (first_job s) es) k (release_of s es).tick (open_after s [] [] es).ticks
    (numbered s (first_job s) [] [] es ∙ zero-add k) (released (first_job s) (record { tick = s.start; awaited = true }) es refl) (ticking s (first_job s) [] [] es refl)

pub turns-listed : (allowed : ℕ) (s : SetTask) (es : List (ℕ × AttemptOutcome)) (e : ℕ × AttemptOutcome)
    → turns allowed s (es ++ e ∷ []) ≡ turns allowed s es ++ turn allowed (listed_job s es) (behind 0 es) e.0 ∷ []
turns-listed allowed s es e =
    turns-more allowed (first_job s) 0 es e ∙ ap (λ (j : Job). turns allowed s es ++ turn allowed j (behind 0 es) e.0 ∷ []) (job-listed s es)
