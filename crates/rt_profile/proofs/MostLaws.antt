-- The ticks of a part, and the most of one job.
use Rattle.rt_profile.proofs.Common.{◌≡◌, ◌≢◌, ℕ, zero, suc, ◌+◌, ◌-◌, ◌<◌, ◌≤◌, ◌==◌, Bool, true, false, cond, List, [], ◌∷◌, ◌++◌, length, map, replicate, slice_get, slice_set, Option, Some, None, refl, sym, ap, subst, ◌∙◌, arith, add-zero, option_map_or, eqb-true, nat_tests, Label, Attempt, AttemptOutcome, ends_job, part, ticks_in, TaskCounts, no_ticks, word_at, with_place, with_pc, finished, with_outcome, counted, counted_all}
use Rattle.std.proofs.Common.{max}
use Rattle.std.proofs.lemmas.List.{length-set}
use Rattle.rt_profile.specs.declared.part_count.PartCount.{PartCount}
use Rattle.rt_profile.specs.Attempts.{unfinished, pieces_after}
use Rattle.rt_profile.specs.Rows.{greatest, most_in}
use Rattle.rt_profile.specs.Counted.{most_of, current_in, behind, passed, passed_at}
use Rattle.rt_profile.specs.Working.Told.{part_with}
use Rattle.rt_profile.proofs.PartLemmas.{count-cons, count-push}
use Rattle.rt_profile.proofs.CountLaws.{labels-kept}

-- ---- one part of a list

part-get : (ps : List PartCount) (k : ℕ) (job : ℕ) → k < length ps → part_with (passed_at job ps k) k ≡ passed job (part_with ps k)
part-get [] k job below = absurd (omega arith)
part-get (p ∷ ps) zero job below = refl
part-get (p ∷ ps) (suc k) job below = later (slice_get ps k) ∙ part-get ps k job (omega arith)
  where
    later : (found : Option PartCount) → part_with (option_map_or (λ q. slice_set (p ∷ ps) (suc k) (passed job q)) found (p ∷ ps)) (suc k)
        ≡ part_with (option_map_or (λ q. slice_set ps k (passed job q)) found ps) k
    later None = refl
    later (Some q) = refl

part-other : (ps : List PartCount) (j k : ℕ) (job : ℕ) → j ≢ k → part_with (passed_at job ps j) k ≡ part_with ps k
part-other [] j k job apart = refl
part-other (p ∷ ps) zero zero job apart = absurd (apart refl)
part-other (p ∷ ps) zero (suc k) job apart = refl
part-other (p ∷ ps) (suc j) k job apart = later k apart (slice_get ps j) refl (λ i. part-other ps j i job)
  where
    later : (i : ℕ) → suc j ≢ i → (found : Option PartCount) → slice_get ps j ≡ found → ((i : ℕ) → j ≢ i → part_with (passed_at job ps j) i ≡ part_with ps i)
        → part_with (option_map_or (λ q. slice_set (p ∷ ps) (suc j) (passed job q)) found (p ∷ ps)) i ≡ part_with (p ∷ ps) i
    later i differs None is rest = refl
    later zero differs (Some q) is rest = refl
    later (suc i) differs (Some q) is rest =
        let less : j ≢ i = λ same. differs (ap suc same) in
        ap (λ (found : Option PartCount). part_with (option_map_or (λ r. slice_set ps j (passed job r)) found ps) i) (sym is) ∙ rest i less

parts-size : (ps : List PartCount) (j job : ℕ) → length (passed_at job ps j) ≡ length ps
parts-size ps j job = size (slice_get ps j)
  where
    size : (found : Option PartCount) → length (option_map_or (λ q. slice_set ps j (passed job q)) found ps) ≡ length ps
    size None = refl
    size (Some q) = length-set ps j (passed job q)

-- ---- one record

outcome-parts : (o : AttemptOutcome) (x : TaskCounts) → (with_outcome o x).parts ≡ x.parts
outcome-parts o x = elim (ends_job o) as (λ b. (cond b (finished x) x).parts ≡ x.parts) [ true ↦ refl | false ↦ refl ]

counted-parts : (r : Attempt) (x : TaskCounts) → (counted r x).parts ≡ passed_at x.jobs x.parts (part x.labels r.pc)
counted-parts r x = outcome-parts r.outcome (with_pc r.pc x)

place-jobs : (pc : ℕ) (place : Option ℕ) (x : TaskCounts) → (with_place pc place x).jobs ≡ x.jobs
place-jobs pc None x = refl
place-jobs pc (Some w) x = refl

counted-jobs : (r : Attempt) (x : TaskCounts) (b : Bool) → ends_job r.outcome ≡ b → (counted r x).jobs ≡ x.jobs + cond b 1 0
counted-jobs r x true ends =
    ap (λ (c : Bool). (cond c (finished (with_pc r.pc x)) (with_pc r.pc x)).jobs) ends
    ∙ ap (λ (n : ℕ). n + 1) (place-jobs r.pc (word_at (length x.words) r.pc) x)
counted-jobs r x false on =
    ap (λ (c : Bool). (cond c (finished (with_pc r.pc x)) (with_pc r.pc x)).jobs) on
    ∙ place-jobs r.pc (word_at (length x.words) r.pc) x ∙ sym (add-zero x.jobs)

pub parts-kept : (r : Attempt) (x : TaskCounts) → length (counted r x).parts ≡ length x.parts
parts-kept r x = ap (λ (ps : List PartCount). length ps) (counted-parts r x) ∙ parts-size x.parts (part x.labels r.pc) x.jobs

abbrev at : TaskCounts → ℕ → PartCount
at x k = part_with x.parts k

one-own : (r : Attempt) (x : TaskCounts) (k : ℕ) → k < length x.parts → part x.labels r.pc ≡ k → at (counted r x) k ≡ passed x.jobs (at x k)
one-own r x k below own =
    ap (λ (ps : List PartCount). part_with ps k) (counted-parts r x) ∙ ap (λ (j : ℕ). part_with (passed_at x.jobs x.parts j) k) own ∙ part-get x.parts k x.jobs below

one-other : (r : Attempt) (x : TaskCounts) (k : ℕ) → part x.labels r.pc ≢ k → at (counted r x) k ≡ at x k
one-other r x k other = ap (λ (ps : List PartCount). part_with ps k) (counted-parts r x) ∙ part-other x.parts (part x.labels r.pc) k x.jobs other

-- ---- all records

ticks-one : (r : Attempt) (x : TaskCounts) (k : ℕ) (b : Bool) → k < length x.parts → (part x.labels r.pc == k) ≡ b → (at (counted r x) k).ticks ≡ (at x k).ticks + cond b 1 0
ticks-one r x k true below hit =
    let own : part x.labels r.pc ≡ k = grind (arith, nat_tests) in
    ap (λ (p : PartCount). p.ticks) (one-own r x k below own)
ticks-one r x k false below miss =
    let other : part x.labels r.pc ≢ k = grind (arith, nat_tests) in
    ap (λ (p : PartCount). p.ticks) (one-other r x k other) ∙ sym (add-zero (at x k).ticks)

pub ticks-all : (x : TaskCounts) (rs : List Attempt) (k : ℕ) → k < length x.parts → (at (counted_all x rs) k).ticks ≡ (at x k).ticks + ticks_in x.labels k rs
ticks-all x [] k below = sym (add-zero (at x k).ticks)
ticks-all x (r ∷ rs) k below =
    let rest : (at (counted_all (counted r x) rs) k).ticks ≡ (at (counted r x) k).ticks + ticks_in x.labels k rs =
    ticks-all (counted r x) rs k (omega (arith, parts-kept r x)) ∙ ap (λ (ls : List Label). (at (counted r x) k).ticks + ticks_in ls k rs) (labels-kept r x) in
    omega (arith, rest, ticks-one r x k (part x.labels r.pc == k) below refl, count-cons (λ q. part x.labels q.pc == k) r rs)

-- ---- the most of one job

-- what a tick of job j makes of a part: that job has n
record Passed (j n : ℕ) (p y : PartCount) : Type 0 where
  current : current_in j y ≡ n
  most : most_of y ≡ max (most_of p) n
  begun : y.begun ≤ y.ticks
  job : y.job ≤ j

passing : (j : ℕ) (p : PartCount) (b : Bool) → (p.job == j) ≡ b → p.begun ≤ p.ticks → Passed j (current_in j p + 1) p (passed j p)
passing j p true same le =
    let y : PartCount = record p { ticks = p.ticks + 1 } in
    let is : y ≡ passed j p = ap (λ (q : PartCount). record q { ticks = p.ticks + 1 }) (ap (λ (c : Bool). cond c p (behind j p)) (sym same)) in
    let one : current_in j p ≡ p.ticks - p.begun = ap (λ (c : Bool). cond c (p.ticks - p.begun) 0) same in
    let two : current_in j y ≡ p.ticks + 1 - p.begun = ap (λ (c : Bool). cond c (p.ticks + 1 - p.begun) 0) same in
    subst (Passed j (current_in j p + 1) p) is
    (record { current = omega (arith, one, two, le); most = omega (arith, one, le); begun = omega (arith, le); job = omega (arith, eqb-true p.job j same) })
passing j p false other le =
    let y : PartCount = record (behind j p) { ticks = p.ticks + 1 } in
    let is : y ≡ passed j p = ap (λ (q : PartCount). record q { ticks = p.ticks + 1 }) (ap (λ (c : Bool). cond c p (behind j p)) (sym other)) in
    let one : current_in j p ≡ 0 = ap (λ (c : Bool). cond c (p.ticks - p.begun) 0) other in
    let own : (j == j) ≡ true = grind (arith, nat_tests) in
    let two : current_in j y ≡ p.ticks + 1 - p.ticks = ap (λ (c : Bool). cond c (p.ticks + 1 - p.ticks) 0) own in
    subst (Passed j (current_in j p + 1) p) is (record { current = omega (arith, one, two); most = omega (arith, one); begun = omega arith; job = omega arith })

-- how a part's count agrees with the records of the open job
record Agrees (x : TaskCounts) (k : ℕ) (piece : List Attempt) : Type 0 where
  current : current_in x.jobs (at x k) ≡ ticks_in x.labels k piece
  most : ticks_in x.labels k piece ≤ most_of (at x k)
  begun : (at x k).begun ≤ (at x k).ticks
  job : (at x k).job ≤ x.jobs

went : (r : Attempt) (x : TaskCounts) (k : ℕ) (piece : List Attempt) (b : Bool) → k < length x.parts → (part x.labels r.pc == k) ≡ b → Agrees x k piece
    → Passed x.jobs (ticks_in x.labels k (piece ++ r ∷ [])) (at x k) (at (counted r x) k)
went r x k piece true below hit agrees =
    let own : part x.labels r.pc ≡ k = grind (arith, nat_tests) in
    let n : ticks_in x.labels k (piece ++ r ∷ []) ≡ ticks_in x.labels k piece + 1 =
    count-push (λ q. part x.labels q.pc == k) piece r ∙ ap (λ (c : Bool). ticks_in x.labels k piece + cond c 1 0) hit in
    let new : at (counted r x) k ≡ passed x.jobs (at x k) = one-own r x k below own in
    let count : current_in x.jobs (at x k) + 1 ≡ ticks_in x.labels k (piece ++ r ∷ []) = omega (arith, agrees.current, n) in
    let it = passing x.jobs (at x k) ((at x k).job == x.jobs) refl agrees.begun in
    subst (λ (m : ℕ). Passed x.jobs m (at x k) (at (counted r x) k)) count (subst (Passed x.jobs (current_in x.jobs (at x k) + 1) (at x k)) (sym new) it)
went r x k piece false below miss agrees =
    let other : part x.labels r.pc ≢ k = grind (arith, nat_tests) in
    let n : ticks_in x.labels k (piece ++ r ∷ []) ≡ ticks_in x.labels k piece =
    count-push (λ q. part x.labels q.pc == k) piece r ∙ ap (λ (c : Bool). ticks_in x.labels k piece + cond c 1 0) miss ∙ add-zero (ticks_in x.labels k piece) in
    let new : at (counted r x) k ≡ at x k = one-other r x k other in
    subst (Passed x.jobs (ticks_in x.labels k (piece ++ r ∷ [])) (at x k)) (sym new)
    (record { current = agrees.current ∙ sym n; most = omega (arith, agrees.most, n); begun = agrees.begun; job = agrees.job })

anew : (j : ℕ) (p : PartCount) → p.job ≤ j → current_in (j + 1) p ≡ 0
anew j p le = let e : (p.job == j + 1) ≡ false = grind (arith, nat_tests) in rw e refl

-- the open job's records are among those of one of the jobs to come
open-le : (ls : List Label) (k : ℕ) (piece rs : List Attempt) → ticks_in ls k piece ≤ greatest (map (ticks_in ls k) (pieces_after piece rs))
open-le ls k [] [] = omega arith
open-le ls k (r ∷ piece) [] = omega arith
open-le ls k piece (r ∷ rs) =
    let more : ticks_in ls k piece ≤ ticks_in ls k (piece ++ r ∷ []) = omega (arith, count-push (λ q. part ls q.pc == k) piece r) in
    let rest = open-le ls k (piece ++ r ∷ []) rs in
    elim (ends_job r.outcome) as (λ b. ticks_in ls k piece ≤ greatest (map (ticks_in ls k) (cond b ((piece ++ r ∷ []) ∷ pieces_after [] rs) (pieces_after (piece ++ r ∷ []) rs)))) [
      | true ↦ omega (arith, more)
      | false ↦ omega (arith, more, rest)
    ]

last-one : (ls : List Label) (k m : ℕ) (piece : List Attempt) → ticks_in ls k piece ≤ m → m ≡ max m (greatest (map (ticks_in ls k) (unfinished piece)))
last-one ls k m [] le = omega arith
last-one ls k m (r ∷ piece) le = omega (arith, le)

most-all : (x : TaskCounts) (rs : List Attempt) (k : ℕ) (piece : List Attempt) → k < length x.parts → Agrees x k piece
    → most_of (at (counted_all x rs) k) ≡ max (most_of (at x k)) (greatest (map (ticks_in x.labels k) (pieces_after piece rs)))
most-all x [] k piece below agrees = last-one x.labels k (most_of (at x k)) piece agrees.most
most-all x (r ∷ rs) k piece below agrees =
    by_end (ends_job r.outcome) refl (λ qs it. most-all (counted r x) rs k qs (omega (arith, below, parts-kept r x)) it)
  where
    step : Passed x.jobs (ticks_in x.labels k (piece ++ r ∷ [])) (at x k) (at (counted r x) k)
    step = went r x k piece (part x.labels r.pc == k) below refl agrees

    by_end : (b : Bool) → ends_job r.outcome ≡ b
        → ((qs : List Attempt) → Agrees (counted r x) k qs
        → most_of (at (counted_all (counted r x) rs) k) ≡ max (most_of (at (counted r x) k)) (greatest (map (ticks_in (counted r x).labels k) (pieces_after qs rs))))
        → most_of (at (counted_all (counted r x) rs) k) ≡ max (most_of (at x k)) (greatest (map (ticks_in x.labels k) (cond b ((piece ++ r ∷ []) ∷ pieces_after [] rs) (pieces_after (piece ++ r ∷ []) rs))))
    by_end true ends all =
        let jobs : (counted r x).jobs ≡ x.jobs + 1 = counted-jobs r x true ends in
        let begun : Agrees (counted r x) k [] = record {
          current = ap (λ (j : ℕ). current_in j (at (counted r x) k)) jobs ∙ anew x.jobs (at (counted r x) k) step.job;
          most = omega arith;
          begun = step.begun;
          job = omega (arith, step.job, jobs);
        } in
        let rest : most_of (at (counted_all (counted r x) rs) k) ≡ max (most_of (at (counted r x) k)) (greatest (map (ticks_in x.labels k) (pieces_after [] rs))) =
        all [] begun ∙ ap (λ (ls : List Label). max (most_of (at (counted r x) k)) (greatest (map (ticks_in ls k) (pieces_after [] rs)))) (labels-kept r x) in
        omega (arith, rest, step.most)
    by_end false on all =
        let new = piece ++ r ∷ [] in
        let jobs : (counted r x).jobs ≡ x.jobs = counted-jobs r x false on ∙ add-zero x.jobs in
        let same : ticks_in (counted r x).labels k (piece ++ r ∷ []) ≡ ticks_in x.labels k (piece ++ r ∷ []) = ap (λ (ls : List Label). ticks_in ls k (piece ++ r ∷ [])) (labels-kept r x) in
        let goes : Agrees (counted r x) k (piece ++ r ∷ []) = record {
          current = ap (λ (j : ℕ). current_in j (at (counted r x) k)) jobs ∙ step.current ∙ sym same;
          most = omega (arith, step.most, same);
          begun = step.begun;
          job = omega (arith, step.job, jobs);
        } in
        let rest : most_of (at (counted_all (counted r x) rs) k) ≡ max (most_of (at (counted r x) k)) (greatest (map (ticks_in x.labels k) (pieces_after (piece ++ r ∷ []) rs))) =
        all new goes ∙ ap (λ (ls : List Label). max (most_of (at (counted r x) k)) (greatest (map (ticks_in ls k) (pieces_after (piece ++ r ∷ []) rs)))) (labels-kept r x) in
        omega (arith, rest, step.most, open-le x.labels k (piece ++ r ∷ []) rs)

-- from the first record on
first-part : (n k : ℕ) → part_with (replicate n no_ticks) k ≡ no_ticks
first-part zero k = refl
first-part (suc n) zero = refl
first-part (suc n) (suc k) = first-part n k

pub ticks-first : (x : TaskCounts) (n k : ℕ) (rs : List Attempt) → x.parts ≡ replicate n no_ticks → k < length x.parts → (at (counted_all x rs) k).ticks ≡ ticks_in x.labels k rs
ticks-first x n k rs parts below =
    let none : (at x k).ticks ≡ 0 = ap (λ (ps : List PartCount). (part_with ps k).ticks) parts ∙ ap (λ (p : PartCount). p.ticks) (first-part n k) in
    omega (arith, ticks-all x rs k below, none)

pub most-first : (x : TaskCounts) (n k : ℕ) (rs : List Attempt) → x.parts ≡ replicate n no_ticks → x.jobs ≡ 0 → k < length x.parts → most_of (at (counted_all x rs) k) ≡ most_in x.labels k rs
most-first x n k rs parts jobs below =
    let none : at x k ≡ no_ticks = ap (λ (ps : List PartCount). part_with ps k) parts ∙ first-part n k in
    let agrees : Agrees x k [] = record {
      current = ap (current_in x.jobs) none ∙ ap (λ (j : ℕ). current_in j no_ticks) jobs;
      most = omega arith;
      begun = omega (arith, ap (λ (p : PartCount). p.begun) none);
      job = omega (arith, ap (λ (p : PartCount). p.job) none);
    } in
    omega (arith, most-all x rs k [] below agrees, ap most_of none)
