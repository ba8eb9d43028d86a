-- The most of one job is between 1 and all ticks, and the most of all parts sum to the longest job or more.
use Rattle.rt_profile.proofs.Common.{◌≡◌, ℕ, zero, suc, ◌+◌, ◌≤◌, ◌==◌, min, true, false, cond, List, [], ◌∷◌, ◌++◌, length, map, count_by, None, refl, ap, ◌∙◌, arith, sum_by, sum, nat_tests, sum_by-cons, Label, SetTask, Attempt, Record, ends_job, attempts, part, PartRow, pcs, ticks_in, row_at, firsts}
use Rattle.std.proofs.Common.{All}
use Rattle.std.proofs.lemmas.List.Elements.{All-cons}
use Rattle.std.proofs.lemmas.List.Sums.{sum-map, sum_by-le-sum_by}
use Rattle.rt_profile.specs.Attempts.{pieces_after, pieces}
use Rattle.rt_profile.specs.Rows.{greatest, most_in, task_rows}
use Rattle.rt_profile.proofs.PartLemmas.{count-cons, count-push}
use Rattle.rt_profile.proofs.laws.SumLemmas.{sum-keys}
use Rattle.rt_profile.proofs.laws.PartLaws.{rows-once}

-- ---- jobs

pieces-sum : (ls : List Label) (k : ℕ) (piece rs : List Attempt) → sum_by (ticks_in ls k) (pieces_after piece rs) ≡ ticks_in ls k piece + ticks_in ls k rs
pieces-sum ls k [] [] = refl
pieces-sum ls k (a ∷ piece) [] = omega (arith, sum_by-cons (ticks_in ls k) (a ∷ piece) [])
pieces-sum ls k piece (a ∷ rs) =
    let more = count-push (λ r. part ls r.pc == k) piece a in
    let first = count-cons (λ r. part ls r.pc == k) a rs in
    let done = pieces-sum ls k [] rs in
    let on = pieces-sum ls k (piece ++ a ∷ []) rs in
    elim (ends_job a.outcome) as (λ b. sum_by (ticks_in ls k) (cond b ((piece ++ a ∷ []) ∷ pieces_after [] rs) (pieces_after (piece ++ a ∷ []) rs)) ≡ ticks_in ls k piece + ticks_in ls k (a ∷ rs)) [
      | true ↦ omega (arith, sum_by-cons (ticks_in ls k) (piece ++ a ∷ []) (pieces_after [] rs), more, first, done)
      | false ↦ omega (arith, more, first, on)
    ]

greatest-sum : (ns : List ℕ) → greatest ns ≤ sum ns
greatest-sum [] = omega arith
greatest-sum (n ∷ ns) = omega (arith, sum_by-cons (λ k. k) n ns, greatest-sum ns)

greatest-some : (ns : List ℕ) → 1 ≤ sum ns → 1 ≤ greatest ns
greatest-some [] some = omega (arith, some)
greatest-some (zero ∷ ns) some =
    let rest : 1 ≤ sum ns = omega (arith, some, sum_by-cons (λ k. k) 0 ns) in
    omega (arith, greatest-some ns rest)
greatest-some (suc n ∷ ns) some = omega arith

-- ---- each row

between : (i : ℕ) (ls : List Label) (a : ℕ) (rs : List Attempt) → 1 ≤ ticks_in ls (part ls a) rs → (1 ≤ (row_at i ls rs a).most) × ((row_at i ls rs a).most ≤ (row_at i ls rs a).ticks)
between i ls a rs some =
    let k = part ls a in
    let ns = map (ticks_in ls k) (pieces rs) in
    let all : sum ns ≡ ticks_in ls k rs = omega (arith, sum-map (ticks_in ls k) (pieces rs), pieces-sum ls k [] rs) in
    (greatest-some ns (omega (arith, some, all)), omega (arith, greatest-sum ns, all))

rows-between : (i : ℕ) (ls : List Label) (rs : List Attempt) (fs : List ℕ) → ((k : ℕ) → count_by (λ a. k == part ls a) fs ≤ ticks_in ls k rs)
    → All (λ r. (1 ≤ r.most) × (r.most ≤ r.ticks)) (map (row_at i ls rs) fs)
rows-between i ls rs [] few = λ j d below. absurd (omega arith)
rows-between i ls rs (a ∷ fs) few =
    let k = part ls a in
    let own : (k == k) ≡ true = grind (arith, nat_tests) in
    let mine : count_by (λ b. k == part ls b) (a ∷ fs) ≡ 1 + count_by (λ b. k == part ls b) fs =
    count-cons (λ b. k == part ls b) a fs ∙ ap (λ c. cond c 1 0 + count_by (λ b. k == part ls b) fs) own in
    All-cons (λ (r : PartRow). (1 ≤ r.most) × (r.most ≤ r.ticks)) (row_at i ls rs a) (map (row_at i ls rs) fs) (between i ls a rs (omega (arith, few k, mine)))
    (rows-between i ls rs fs (λ j. omega (arith, few j, count-cons (λ b. j == part ls b) a fs)))

pub each-between : (i : ℕ) (s : SetTask) (h : List Record) → All (λ r. (1 ≤ r.most) × (r.most ≤ r.ticks)) (task_rows i s h)
each-between i s h =
    let ls = s.object.labels in
    let rs = attempts i h in
    rows-between i ls rs (firsts ls None (pcs rs)) (λ k. omega (arith, rows-once ls k rs))

-- ---- all rows

pub sum-of-rows : (f : PartRow → ℕ) (g : ℕ → PartRow) (fs : List ℕ) → sum_by f (map g fs) ≡ sum_by (λ a. f (g a)) fs
sum-of-rows f g [] = refl
sum-of-rows f g (a ∷ fs) = omega (arith, sum_by-cons f (g a) (map g fs), sum_by-cons (λ b. f (g b)) a fs, sum-of-rows f g fs)

longest-within : (ls : List Label) (rs : List Attempt) (fs : List ℕ) (ps : List (List Attempt)) → ((k : ℕ) → count_by (λ a. k == part ls a) fs ≡ min 1 (ticks_in ls k rs))
    → ((k : ℕ) → greatest (map (ticks_in ls k) ps) ≤ most_in ls k rs) → ((k : ℕ) → sum_by (ticks_in ls k) ps ≤ ticks_in ls k rs)
    → greatest (map (λ p. length p) ps) ≤ sum_by (λ a. most_in ls (part ls a) rs) fs
longest-within ls rs fs [] once most few = omega arith
longest-within ls rs fs (p ∷ ps) once most few =
    let size : sum_by (λ a. ticks_in ls (part ls a) p) fs ≡ length p =
    sum-keys (λ r. part ls r.pc) (part ls) fs rs p once (λ k. omega (arith, few k, sum_by-cons (ticks_in ls k) p ps)) in
    let le = sum_by-le-sum_by (λ a. ticks_in ls (part ls a) p) (λ a. most_in ls (part ls a) rs) fs (λ a. omega (arith, most (part ls a))) in
    let rest = longest-within ls rs fs ps once (λ k. omega (arith, most k)) (λ k. omega (arith, few k, sum_by-cons (ticks_in ls k) p ps)) in
    omega (arith, size, le, rest)

pub longest-sum : (i : ℕ) (s : SetTask) (h : List Record) → greatest (map (λ p. length p) (pieces (attempts i h))) ≤ sum_by (λ r. r.most) (task_rows i s h)
longest-sum i s h =
    let ls = s.object.labels in
    let rs = attempts i h in
    let fs = firsts ls None (pcs rs) in
    let rows = sum-of-rows (λ r. r.most) (row_at i ls rs) fs in
    omega (arith, rows, longest-within ls rs fs (pieces rs) (λ k. rows-once ls k rs) (λ k. omega arith) (λ k. omega (arith, pieces-sum ls k [] rs)))
