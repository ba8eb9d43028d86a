-- The rows of needs count each finished job once.
use Rattle.rt_profile.proofs.Common.{◌≡◌, ℕ, zero, suc, ◌+◌, ◌<◌, ◌≤◌, ◌==◌, true, false, cond, List, [], ◌∷◌, length, map, replicate, slice_index, refl, sym, ap, ◌∙◌, arith, length-set, sum_by, sum, eqb-true, length-map, length-replicate, sum_by-cons, tick_limit, SetTask, Record, attempts, bracket_count, bracket_number, with_need, kept_need, kept_needs_from}
use Rattle.std.proofs.lemmas.List.Sums.{sum_by-set}
use Rattle.rt_history.specs.OwnPart.{own}
use Rattle.rt_history.specs.Job.{Job, jobs}
use Rattle.rt_report.specs.Rows.{row_of}
use Rattle.rt_profile.specs.Needs.{brackets, need_row, task_needs}
use Rattle.rt_profile.proofs.BracketLaws.{number-within}
use Rattle.rt_profile.proofs.NeedLaws.{needs_after, needs-are, AreSmall, small-needs, length-attempts, with_needs}
use Rattle.rt_profile.proofs.NeedRowLaws.{rows-are}
use Rattle.rt_profile.specs.laws.Sums.{last_of}

-- ---- rows of counts

jobs-sum : (i b m : ℕ) (ns : List ℕ) → sum_by (λ r. r.jobs) (kept_needs_from i b m ns) ≡ sum ns
jobs-sum i b m [] = refl
jobs-sum i b m (n ∷ ns) =
    let first = sum_by-cons (λ (k : ℕ). k) n ns in
    elim (n == 0) as (λ c. (n == 0) ≡ c → sum_by (λ r. r.jobs) (cond c (kept_needs_from i (b + 1) m ns) (kept_need i b n (m + n) ∷ kept_needs_from i (b + 1) (m + n) ns)) ≡ sum (n ∷ ns)) [
      | true ↦ λ none. omega (arith, first, eqb-true n 0 none, jobs-sum i (b + 1) m ns)
      | false ↦ λ some. omega (arith, first, sum_by-cons (λ r. r.jobs) (kept_need i b n (m + n)) (kept_needs_from i (b + 1) (m + n) ns), jobs-sum i (b + 1) (m + n) ns)
    ] refl

last-sum : (i b m : ℕ) (ns : List ℕ) → last_of m (map (λ r. r.within) (kept_needs_from i b m ns)) ≡ m + sum ns
last-sum i b m [] = omega arith
last-sum i b m (n ∷ ns) =
    let first = sum_by-cons (λ (k : ℕ). k) n ns in
    elim (n == 0) as (λ c. (n == 0) ≡ c → last_of m (map (λ r. r.within) (cond c (kept_needs_from i (b + 1) m ns) (kept_need i b n (m + n) ∷ kept_needs_from i (b + 1) (m + n) ns))) ≡ m + sum (n ∷ ns)) [
      | true ↦ λ none. omega (arith, first, eqb-true n 0 none, last-sum i (b + 1) m ns)
      | false ↦ λ some. omega (arith, first, last-sum i (b + 1) (m + n) ns)
    ] refl

-- ---- counts

need-sum : (v : ℕ) (ns : List ℕ) → bracket_number v < length ns → sum (with_need v ns) ≡ sum ns + 1
need-sum v ns below = omega (arith, sum_by-set (λ (k : ℕ). k) ns (bracket_number v) (slice_index ns (bracket_number v) + 1) 0 below)

need-size : (v : ℕ) (ns : List ℕ) → length (with_need v ns) ≡ length ns
need-size v ns = length-set ns (bracket_number v) (slice_index ns (bracket_number v) + 1)

needs-sum : (ns vs : List ℕ) → length ns ≡ bracket_count → AreSmall vs → sum (with_needs ns vs) ≡ sum ns + length vs
needs-sum ns [] size small = omega arith
needs-sum ns (v ∷ vs) size small =
    let below : bracket_number v < length ns = omega (arith, size, number-within v small.0) in
    omega (arith, need-sum v ns below, needs-sum (with_need v ns) vs (need-size v ns ∙ size) small.1)

none-sum : (n : ℕ) → sum (replicate n 0) ≡ 0
none-sum zero = refl
none-sum (suc n) = omega (arith, sum_by-cons (λ (k : ℕ). k) 0 (replicate n 0), none-sum n)

-- ---- the rows of a task

total : (vs : List ℕ) → AreSmall vs → sum (with_needs (replicate bracket_count 0) vs) ≡ length vs
total vs small = omega (arith, needs-sum (replicate bracket_count 0) vs (length-replicate {A = ℕ} bracket_count 0) small, none-sum bracket_count)

small-of : (i : ℕ) (s : SetTask) (h : List Record) → length h ≤ tick_limit → AreSmall (needs_after 0 (attempts i h))
small-of i s h few = small-needs 0 (attempts i h) (omega (arith, few, length-attempts i h))

rows-of : (i : ℕ) (s : SetTask) (h : List Record) → length h ≤ tick_limit
    → kept_needs_from i 0 0 (with_needs (replicate bracket_count 0) (needs_after 0 (attempts i h))) ≡ task_needs i s h
rows-of i s h few =
    let vs = needs_after 0 (attempts i h) in
    rows-are i (with_needs (replicate bracket_count 0) vs) vs refl (small-of i s h few) ∙ ap (λ (us : List ℕ). map (need_row i us) (brackets us)) (sym (needs-are i s h))

count-of : (i : ℕ) (s : SetTask) (h : List Record) → length (needs_after 0 (attempts i h)) ≡ (row_of i s (own i h)).jobs
count-of i s h = ap (λ (vs : List ℕ). length vs) (sym (needs-are i s h)) ∙ length-map (jobs s (own i h)) (λ (j : Job). j.ticks)

pub jobs-counted : (i : ℕ) (s : SetTask) (h : List Record) → length h ≤ tick_limit → sum_by (λ r. r.jobs) (task_needs i s h) ≡ (row_of i s (own i h)).jobs
jobs-counted i s h few =
    let vs = needs_after 0 (attempts i h) in
    ap (λ rows. sum_by (λ r. r.jobs) rows) (sym (rows-of i s h few)) ∙ jobs-sum i 0 0 (with_needs (replicate bracket_count 0) vs) ∙ total vs (small-of i s h few) ∙ count-of i s h

pub last-counted : (i : ℕ) (s : SetTask) (h : List Record) → length h ≤ tick_limit → last_of 0 (map (λ r. r.within) (task_needs i s h)) ≡ (row_of i s (own i h)).jobs
last-counted i s h few =
    let vs = needs_after 0 (attempts i h) in
    let ns = with_needs (replicate bracket_count 0) vs in
    let rows = ap (λ rows. last_of 0 (map (λ r. r.within) rows)) (rows-of i s h few) in
    omega (arith, rows, last-sum i 0 0 ns, total vs (small-of i s h few), count-of i s h)
