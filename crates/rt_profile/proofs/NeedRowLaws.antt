-- The rows of needs that a profile tells are those of the finished jobs.
use Rattle.rt_profile.proofs.Common.{◌≡◌, ◌≢◌, ℕ, zero, suc, ◌+◌, ◌^◌, ◌<◌, ◌≤◌, ◌==◌, nat_le, nat_lt, Bool, true, false, cond, List, [], ◌∷◌, length, map, replicate, count_by, slice_index, slice_set, refl, sym, ap, subst, ◌∙◌, arith, add-zero, get_or-set_other, get_or-set_same, length-set, eqb-true, nat_tests, length-replicate, placed, bracket_count, bracket_number, number_from, with_need, kept_need, kept_needs_from}
use Rattle.rt_profile.specs.declared.need_row.NeedRow.{NeedRow}
use Rattle.rt_profile.specs.Brackets.{bracket_from, bracket_to}
use Rattle.rt_profile.specs.Needs.{brackets_with, brackets, need_row}
use Rattle.rt_profile.proofs.BracketLaws.{bracket-first, own-to, next-less, number-within, in-test, within-test}
use Rattle.rt_profile.proofs.NeedLaws.{AreSmall, with_needs}
use Rattle.rt_profile.proofs.PartLemmas.{count-cons}
use Rattle.rt_profile.proofs.WalkLemmas.{placed-before, placed-at, placed-behind}

-- ---- brackets with needs

-- the first numbers of the brackets with needs, of which the first is bracket b
abbrev pub firsts_from : ℕ → List ℕ → List ℕ
firsts_from b [] = []
firsts_from b (n ∷ ns) = cond (n == 0) (firsts_from (b + 1) ns) (number_from b ∷ firsts_from (b + 1) ns)

placed-least : (a b : ℕ) (ns : List ℕ) → a < number_from b → placed a (firsts_from b ns) ≡ a ∷ firsts_from b ns
placed-least a b [] less = refl
placed-least a b (n ∷ ns) less =
    elim (n == 0) as (λ c. placed a (cond c (firsts_from (b + 1) ns) (number_from b ∷ firsts_from (b + 1) ns)) ≡ a ∷ cond c (firsts_from (b + 1) ns) (number_from b ∷ firsts_from (b + 1) ns)) [
      | true ↦ placed-least a (b + 1) ns (omega (arith, less, next-less b))
      | false ↦ placed-before a (number_from b) (firsts_from (b + 1) ns) less
    ]

less-by : (b d : ℕ) → number_from b < number_from (b + suc d)
less-by b zero = next-less b
less-by b (suc d) =
    let at : b + suc d + 1 ≡ b + suc (suc d) = omega arith in
    let less : number_from b < number_from (b + suc d + 1) = omega (arith, less-by b d, next-less (b + suc d)) in
    subst (λ (c : ℕ). number_from b < number_from c) at less

some-first : (b n : ℕ) (ns : List ℕ) → firsts_from b ((n + 1) ∷ ns) ≡ number_from b ∷ firsts_from (b + 1) ns
some-first b n ns = let some : (n + 1 == 0) ≡ false = grind (arith, nat_tests) in rw some refl

-- a need more in bracket b + w
set-firsts : (b : ℕ) (ns : List ℕ) (w : ℕ) → w < length ns → firsts_from b (slice_set ns w (slice_index ns w + 1)) ≡ placed (number_from (b + w)) (firsts_from b ns)
set-firsts b [] w below = absurd (omega arith)
set-firsts b (n ∷ ns) zero below =
    let at : b ≡ b + 0 = omega arith in
    some-first b n ns
    ∙ (elim (n == 0) as (λ c. number_from b ∷ firsts_from (b + 1) ns ≡ placed (number_from b) (cond c (firsts_from (b + 1) ns) (number_from b ∷ firsts_from (b + 1) ns))) [
      | true ↦ sym (placed-least (number_from b) (b + 1) ns (next-less b))
      | false ↦ sym (placed-at (number_from b) (number_from b) (firsts_from (b + 1) ns) refl)
    ])
    ∙ ap (λ (a : ℕ). placed (number_from a) (firsts_from b (n ∷ ns))) at
set-firsts b (n ∷ ns) (suc w) below =
    let at : b + 1 + w ≡ b + suc w = omega arith in
    let rest : firsts_from (b + 1) (slice_set ns w (slice_index ns w + 1)) ≡ placed (number_from (b + suc w)) (firsts_from (b + 1) ns) =
    set-firsts (b + 1) ns w (omega (arith, below)) ∙ ap (λ (a : ℕ). placed (number_from a) (firsts_from (b + 1) ns)) at in
    let later = firsts_from (b + 1) (slice_set ns w (slice_index ns w + 1)) in
    elim (n == 0) as (λ c. cond c later (number_from b ∷ later) ≡ placed (number_from (b + suc w)) (cond c (firsts_from (b + 1) ns) (number_from b ∷ firsts_from (b + 1) ns))) [
      | true ↦ rest
      | false ↦ ap (λ (bs : List ℕ). number_from b ∷ bs) rest ∙ sym (placed-behind (number_from (b + suc w)) (number_from b) (firsts_from (b + 1) ns) (less-by b w))
    ]

need-firsts : (v : ℕ) (ns : List ℕ) → v < 2 ^ 41 → length ns ≡ bracket_count → firsts_from 0 (with_need v ns) ≡ placed (bracket_from v) (firsts_from 0 ns)
need-firsts v ns small size =
    let at : 0 + bracket_number v ≡ bracket_number v = omega arith in
    set-firsts 0 ns (bracket_number v) (omega (arith, number-within v small, size)) ∙ ap (λ (b : ℕ). placed (number_from b) (firsts_from 0 ns)) at
    ∙ ap (λ (a : ℕ). placed a (firsts_from 0 ns)) (bracket-first v (omega (arith, small)))

need-size : (v : ℕ) (ns : List ℕ) → length (with_need v ns) ≡ length ns
need-size v ns = length-set ns (bracket_number v) (slice_index ns (bracket_number v) + 1)

firsts-all : (ns vs : List ℕ) → length ns ≡ bracket_count → AreSmall vs → firsts_from 0 (with_needs ns vs) ≡ brackets_with (firsts_from 0 ns) vs
firsts-all ns [] size small = refl
firsts-all ns (v ∷ vs) size small =
    firsts-all (with_need v ns) vs (need-size v ns ∙ size) small.1 ∙ ap (λ (bs : List ℕ). brackets_with bs vs) (need-firsts v ns small.0 size)

-- ---- counts

pub needs-size : (ns vs : List ℕ) → length (with_needs ns vs) ≡ length ns
needs-size ns [] = refl
needs-size ns (v ∷ vs) = needs-size (with_need v ns) vs ∙ need-size v ns

need-index : (v b : ℕ) (ns : List ℕ) → b < length ns → slice_index (with_need v ns) b ≡ slice_index ns b + cond (bracket_number v == b) 1 0
need-index v b ns below =
    elim (bracket_number v == b) as (λ c. (bracket_number v == b) ≡ c → slice_index (with_need v ns) b ≡ slice_index ns b + cond c 1 0) [
      | true ↦ λ hit.
          let same : bracket_number v ≡ b = eqb-true (bracket_number v) b hit in
          ap (λ (k : ℕ). slice_index (slice_set ns k (slice_index ns k + 1)) b) same ∙ get_or-set_same ns b (slice_index ns b + 1) 0 below
      | false ↦ λ miss.
          let apart : b ≢ bracket_number v = grind (arith, nat_tests) in
          get_or-set_other ns (bracket_number v) b (slice_index ns (bracket_number v) + 1) 0 apart ∙ sym (add-zero (slice_index ns b))
    ] refl

needs-index : (ns vs : List ℕ) (b : ℕ) → b < length ns → slice_index (with_needs ns vs) b ≡ slice_index ns b + count_by (λ v. bracket_number v == b) vs
needs-index ns [] b below = sym (add-zero (slice_index ns b))
needs-index ns (v ∷ vs) b below =
    let rest = needs-index (with_need v ns) vs b (omega (arith, below, need-size v ns)) in
    omega (arith, rest, need-index v b ns below, count-cons (λ u. bracket_number u == b) v vs)

-- ---- rows

count-same : (p q : ℕ → Bool) (vs : List ℕ) → ((v : ℕ) → v < 2 ^ 41 → p v ≡ q v) → AreSmall vs → count_by p vs ≡ count_by q vs
count-same p q [] same small = refl
count-same p q (v ∷ vs) same small =
    count-cons p v vs ∙ ap (λ (b : Bool). cond b 1 0 + count_by p vs) (same v small.0) ∙ ap (λ (n : ℕ). cond (q v) 1 0 + n) (count-same p q vs same small.1)
    ∙ sym (count-cons q v vs)

one-more : (n b : ℕ) → cond (nat_lt n (b + 1)) 1 0 ≡ cond (nat_lt n b) 1 0 + cond (n == b) 1 0
one-more n b = grind (arith, nat_tests)

-- how many needs are in brackets before bracket b
abbrev pub before : List ℕ → ℕ → ℕ
before vs b = count_by (λ v. nat_lt (bracket_number v) b) vs

before-more : (vs : List ℕ) (b : ℕ) → before vs (b + 1) ≡ before vs b + count_by (λ v. bracket_number v == b) vs
before-more [] b = refl
before-more (v ∷ vs) b =
    omega (
      arith,
      count-cons (λ u. nat_lt (bracket_number u) (b + 1)) v vs,
      count-cons (λ u. nat_lt (bracket_number u) b) v vs,
      count-cons (λ u. bracket_number u == b) v vs,
      one-more (bracket_number v) b,
      before-more vs b,
    )

pub before-none : (vs : List ℕ) → before vs 0 ≡ 0
before-none [] = refl
before-none (v ∷ vs) =
    let none : nat_lt (bracket_number v) 0 ≡ false = grind (arith, nat_tests) in
    count-cons (λ u. nat_lt (bracket_number u) 0) v vs ∙ ap (λ (b : Bool). cond b 1 0 + before vs 0) none ∙ omega (arith, before-none vs)

-- a row by its numbers
abbrev made : ℕ → ℕ → ℕ → ℕ → ℕ → NeedRow
made i a z n m = record { task = i; from = a; to = z; jobs = n; within = m }

row-is : (i b : ℕ) (vs : List ℕ) → b < bracket_count → AreSmall vs
    → kept_need i b (count_by (λ v. bracket_number v == b) vs) (before vs (b + 1)) ≡ need_row i vs (number_from b)
row-is i b vs low small =
    let a = number_from b in
    let inside = count-same (λ v. bracket_number v == b) (λ v. bracket_from v == a) vs (λ v few. sym (in-test v b few low)) small in
    let up_to = count-same (λ v. nat_lt (bracket_number v) (b + 1)) (λ v. nat_le v (bracket_to a)) vs (λ v few. sym (within-test v b few low)) small in
    ap (λ (z : ℕ). made i a z (count_by (λ v. bracket_number v == b) vs) (before vs (b + 1))) (sym (own-to b low))
    ∙ ap (λ (n : ℕ). made i a (bracket_to a) n (before vs (b + 1))) inside
    ∙ ap (λ (m : ℕ). made i a (bracket_to a) (count_by (λ v. bracket_from v == a) vs) m) up_to

rows-from : (i b : ℕ) (vs ns : List ℕ) → b + length ns ≤ bracket_count → AreSmall vs
    → ((k : ℕ) → k < length ns → slice_index ns k ≡ count_by (λ v. bracket_number v == b + k) vs)
    → kept_needs_from i b (before vs b) ns ≡ map (need_row i vs) (firsts_from b ns)
rows-from i b vs [] few small counts = refl
rows-from i b vs (n ∷ ns) few small counts =
    by_count (n == 0) refl
    (rows-from i (b + 1) vs ns (omega (arith, few)) small
    (λ k below.
    let at : b + suc k ≡ b + 1 + k = omega arith in
    counts (suc k) (omega (arith, below)) ∙ ap (λ (c : ℕ). count_by (λ v. bracket_number v == c) vs) at))
  where
    mine : n ≡ count_by (λ v. bracket_number v == b) vs
    mine =
        let at : b + 0 ≡ b = omega arith in
        counts 0 (omega arith) ∙ ap (λ (c : ℕ). count_by (λ v. bracket_number v == c) vs) at

    sum : before vs b + n ≡ before vs (b + 1)
    sum = omega (arith, mine, before-more vs b)

    by_count : (c : Bool) → (n == 0) ≡ c → kept_needs_from i (b + 1) (before vs (b + 1)) ns ≡ map (need_row i vs) (firsts_from (b + 1) ns)
        → cond c (kept_needs_from i (b + 1) (before vs b) ns) (kept_need i b n (before vs b + n) ∷ kept_needs_from i (b + 1) (before vs b + n) ns)
        ≡ map (need_row i vs) (cond c (firsts_from (b + 1) ns) (number_from b ∷ firsts_from (b + 1) ns))
    by_count true none rest =
        let same : before vs b ≡ before vs (b + 1) = omega (arith, eqb-true n 0 none, sum) in
        ap (λ (m : ℕ). kept_needs_from i (b + 1) m ns) same ∙ rest
    by_count false some rest =
        ap (λ (m : ℕ). kept_need i b n m ∷ kept_needs_from i (b + 1) m ns) sum
        ∙ ap (λ (k : ℕ). kept_need i b k (before vs (b + 1)) ∷ kept_needs_from i (b + 1) (before vs (b + 1)) ns) mine
        ∙ ap (λ (rs : List NeedRow). kept_need i b (count_by (λ v. bracket_number v == b) vs) (before vs (b + 1)) ∷ rs) rest
        ∙ ap (λ (r : NeedRow). r ∷ map (need_row i vs) (firsts_from (b + 1) ns)) (row-is i b vs (omega (arith, few)) small)

-- ---- from none on

none-first : (b n : ℕ) → firsts_from b (replicate n 0) ≡ []
none-first b zero = refl
none-first b (suc n) = none-first (b + 1) n

zero-index : (n w : ℕ) → slice_index (replicate n 0) w ≡ 0
zero-index zero w = refl
zero-index (suc n) zero = refl
zero-index (suc n) (suc w) = zero-index n w

-- with the counts of these needs
pub rows-are : (i : ℕ) (ns vs : List ℕ) → ns ≡ with_needs (replicate bracket_count 0) vs → AreSmall vs → kept_needs_from i 0 0 ns ≡ map (need_row i vs) (brackets vs)
rows-are i ns vs is small =
    let first : List ℕ = replicate bracket_count 0 in
    let none : length first ≡ bracket_count = length-replicate {A = ℕ} bracket_count 0 in
    let size : length ns ≡ bracket_count = ap (λ (ms : List ℕ). length ms) is ∙ needs-size first vs ∙ none in
    ap (λ (m : ℕ). kept_needs_from i 0 m ns) (sym (before-none vs))
    ∙ rows-from i 0 vs ns (omega (arith, size)) small
    (λ k below.
    let at : 0 + k ≡ k = omega arith in
    let counted = needs-index first vs k (omega (arith, below, size, none)) in
    let same : slice_index ns k ≡ slice_index (with_needs first vs) k = ap (λ (ms : List ℕ). slice_index ms k) is in
    let one : slice_index ns k ≡ count_by (λ v. bracket_number v == k) vs = omega (arith, same, counted, zero-index bracket_count k) in
    one ∙ ap (λ (c : ℕ). count_by (λ v. bracket_number v == c) vs) (sym at))
    ∙ ap (map (need_row i vs)) (ap (firsts_from 0) is ∙ firsts-all first vs none small ∙ ap (λ (bs : List ℕ). brackets_with bs vs) (none-first 0 bracket_count))
