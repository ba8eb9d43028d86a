-- The parts of addresses that rise.
use Rattle.rt_waves.proofs.Common.{◌≡◌, ℕ, zero, suc, ◌-◌, ◌^◌, ◌<◌, ◌≤◌, ◌==◌, nat_le, nat_lt, true, false, cond, List, [], ◌∷◌, length, map, get_or, All, inl, inr, refl, sym, ap, arith, cases_Bool, cases_lt, nat_tests, All-nil, All-cons, All-head, All-tail}
use Rattle.std.proofs.Common.{max, slice_index, ◌⊎◌}
use Rattle.std.specs.List.Sorted.{IsPermutation, IsNonDecreasing}
use Rattle.std.proofs.lemmas.List.Sorted.{IsPermutation-sym, All-permutation}
use Rattle.rt_waves.specs.declared.parts.Part.{Part}
use Rattle.rt_waves.specs.Waves.{greatest_upto}
use Rattle.rt_image.specs.declared.object.Symbol.{Symbol}
use Rattle.rt_image.specs.ObjectFile.{labels}
use Rattle.rt_waves.specs.Working.Ordered.{addresses, IsPartOf, begin_at, end_at}

-- no address at most a is greater
abbrev Bounds : ℕ → ℕ → ℕ → Type 0
Bounds a m b = b ≤ a → b ≤ m

bounds-all : (a : ℕ) (bs : List ℕ) → All (Bounds a (greatest_upto a bs)) bs
bounds-all a [] = All-nil (Bounds a 0)
bounds-all a (b ∷ bs) =
    All-cons (Bounds a (greatest_upto a (b ∷ bs))) b bs
    (λ low. let is : nat_le b a ≡ true = grind (arith, nat_tests) in rw is (omega arith))
    (λ k d below. λ low.
    let before : get_or bs k d ≤ greatest_upto a bs = bounds-all a bs k d below low in
    elim (nat_le b a) as (λ t. get_or bs k d ≤ cond t (max b (greatest_upto a bs)) (greatest_upto a bs)) [ true ↦ omega (arith, before) | false ↦ before ])

-- and the greatest is no greater than what bounds all
greatest-le : (a m : ℕ) (bs : List ℕ) → All (Bounds a m) bs → greatest_upto a bs ≤ m
greatest-le a m [] all = omega arith
greatest-le a m (b ∷ bs) all =
    let rest = greatest-le a m bs (All-tail (Bounds a m) b bs all) in
    elim (cases_Bool (nat_le b a)) [
      | inl is ↦ let low : b ≤ a = grind (arith, nat_tests) in let first = All-head (Bounds a m) b bs all low in rw is (omega (arith, rest, first))
      | inr over ↦ rw over rest
    ]

-- the order of addresses doesn't matter
pub greatest-permuted : (a : ℕ) (bs places : List ℕ) → IsPermutation bs places → greatest_upto a places ≡ greatest_upto a bs
greatest-permuted a bs places moved =
    let up = greatest-le a (greatest_upto a bs) places (All-permutation (Bounds a (greatest_upto a bs)) bs places moved (bounds-all a bs)) in
    let down = greatest-le a (greatest_upto a places) bs (All-permutation (Bounds a (greatest_upto a places)) places bs (IsPermutation-sym bs places moved) (bounds-all a places)) in
    omega (arith, up, down)

-- ---- the part around an address

-- an element is the same by each default
by_default : (xs : List ℕ) (k d e : ℕ) → k < length xs → get_or xs k d ≡ get_or xs k e
by_default [] k d e below = absurd (omega arith)
by_default (x ∷ xs) zero d e below = refl
by_default (x ∷ xs) (suc k) d e below = by_default xs k d e (omega arith)

-- the first n addresses are at most the begin of a part, the others at least its end, and one of them is its begin, unless that is 0
pub part-of : (places : List ℕ) (n : ℕ) (part : Part) → ((k : ℕ) → k < n → k < length places → slice_index places k ≤ part.begin)
    → ((k : ℕ) → n ≤ k → k < length places → part.end ≤ slice_index places k)
    → (part.begin ≡ 0) ⊎ ((k : ℕ) × (k < length places) × (slice_index places k ≡ part.begin)) → IsPartOf places part
part-of places n part low high hit a from to =
    let up = greatest-le a part.begin places (λ k d below. λ le. each k d below le) in
    elim hit [
      | inl none ↦ omega (arith, up, none)
      | inr found ↦
          let b = bounds-all a places found.0 0 found.1 in
          let down = b (omega (arith, found.2, from)) in
          omega (arith, up, down, found.2)
    ]
  where
    each : (k d : ℕ) → k < length places → get_or places k d ≤ a → get_or places k d ≤ part.begin
    each k d below le =
        let is = by_default places k d 0 below in
        elim (cases_lt k n) [
          | inl first ↦ omega (arith, is, low k first below)
          | inr other ↦ absurd (omega (arith, is, high k other below, le, to))
        ]

begin-some : (places : List ℕ) (n : ℕ) → begin_at places (suc n) ≡ slice_index places (suc n - 1)
begin-some places n = let no : (suc n == 0) ≡ false = grind (arith, nat_tests) in rw no refl

-- an address between the first n, which are at most this address, and the others, which are above it
pub around-begin : (places : List ℕ) (n address : ℕ) → ((k : ℕ) → k < n → slice_index places k ≤ address) → begin_at places n ≤ address
around-begin places zero address upto = omega arith
around-begin places (suc n) address upto = let below : suc n - 1 < suc n = omega arith in rw (begin-some places n) (upto (suc n - 1) below)

pub around-end : (places : List ℕ) (n address : ℕ) → address < 2 ^ 32 → ((k : ℕ) → n ≤ k → k < length places → address < slice_index places k) → address < end_at places n
around-end places n address small above =
    elim (cases_lt n (length places)) [
      | inl within ↦ let is : nat_lt n (length places) ≡ true = grind (arith, nat_tests) in rw is (above n (omega arith) within)
      | inr past ↦ let is : nat_lt n (length places) ≡ false = grind (arith, nat_tests) in rw is small
    ]

first-low : (places : List ℕ) (n : ℕ) → IsNonDecreasing places → n ≤ length places → (k : ℕ) → k < n → k < length places → slice_index places k ≤ begin_at places n
first-low places zero rise within k first below = absurd (omega arith)
first-low places (suc n) rise within k first below =
    let last : k ≤ suc n - 1 = omega arith in
    let inside : suc n - 1 < length places = omega arith in
    rw (begin-some places n) (rise k (suc n - 1) 0 last inside)

others-high : (places : List ℕ) (n : ℕ) → IsNonDecreasing places → (k : ℕ) → n ≤ k → k < length places → end_at places n ≤ slice_index places k
others-high places n rise k from below =
    let is : nat_lt n (length places) ≡ true = grind (arith, nat_tests) in
    rw is (rise n k 0 from below)

begin-hit : (places : List ℕ) (n : ℕ) → n ≤ length places → (begin_at places n ≡ 0) ⊎ ((k : ℕ) × (k < length places) × (slice_index places k ≡ begin_at places n))
begin-hit places zero within = inl refl
begin-hit places (suc n) within = inr (suc n - 1, omega arith, sym (begin-some places n))

pub around-part : (places : List ℕ) (n : ℕ) (part : Part) → IsNonDecreasing places → n ≤ length places → part.begin ≡ begin_at places n → part.end ≡ end_at places n → IsPartOf places part
around-part places n part rise within begins ends =
    part-of places n part
    (λ k first below. rw begins (first-low places n rise within k first below))
    (λ k from below. rw ends (others-high places n rise k from below))
    (rw begins (begin-hit places n within))

pub addresses-of : (ss : List Symbol) → map (λ s. s.address) ss ≡ addresses (labels ss)
addresses-of [] = refl
addresses-of (s ∷ ss) = ap (λ (bs : List ℕ). s.address ∷ bs) (addresses-of ss)
