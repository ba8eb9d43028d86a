-- The blocks of a window, and what a sink that has failed is offered.
use Rattle.rt_waves.proofs.Common.{◌≡◌, ℕ, zero, suc, ◌+◌, ◌-◌, ◌≤◌, nat_lt, true, false, List, [], ◌++◌, refl, sym, ap, ◌∙◌, arith, flat_map, range_with_len, nat_tests, TaskSet, Offers, block, told_block}
use Rattle.rt_sink.specs.Seen.{Seen}
use Rattle.rt_waves.proofs.BlockLemmas.{range-append}

-- a sink that has failed takes nothing of any text
pub offers-any : {S : Type 0} (seen : S → Seen) (k : ℕ) (a : S) (xs ys : List ℕ) (m : ℕ) (b : S)
    → (seen a).failed ≡ true → Offers seen k a xs m b → Offers seen k a ys m b
offers-any seen k a xs ys m b shut p = record {
  stays = p.stays;
  whole = λ opened. let same = (p.stays shut).0 in let was : (seen b).failed ≡ true = ap (λ s. (seen s).failed) same ∙ shut in absurd cc;
  stopped = λ opened closed. absurd cc;
}

none-before : (set : TaskSet) (from u n : ℕ) → u + n ≤ from → flat_map (told_block set from) (range_with_len u n) ≡ []
none-before set from u zero within = refl
none-before set from u (suc n) within =
    let early : nat_lt u from ≡ true = grind (arith, nat_tests) in
    let one : told_block set from u ≡ [] = rw early refl in
    ap (λ (xs : List ℕ). xs ++ flat_map (told_block set from) (range_with_len (u + 1) n)) one ∙ none-before set from (u + 1) n (omega arith)

all-behind : (set : TaskSet) (from u n : ℕ) → from ≤ u → flat_map (told_block set from) (range_with_len u n) ≡ flat_map (block set from) (range_with_len u n)
all-behind set from u zero late = refl
all-behind set from u (suc n) late =
    let come : nat_lt u from ≡ false = grind (arith, nat_tests) in
    let one : told_block set from u ≡ block set from u = rw come refl in
    ap (λ (xs : List ℕ). xs ++ flat_map (told_block set from) (range_with_len (u + 1) n)) one
    ∙ ap (λ (xs : List ℕ). block set from u ++ xs) (all-behind set from (u + 1) n (omega arith))

-- up to the end of a window its blocks are told
pub window-text : (set : TaskSet) (from n : ℕ) → flat_map (told_block set from) (range_with_len 0 (from + n)) ≡ flat_map (block set from) (range_with_len from n)
window-text set from n =
    let at : 0 + from ≡ from = omega arith in
    range-append (told_block set from) 0 from n
    ∙ ap (λ (xs : List ℕ). xs ++ flat_map (told_block set from) (range_with_len (0 + from) n)) (none-before set from 0 from (omega arith))
    ∙ ap (λ (u : ℕ). flat_map (told_block set from) (range_with_len u n)) at
    ∙ all-behind set from from n (omega arith)

-- and up to a later tick
pub more-text : (set : TaskSet) (from t u m : ℕ) → u ≡ t + m → flat_map (told_block set from) (range_with_len 0 t) ++ flat_map (told_block set from) (range_with_len t m) ≡ flat_map (told_block set from) (range_with_len 0 u)
more-text set from t u m same =
    let at : 0 + t ≡ t = omega arith in
    ap (λ (v : ℕ). flat_map (told_block set from) (range_with_len 0 t) ++ flat_map (told_block set from) (range_with_len v m)) (sym at)
    ∙ sym (range-append (told_block set from) 0 t m) ∙ ap (λ (v : ℕ). flat_map (told_block set from) (range_with_len 0 v)) (sym same)

-- before any tick there is none
pub none-yet : (set : TaskSet) (from t : ℕ) → flat_map (told_block set from) (range_with_len t (t - t)) ≡ []
none-yet set from t = let none : t - t ≡ 0 = omega arith in ap (λ (n : ℕ). flat_map (told_block set from) (range_with_len t n)) none

-- the blocks from a tick on, and on to a later one
pub on-text : (set : TaskSet) (from s t u : ℕ) → s ≤ t → t ≤ u
    → flat_map (told_block set from) (range_with_len s (t - s)) ++ flat_map (told_block set from) (range_with_len t (u - t)) ≡ flat_map (told_block set from) (range_with_len s (u - s))
on-text set from s t u one two =
    let at : s + (t - s) ≡ t = omega arith in
    let sum : (t - s) + (u - t) ≡ u - s = omega arith in
    ap (λ (v : ℕ). flat_map (told_block set from) (range_with_len s (t - s)) ++ flat_map (told_block set from) (range_with_len v (u - t))) (sym at)
    ∙ sym (range-append (told_block set from) s (t - s) (u - t)) ∙ ap (λ (n : ℕ). flat_map (told_block set from) (range_with_len s n)) sum
