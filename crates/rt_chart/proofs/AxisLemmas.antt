-- Ticks between those of the axis, at which nothing stands.
use Rattle.rt_chart.proofs.Common.{◌≡◌, ℕ, zero, suc, ◌+◌, ◌-◌, ◌*◌, ◌/◌, ◌%◌, ◌<◌, ◌≤◌, false, List, [], ◌++◌, refl, sym, ap, ◌∙◌, arith, append-nil, add-zero, flat_map, range_with_len, nat_tests, Look, part_at}
use Rattle.std.proofs.Common.{nat_eq}
use Rattle.std.proofs.Math.Nat.{mod-add-div', add-mod_right}
use Rattle.std.proofs.lemmas.Nat.{mod-mul-add}
use Rattle.rt_chart.specs.declared.axis.TickPart.{TickPart}
use Rattle.rt_chart.specs.Scale.{step}
use Rattle.rt_chart.proofs.PieceLemmas.{flat_map-range-more}

-- the rest of a number that lies behind a multiple
pub rest-behind : (t r s : ℕ) → t % s ≡ 0 → r < s → (t + r) % s ≡ r
rest-behind t r s multiple small =
    let whole : t ≡ t / s * s = omega (arith, mod-add-div' t s, multiple) in
    ap (λ (n : ℕ). (n + r) % s) whole ∙ mod-mul-add (t / s) s r small

-- the next multiple
pub rest-next : (t s : ℕ) → t % s ≡ 0 → (t + s) % s ≡ 0
rest-next t s multiple = add-mod_right t s ∙ multiple

-- so no number is a multiple that lies between one and the next
pub rest-between : (t j s : ℕ) → t % s ≡ 0 → t < j → j < t + s → 0 < j % s
rest-between t j s multiple behind before =
    let r = j - t in
    let at : t + r ≡ j = omega arith in
    let rest = ap (λ (n : ℕ). n % s) (sym at) ∙ rest-behind t r s multiple (omega arith) in
    omega (arith, rest)

-- none either that lies less than a step before one
pub rest-before : (t j s : ℕ) → t % s ≡ 0 → j < t → t < j + s → 0 < j % s
rest-before t j s multiple before near = positive (j % s) refl
  where
    positive : (q : ℕ) → j % s ≡ q → 0 < q
    positive zero none = absurd (omega (arith, rest-between j t s none before near, multiple))
    positive (suc q) some = omega arith

-- at such a tick nothing stands
pub part-none : (l : Look) (part : TickPart) (j : ℕ) → 0 < j % step l.window l.style → part_at l part j ≡ []
part-none l part j some =
    let test : nat_eq (j % step l.window l.style) 0 ≡ false = grind (arith, nat_tests) in
    rw test refl

-- ticks at none of which something stands
pub flat_map-gap : (f : ℕ → List ℕ) (a n k : ℕ) → ((j : ℕ) → a + n ≤ j → j < a + n + k → f j ≡ [])
    → flat_map f (range_with_len a (n + k)) ≡ flat_map f (range_with_len a n)
flat_map-gap f a n zero empty = rw add-zero refl
flat_map-gap f a n (suc k) empty =
    let here : f (a + (n + k)) ≡ [] = empty (a + (n + k)) (omega arith) (omega arith) in
    let count : n + suc k ≡ (n + k) + 1 = omega arith in
    ap (λ (m : ℕ). flat_map f (range_with_len a m)) count ∙ flat_map-range-more f a (n + k) (a + (n + k)) refl
    ∙ ap (λ (text : List ℕ). flat_map f (range_with_len a (n + k)) ++ text) here ∙ append-nil (flat_map f (range_with_len a (n + k)))
    ∙ flat_map-gap f a n k (λ j from to. empty j from (omega arith))
