-- Each part with a record has one row.
use Rattle.rt_profile.proofs.Common.{◌≡◌, ℕ, ◌+◌, ◌<◌, ◌≤◌, ◌==◌, nat_le, min, Bool, true, false, cond, List, [], ◌∷◌, count_by, Option, Some, None, refl, sym, ap, ◌∙◌, arith, sum_by, nat_tests, Label, Attempt, part, pcs, ticks_at, ticks_in, begins, firsts}
use Rattle.std.specs.List.{filter}
use Rattle.rt_profile.proofs.PartLemmas.{count-cons}
use Rattle.rt_profile.proofs.laws.SumLemmas.{one_if, sum-filter}
use Rattle.rt_profile.proofs.laws.AddressLaws.{Above, Rises, pcs-rise, pcs-once, pcs-some}

-- ---- parts rise with their addresses

part-rises : (ls : List Label) (a b : ℕ) → a ≤ b → part ls a ≤ part ls b
part-rises [] a b le = omega arith
part-rises (l ∷ ls) a b le =
    let one : one_if (nat_le l.address a) ≤ one_if (nat_le l.address b) = grind (arith, nat_tests) in
    omega (arith, one, count-cons (λ m. nat_le m.address a) l ls, count-cons (λ m. nat_le m.address b) l ls, part-rises ls a b le)

-- no part of these is below part j
abbrev AtLeast : List Label → ℕ → List ℕ → Type 0
AtLeast ls j [] = Unit {0}
AtLeast ls j (b ∷ bs) = (j ≤ part ls b) × AtLeast ls j bs

above-parts : (ls : List Label) (a : ℕ) (bs : List ℕ) → Above a bs → AtLeast ls (part ls a) bs
above-parts ls a [] above = tt
above-parts ls a (b ∷ bs) above = (part-rises ls a b (omega (arith, above.0)), above-parts ls a bs above.1)

-- how many of these are in part k
abbrev among : List Label → ℕ → List ℕ → ℕ
among ls k bs = count_by (λ b. k == part ls b) bs

among-cons : (ls : List Label) (k b : ℕ) (bs : List ℕ) (c : Bool) → (k == part ls b) ≡ c → among ls k (b ∷ bs) ≡ one_if c + among ls k bs
among-cons ls k b bs c is = count-cons (λ j. k == part ls j) b bs ∙ ap (λ (d : Bool). one_if d + among ls k bs) is

none-later : (ls : List Label) (k p : ℕ) (bs : List ℕ) → k < p → AtLeast ls p bs → among ls k bs ≡ 0
none-later ls k p [] less least = refl
none-later ls k p (b ∷ bs) less least =
    let le : p ≤ part ls b = least.0 in
    let apart : (k == part ls b) ≡ false = grind (arith, nat_tests) in
    omega (arith, among-cons ls k b bs false apart, none-later ls k p bs less least.1)

-- ---- the first addresses of parts

abbrev Behind : List Label → Option ℕ → List ℕ → Type 0
Behind ls None bs = Unit {0}
Behind ls (Some j) bs = AtLeast ls j bs

begins-own : (k : ℕ) → begins (Some k) k ≡ false
begins-own k = let e : (k == k) ≡ true = grind (arith, nat_tests) in rw e refl

begins-other : (j k : ℕ) → (k == j) ≡ false → begins (Some j) k ≡ true
begins-other j k apart = let e : (j == k) ≡ false = grind (arith, nat_tests) in rw e refl

firsts-count : (ls : List Label) (k : ℕ) (before : Option ℕ) (bs : List ℕ) → Rises bs → Behind ls before bs
    → among ls k (firsts ls before bs) ≡ cond (begins before k) (min 1 (among ls k bs)) 0
firsts-count ls k before [] rises behind = elim (begins before k) as (λ b. 0 ≡ cond b (min 1 0) 0) [ true ↦ refl | false ↦ refl ]
firsts-count ls k before (a ∷ bs) rises behind = by_before before behind (k == part ls a) refl (firsts-count ls k (Some (part ls a)) bs rises.1 later)
  where
    later : AtLeast ls (part ls a) bs
    later = above-parts ls a bs rises.0

    -- how many of the later ones
    others : (c : Bool) → (k == part ls a) ≡ c → among ls k (firsts ls (Some (part ls a)) bs) ≡ cond (begins (Some (part ls a)) k) (min 1 (among ls k bs)) 0
        → among ls k (firsts ls (Some (part ls a)) bs) ≡ cond c 0 (min 1 (among ls k bs))
    others true is all =
        let same : k ≡ part ls a = grind (arith, nat_tests) in
        let own : begins (Some (part ls a)) k ≡ false = ap (begins (Some (part ls a))) same ∙ begins-own (part ls a) in
        all ∙ ap (λ (b : Bool). cond b (min 1 (among ls k bs)) 0) own
    others false is all = all ∙ ap (λ (b : Bool). cond b (min 1 (among ls k bs)) 0) (begins-other (part ls a) k is)

    by_place : (j : ℕ) → AtLeast ls j (a ∷ bs) → (c d e : Bool) → (k == part ls a) ≡ c → (j == part ls a) ≡ d → (j == k) ≡ e
        → among ls k (firsts ls (Some (part ls a)) bs) ≡ cond c 0 (min 1 (among ls k bs))
        → among ls k (cond (cond d false true) (a ∷ firsts ls (Some (part ls a)) bs) (firsts ls (Some (part ls a)) bs)) ≡ cond (cond e false true) (min 1 (among ls k (a ∷ bs))) 0
    by_place j least true true true f g h all = all
    by_place j least true true false f g h all = absurd (grind (arith, nat_tests))
    by_place j least true false true f g h all = absurd (grind (arith, nat_tests))
    by_place j least true false false f g h all = omega (arith, all, among-cons ls k a (firsts ls (Some (part ls a)) bs) true f, among-cons ls k a bs true f)
    by_place j least false true true f g h all = absurd (grind (arith, nat_tests))
    by_place j least false true false f g h all = omega (arith, all, among-cons ls k a bs false f)
    by_place j least false false true f g h all =
        let le : j ≤ part ls a = least.0 in
        let less : k < part ls a = grind (arith, nat_tests) in
        omega (arith, all, among-cons ls k a (firsts ls (Some (part ls a)) bs) false f, none-later ls k (part ls a) bs less later)
    by_place j least false false false f g h all = omega (arith, all, among-cons ls k a (firsts ls (Some (part ls a)) bs) false f, among-cons ls k a bs false f)

    by_none : (c : Bool) → (k == part ls a) ≡ c → among ls k (firsts ls (Some (part ls a)) bs) ≡ cond c 0 (min 1 (among ls k bs))
        → among ls k (a ∷ firsts ls (Some (part ls a)) bs) ≡ min 1 (among ls k (a ∷ bs))
    by_none true f all = omega (arith, all, among-cons ls k a (firsts ls (Some (part ls a)) bs) true f, among-cons ls k a bs true f)
    by_none false f all = omega (arith, all, among-cons ls k a (firsts ls (Some (part ls a)) bs) false f, among-cons ls k a bs false f)

    by_before : (o : Option ℕ) → Behind ls o (a ∷ bs) → (c : Bool) → (k == part ls a) ≡ c
        → among ls k (firsts ls (Some (part ls a)) bs) ≡ cond (begins (Some (part ls a)) k) (min 1 (among ls k bs)) 0
        → among ls k (cond (begins o (part ls a)) (a ∷ firsts ls (Some (part ls a)) bs) (firsts ls (Some (part ls a)) bs)) ≡ cond (begins o k) (min 1 (among ls k (a ∷ bs))) 0
    by_before None least c f all = by_none c f (others c f all)
    by_before (Some j) least c f all = by_place j least c (j == part ls a) (j == k) f refl refl (others c f all)

pub rows-once : (ls : List Label) (k : ℕ) (rs : List Attempt) → among ls k (firsts ls None (pcs rs)) ≡ min 1 (ticks_in ls k rs)
rows-once ls k rs =
    let some = pcs-some (λ b. k == part ls b) rs in
    let turned : count_by (λ r. k == part ls r.pc) rs ≡ ticks_in ls k rs = turn rs in
    omega (arith, firsts-count ls k None (pcs rs) (pcs-rise rs) tt, some, turned)
  where
    turn : (qs : List Attempt) → count_by (λ r. k == part ls r.pc) qs ≡ ticks_in ls k qs
    turn [] = refl
    turn (q ∷ qs) =
        let one : one_if (k == part ls q.pc) ≡ one_if (part ls q.pc == k) = grind (arith, nat_tests) in
        omega (arith, one, count-cons (λ r. k == part ls r.pc) q qs, count-cons (λ r. part ls r.pc == k) q qs, turn qs)

-- the ticks of a part by the addresses in it
pub part-sum : (ls : List Label) (k : ℕ) (rs : List Attempt) → ticks_in ls k rs ≡ sum_by (ticks_at rs) (filter (λ b. part ls b == k) (pcs rs))
part-sum ls k rs = sym (sum-filter (λ r. r.pc) (λ b. part ls b == k) (pcs rs) rs rs (λ x. pcs-once x rs) (λ x. omega arith))
