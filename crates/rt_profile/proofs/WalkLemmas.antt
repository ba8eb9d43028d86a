-- The addresses with ticks, one word more.
use Rattle.rt_profile.proofs.Common.{◌≡◌, ◌≢◌, ℕ, zero, suc, ◌+◌, ◌-◌, ◌*◌, ◌/◌, ◌%◌, ◌<◌, ◌≤◌, ◌==◌, nat_le, nat_lt, Bool, true, false, cond, List, [], ◌∷◌, length, drop, get_or, Option, Some, None, refl, sym, ap, ◌∙◌, arith, add-zero, leb-true, nat_tests, base, placed, word_at, executed_from, with_outside}
use Rattle.std.proofs.Common.{◌&&◌, MatchOption, add-one, drop-cons}
use Rattle.std.proofs.lemmas.Bool.{ltb-true}
use Rattle.rt_profile.specs.Working.Told.{is_below}

-- a word without ticks, and one with some
pub executed-none : (a n : ℕ) (ns : List ℕ) → n ≡ 0 → executed_from a (n ∷ ns) ≡ executed_from (a + 4) ns
executed-none a n ns none = let e : (n == 0) ≡ true = grind (arith, nat_tests) in rw e refl

pub executed-some : (a n : ℕ) (ns : List ℕ) → n ≢ 0 → executed_from a (n ∷ ns) ≡ a ∷ executed_from (a + 4) ns
executed-some a n ns some = let e : (n == 0) ≡ false = grind (arith, nat_tests) in rw e refl

split-at : (words : List ℕ) (w : ℕ) → w < length words → drop w words ≡ get_or words w 0 ∷ drop (w + 1) words
split-at words w below = rw (add-one, drop-cons words w 0) refl

next-address : (w : ℕ) → base + 4 * w + 4 ≡ base + 4 * (w + 1)
next-address w = omega arith

skip-one : (words : List ℕ) (w : ℕ) → w < length words → get_or words w 0 ≡ 0
    → executed_from (base + 4 * w) (drop w words) ≡ executed_from (base + 4 * (w + 1)) (drop (w + 1) words)
skip-one words w below none =
    ap (executed_from (base + 4 * w)) (split-at words w below) ∙ executed-none (base + 4 * w) (get_or words w 0) (drop (w + 1) words) none
    ∙ ap (λ (a : ℕ). executed_from a (drop (w + 1) words)) (next-address w)

skip-by : (words : List ℕ) (w k : ℕ) → w + k ≤ length words → ((j : ℕ) → w ≤ j → j < w + k → get_or words j 0 ≡ 0)
    → executed_from (base + 4 * w) (drop w words) ≡ executed_from (base + 4 * (w + k)) (drop (w + k) words)
skip-by words w zero within none = rw add-zero refl
skip-by words w (suc k) within none =
    let at : w + 1 + k ≡ w + suc k = omega arith in
    skip-one words w (omega arith) (none w (omega arith) (omega arith))
    ∙ skip-by words (w + 1) k (omega arith) (λ j from to. none j (omega arith) (omega arith))
    ∙ ap (λ (v : ℕ). executed_from (base + 4 * v) (drop v words)) at

pub skip : (words : List ℕ) (w v : ℕ) → w ≤ v → v ≤ length words → ((j : ℕ) → w ≤ j → j < v → get_or words j 0 ≡ 0)
    → executed_from (base + 4 * w) (drop w words) ≡ executed_from (base + 4 * v) (drop v words)
skip words w v le within none =
    let at : w + (v - w) ≡ v = omega arith in
    skip-by words w (v - w) (omega arith) (λ j from to. none j from (omega arith)) ∙ ap (λ (u : ℕ). executed_from (base + 4 * u) (drop u words)) at

pub some-one : (words : List ℕ) (w : ℕ) → w < length words → get_or words w 0 ≢ 0
    → executed_from (base + 4 * w) (drop w words) ≡ (base + 4 * w) ∷ executed_from (base + 4 * (w + 1)) (drop (w + 1) words)
some-one words w below some =
    ap (executed_from (base + 4 * w)) (split-at words w below) ∙ executed-some (base + 4 * w) (get_or words w 0) (drop (w + 1) words) some
    ∙ ap (λ (a : ℕ). (base + 4 * w) ∷ executed_from a (drop (w + 1) words)) (next-address w)

-- ---- an address among others

pub placed-before : (a b : ℕ) (bs : List ℕ) → a < b → placed a (b ∷ bs) ≡ a ∷ b ∷ bs
placed-before a b bs less = let e : nat_lt a b ≡ true = grind (arith, nat_tests) in rw e refl

pub placed-at : (a b : ℕ) (bs : List ℕ) → a ≡ b → placed a (b ∷ bs) ≡ b ∷ bs
placed-at a b bs same =
    let e : nat_lt a b ≡ false = grind (arith, nat_tests) in
    let f : (a == b) ≡ true = grind (arith, nat_tests) in
    rw (e, f) refl

pub placed-behind : (a b : ℕ) (bs : List ℕ) → b < a → placed a (b ∷ bs) ≡ b ∷ placed a bs
placed-behind a b bs less =
    let e : nat_lt a b ≡ false = grind (arith, nat_tests) in
    let f : (a == b) ≡ false = grind (arith, nat_tests) in
    rw (e, f) refl

pub word_at-word : (n w : ℕ) → w < n → word_at n (base + 4 * w) ≡ Some w
word_at-word n w below =
    let even : ((base + 4 * w) % 4 == 0) ≡ true = grind (arith, nat_tests) in
    let above : nat_le base (base + 4 * w) ≡ true = grind (arith, nat_tests) in
    let place : (base + 4 * w - base) / 4 ≡ w = omega arith in
    let within : nat_lt w n ≡ true = grind (arith, nat_tests) in
    rw (even, above, place, within) refl

-- ---- a walk

pub walk-outside : (outside : Option ℕ) (old rest : List ℕ) → rest ≡ [] → old ≡ with_outside outside rest → MatchOption outside (old ≡ []) (λ a. old ≡ a ∷ rest)
walk-outside None old rest none is = is ∙ none
walk-outside (Some a) old rest none is = is ∙ ap (placed a) none ∙ ap (λ (bs : List ℕ). a ∷ bs) (sym none)

pub walk-below : (outside : Option ℕ) (b : ℕ) (old bs : List ℕ) → is_below outside b ≡ true → old ≡ with_outside outside (b ∷ bs)
    → MatchOption outside (old ≡ []) (λ a. old ≡ a ∷ b ∷ bs)
walk-below None b old bs below is = absurd cc
walk-below (Some a) b old bs below is = let less : a < b = grind (arith, nat_tests) in is ∙ placed-before a b bs less

pub walk-on : (n w : ℕ) (outside : Option ℕ) (bs : List ℕ) → w < n → ((a : ℕ) → outside ≡ Some a → word_at n a ≡ None) → is_below outside (base + 4 * w) ≡ false
    → with_outside outside ((base + 4 * w) ∷ bs) ≡ (base + 4 * w) ∷ with_outside outside bs
walk-on n w None bs below apart later = refl
walk-on n w (Some a) bs below apart later =
    let differs : a ≢ base + 4 * w = λ same.
    let here : word_at n a ≡ Some w = ap (word_at n) same ∙ word_at-word n w below in
    let none : word_at n a ≡ None = apart a refl in
    absurd cc in
    let from : base + 4 * w ≤ a = grind (arith, nat_tests) in
    let less : base + 4 * w < a = omega (arith, differs) in
    placed-behind a (base + 4 * w) bs less

-- ---- the word of an address

some_of : (b c d : Bool) (v w : ℕ) → cond (b && (c && d)) (Some v) None ≡ Some w → (b ≡ true) × (c ≡ true) × (d ≡ true) × (v ≡ w)
some_of true true true v w is = (refl, refl, refl, cc)
some_of true true false v w is = absurd cc
some_of true false d v w is = absurd cc
some_of false c d v w is = absurd cc

pub word_at-is : (n a w : ℕ) → word_at n a ≡ Some w → (w < n) × (a ≡ base + 4 * w)
word_at-is n a w is =
    let parts = some_of (a % 4 == 0) (nat_le base a) (nat_lt ((a - base) / 4) n) ((a - base) / 4) w is in
    let test = parts.0 in
    let even : a % 4 ≡ 0 = grind (arith, nat_tests) in
    let above : base ≤ a = leb-true base a parts.1 in
    let within : (a - base) / 4 < n = ltb-true ((a - base) / 4) n parts.2 in
    let place = parts.3 in
    (omega (arith, within, place), omega (arith, even, above, place))
