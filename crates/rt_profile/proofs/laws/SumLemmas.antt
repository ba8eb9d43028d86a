-- Sums of counts: each element is counted under one key.
use Rattle.rt_profile.proofs.Common.{◌≡◌, ℕ, ◌+◌, ◌≤◌, ◌==◌, min, Bool, true, false, cond, List, [], ◌∷◌, length, count_by, refl, sym, ap, ◌∙◌, arith, sum_by, flat_map, nat_tests, sum_by-cons, flat_map-cons}
use Rattle.std.specs.List.{filter}
use Rattle.std.proofs.lemmas.List.Sums.{sum_by-append}
use Rattle.rt_profile.proofs.PartLemmas.{count-cons}

-- 1 where a test passes, and a number where one does
abbrev pub one_if : Bool → ℕ
one_if b = cond b 1 0

pub one_if-le : (b : Bool) → one_if b ≤ 1
one_if-le true = omega arith
one_if-le false = omega arith

abbrev only_if : Bool → ℕ → ℕ
only_if b n = cond b n 0

pub sum-same : {X : Type 0} (f g : X → ℕ) (xs : List X) → ((x : X) → f x ≡ g x) → sum_by f xs ≡ sum_by g xs
sum-same f g [] same = refl
sum-same f g (x ∷ xs) same = omega (arith, sum_by-cons f x xs, sum_by-cons g x xs, same x, sum-same f g xs same)

pub sum-add : {X : Type 0} (f g : X → ℕ) (xs : List X) → sum_by (λ x. f x + g x) xs ≡ sum_by f xs + sum_by g xs
sum-add f g [] = refl
sum-add f g (x ∷ xs) = omega (arith, sum_by-cons (λ y. f y + g y) x xs, sum_by-cons f x xs, sum_by-cons g x xs, sum-add f g xs)

pub sum-none : {X : Type 0} (xs : List X) → sum_by (λ x. 0) xs ≡ 0
sum-none [] = refl
sum-none {X} (x ∷ xs) = omega (arith, sum_by-cons {X = X} (λ y. 0) x xs, sum-none xs)

pub sum-flat : {X Y : Type 0} (f : Y → ℕ) (g : X → List Y) (xs : List X) → sum_by f (flat_map g xs) ≡ sum_by (λ x. sum_by f (g x)) xs
sum-flat f g [] = refl
sum-flat f g (x ∷ xs) =
    ap (sum_by f) (flat_map-cons g x xs) ∙ omega (arith, sum_by-append f (g x) (flat_map g xs), sum_by-cons (λ y. sum_by f (g y)) x xs, sum-flat f g xs)

-- what is counted has its own key among these
pub count-own : {X : Type 0} (key : X → ℕ) (x : X) (xs : List X) → 1 ≤ count_by (λ y. key y == key x) (x ∷ xs)
count-own key x xs = let same : (key x == key x) ≡ true = grind (arith, nat_tests) in omega (arith, count-cons (λ y. key y == key x) x xs, ap one_if same)

pub count-more : {X : Type 0} (p : X → Bool) (x : X) (xs : List X) → count_by p xs ≤ count_by p (x ∷ xs)
count-more p x xs = omega (arith, count-cons p x xs)

-- Each key of `all` is the mark of one y, and other keys of none: so the counts of the keys of some of them sum to their number.
pub sum-keys : {X Y : Type 0} (key : X → ℕ) (mark : Y → ℕ) (ys : List Y) (all xs : List X)
    → ((k : ℕ) → count_by (λ y. k == mark y) ys ≡ min 1 (count_by (λ x. key x == k) all))
    → ((k : ℕ) → count_by (λ x. key x == k) xs ≤ count_by (λ x. key x == k) all)
    → sum_by (λ y. count_by (λ x. key x == mark y) xs) ys ≡ length xs
sum-keys key mark ys all [] once few = sum-none ys
sum-keys key mark ys all (x ∷ xs) once few =
    let one : count_by (λ y. key x == mark y) ys ≡ 1 = omega (arith, once (key x), few (key x), count-own key x xs) in
    let split = sum-same (λ y. count_by (λ z. key z == mark y) (x ∷ xs)) (λ y. one_if (key x == mark y) + count_by (λ z. key z == mark y) xs) ys (λ y. count-cons (λ z. key z == mark y) x xs) in
    let parts = sum-add (λ y. one_if (key x == mark y)) (λ y. count_by (λ z. key z == mark y) xs) ys in
    let rest = sum-keys key mark ys all xs once (λ k. omega (arith, few k, count-more (λ z. key z == k) x xs)) in
    omega (arith, one, split, parts, rest)

filter-count : (p : ℕ → Bool) (x : ℕ) (ks : List ℕ) → count_by (λ k. x == k) (filter p ks) ≡ only_if (p x) (count_by (λ k. x == k) ks)
filter-count p x [] = elim (p x) as (λ b. 0 ≡ only_if b 0) [ true ↦ refl | false ↦ refl ]
filter-count p x (k ∷ ks) = by_test (p k) refl (x == k) refl (filter-count p x ks)
  where
    cons : count_by (λ j. x == j) (k ∷ ks) ≡ one_if (x == k) + count_by (λ j. x == j) ks
    cons = count-cons (λ j. x == j) k ks

    by_test : (b : Bool) → p k ≡ b → (c : Bool) → (x == k) ≡ c → count_by (λ j. x == j) (filter p ks) ≡ only_if (p x) (count_by (λ j. x == j) ks)
        → count_by (λ j. x == j) (cond b (k ∷ filter p ks) (filter p ks)) ≡ only_if (p x) (count_by (λ j. x == j) (k ∷ ks))
    by_test true is c same rest =
        count-cons (λ j. x == j) k (filter p ks) ∙ ap (λ (n : ℕ). one_if (x == k) + n) rest ∙ by_key c same ∙ ap (only_if (p x)) (sym cons)
      where
        by_key : (c : Bool) → (x == k) ≡ c → one_if (x == k) + only_if (p x) (count_by (λ j. x == j) ks) ≡ only_if (p x) (one_if (x == k) + count_by (λ j. x == j) ks)
        by_key true same =
            let equal : x ≡ k = grind (arith, nat_tests) in
            let yes : p x ≡ true = ap p equal ∙ is in
            rw yes refl
        by_key false same = rw same (elim (p x) as (λ b. 0 + only_if b (count_by (λ j. x == j) ks) ≡ only_if b (0 + count_by (λ j. x == j) ks)) [ true ↦ refl | false ↦ refl ])
    by_test false is c same rest = rest ∙ by_key c same ∙ ap (only_if (p x)) (sym cons)
      where
        by_key : (c : Bool) → (x == k) ≡ c → only_if (p x) (count_by (λ j. x == j) ks) ≡ only_if (p x) (one_if (x == k) + count_by (λ j. x == j) ks)
        by_key true same =
            let equal : x ≡ k = grind (arith, nat_tests) in
            let no : p x ≡ false = ap p equal ∙ is in
            rw no refl
        by_key false same = let plain : 0 + count_by (λ j. x == j) ks ≡ count_by (λ j. x == j) ks = omega arith in rw same (ap (only_if (p x)) (sym plain))

-- the same of the keys that pass a test
pub sum-filter : {X : Type 0} (key : X → ℕ) (p : ℕ → Bool) (ks : List ℕ) (all xs : List X)
    → ((k : ℕ) → count_by (λ j. k == j) ks ≡ min 1 (count_by (λ x. key x == k) all))
    → ((k : ℕ) → count_by (λ x. key x == k) xs ≤ count_by (λ x. key x == k) all)
    → sum_by (λ k. count_by (λ x. key x == k) xs) (filter p ks) ≡ count_by (λ x. p (key x)) xs
sum-filter key p ks all [] once few = sum-none (filter p ks)
sum-filter key p ks all (x ∷ xs) once few =
    let one : count_by (λ k. key x == k) ks ≡ 1 = omega (arith, once (key x), few (key x), count-own key x xs) in
    let mine : count_by (λ k. key x == k) (filter p ks) ≡ one_if (p (key x)) = filter-count p (key x) ks ∙ ap (only_if (p (key x))) one in
    let split = sum-same (λ k. count_by (λ z. key z == k) (x ∷ xs)) (λ k. one_if (key x == k) + count_by (λ z. key z == k) xs) (filter p ks) (λ k. count-cons (λ z. key z == k) x xs) in
    let parts = sum-add (λ k. one_if (key x == k)) (λ k. count_by (λ z. key z == k) xs) (filter p ks) in
    let rest = sum-filter key p ks all xs once (λ k. omega (arith, few k, count-more (λ z. key z == k) x xs)) in
    omega (arith, mine, split, parts, rest, count-cons (λ z. p (key z)) x xs)
