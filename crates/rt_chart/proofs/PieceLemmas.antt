-- Texts that are built up piece by piece, one piece more.
use Rattle.rt_chart.proofs.Common.{◌≡◌, ℕ, zero, suc, ◌+◌, ◌<◌, List, [], ◌∷◌, ◌++◌, length, map, take, get_or, refl, sym, ap, ◌∙◌, arith, add-zero, flat_map, range_with_len, enumerate_from}
use Rattle.std.proofs.lemmas.List.{take_more, append-nil}
use Rattle.std.proofs.lemmas.List.Concat.{flat_map-append, flat_map-cons}

flat_map-one : {X : Type 0} (f : X → List ℕ) (x : X) → flat_map f (x ∷ []) ≡ f x
flat_map-one f x = flat_map-cons f x [] ∙ append-nil (f x)

-- the next element of a list
pub flat_map-take-more : {X : Type 0} (f : X → List ℕ) (n : ℕ) (xs : List X) (x : X) → n < length xs → x ≡ get_or xs n x
    → flat_map f (take (n + 1) xs) ≡ flat_map f (take n xs) ++ f x
flat_map-take-more f n xs x below here =
    ap (flat_map f) (take_more xs n x below ∙ ap (λ y. take n xs ++ y ∷ []) (sym here))
    ∙ flat_map-append f (take n xs) (x ∷ []) ∙ ap (λ (text : List ℕ). flat_map f (take n xs) ++ text) (flat_map-one f x)

range-more : (a n : ℕ) → range_with_len a (suc n) ≡ range_with_len a n ++ (a + n) ∷ []
range-more a zero = rw add-zero refl
range-more a (suc n) =
    let at : (a + 1) + n ≡ a + suc n = omega arith in
    ap (λ (xs : List ℕ). a ∷ xs) (range-more (a + 1) n ∙ ap (λ (k : ℕ). range_with_len (a + 1) n ++ k ∷ []) at)

-- the next number of a range
pub flat_map-range-more : (f : ℕ → List ℕ) (a n k : ℕ) → a + n ≡ k → flat_map f (range_with_len a (n + 1)) ≡ flat_map f (range_with_len a n) ++ f k
flat_map-range-more f a n k at =
    let next : n + 1 ≡ suc n = omega arith in
    ap (λ (m : ℕ). flat_map f (range_with_len a m)) next ∙ ap (flat_map f) (range-more a n ∙ ap (λ (j : ℕ). range_with_len a n ++ j ∷ []) at)
    ∙ flat_map-append f (range_with_len a n) (k ∷ []) ∙ ap (λ (text : List ℕ). flat_map f (range_with_len a n) ++ text) (flat_map-one f k)

-- and at its place
pub flat_map-take-get : {X : Type 0} (f : X → List ℕ) (n : ℕ) (xs : List X) (d : X) → n < length xs
    → flat_map f (take (n + 1) xs) ≡ flat_map f (take n xs) ++ f (get_or xs n d)
flat_map-take-get f n xs d below =
    ap (flat_map f) (take_more xs n d below) ∙ flat_map-append f (take n xs) (get_or xs n d ∷ [])
    ∙ ap (λ (text : List ℕ). flat_map f (take n xs) ++ text) (flat_map-one f (get_or xs n d))

-- elements that are made of numbered ones, the next one
pub mapped-more : {X Y : Type 0} (f : ℕ → X → Y) (i n : ℕ) (xs : List X) (x : X) → n < length xs → x ≡ get_or xs n x
    → map (λ m. f m.0 m.1) (enumerate_from i (take (n + 1) xs)) ≡ map (λ m. f m.0 m.1) (enumerate_from i (take n xs)) ++ f (i + n) x ∷ []
mapped-more {X} {Y} f i n xs x below here = rw next (more i n xs below here)
  where
    next : n + 1 ≡ suc n
    next = omega arith

    more : (i n : ℕ) (xs : List X) → n < length xs → x ≡ get_or xs n x
        → map (λ m. f m.0 m.1) (enumerate_from i (take (suc n) xs)) ≡ map (λ m. f m.0 m.1) (enumerate_from i (take n xs)) ++ f (i + n) x ∷ []
    more i n [] below here = absurd (omega arith)
    more i zero (y ∷ xs) below here = rw (add-zero, here) refl
    more i (suc n) (y ∷ xs) below here =
        let at : (i + 1) + n ≡ i + suc n = omega arith in
        ap (λ (ds : List Y). f i y ∷ ds)
        (more (i + 1) n xs (omega arith) here
        ∙ ap (λ (k : ℕ). map (λ m. f m.0 m.1) (enumerate_from (i + 1) (take n xs)) ++ f k x ∷ []) at)
