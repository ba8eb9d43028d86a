-- The texts of the items of a list, one item more.
use Rattle.std.proofs.Common.{◌≡◌, ℕ, zero, suc, ◌+◌, ◌<◌, List, [], ◌∷◌, ◌++◌, length, map, take, get_or, refl, sym, ap, ◌∙◌, arith, append_assoc}
use Rattle.std.specs.List.{flat_map, enumerate_from}
use Rattle.std.proofs.lemmas.List.{append-nil}
use Rattle.std.proofs.lemmas.List.Concat.{flat_map-cons}
use Rattle.std.proofs.lemmas.List.Folds.{flat_map-map}
use Rattle.rt_text_out.specs.Lines.{lines}

module _ {T : Type 0} where
  items-from : (f : ℕ × T → List ℕ) (i n : ℕ) (xs : List T) (d : T) → n < length xs
      → flat_map f (enumerate_from i (take (suc n) xs)) ≡ flat_map f (enumerate_from i (take n xs)) ++ f (i + n, get_or xs n d)
  items-from f i n [] d below = absurd (omega arith)
  items-from f i zero (x ∷ xs) d below =
      let none : i + 0 ≡ i = omega arith in
      flat_map-cons f (i, x) [] ∙ append-nil (f (i, x)) ∙ ap (λ (k : ℕ). f (k, x)) (sym none)
  items-from f i (suc n) (x ∷ xs) d below =
      let at : (i + 1) + n ≡ i + suc n = omega arith in
      flat_map-cons f (i, x) (enumerate_from (i + 1) (take (suc n) xs)) ∙ ap (λ (t : List ℕ). f (i, x) ++ t) (items-from f (i + 1) n xs d (omega arith))
      ∙ sym (append_assoc (f (i, x)) (flat_map f (enumerate_from (i + 1) (take n xs))) (f ((i + 1) + n, get_or xs n d)))
      ∙ ap (λ (t : List ℕ). t ++ f ((i + 1) + n, get_or xs n d)) (sym (flat_map-cons f (i, x) (enumerate_from (i + 1) (take n xs))))
      ∙ ap (λ (k : ℕ). flat_map f (enumerate_from i (take (suc n) (x ∷ xs))) ++ f (k, get_or xs n d)) at

  pub lines-more : (f : ℕ → T → List ℕ) (n : ℕ) (xs : List T) (x : T) → n < length xs → x ≡ get_or xs n x
      → lines f 0 (take (n + 1) xs) ≡ lines f 0 (take n xs) ++ f n x
  lines-more f n xs x below here =
      let g : ℕ × T → List ℕ = λ m. f m.0 m.1 in
      let next : n + 1 ≡ suc n = omega arith in
      let place : 0 + n ≡ n = omega arith in
      ap (λ (k : ℕ). flat_map g (enumerate_from 0 (take k xs))) next ∙ items-from g 0 n xs x below
      ∙ ap (λ (k : ℕ). flat_map g (enumerate_from 0 (take n xs)) ++ f k (get_or xs n x)) place
      ∙ ap (λ (y : T). flat_map g (enumerate_from 0 (take n xs)) ++ f n y) (sym here)

  -- of texts that don't tell the number
  pub lines-unnumbered : (f : T → List ℕ) (i : ℕ) (xs : List T) → lines (λ _ x. f x) i xs ≡ flat_map f xs
  lines-unnumbered f i [] = refl
  lines-unnumbered f i (x ∷ xs) = ap (λ (t : List ℕ). f x ++ t) (lines-unnumbered f (i + 1) xs)

  -- of what stands for the items
  pub lines-mapped : {U : Type 0} (f : ℕ → U → List ℕ) (m : T → U) (i : ℕ) (xs : List T) → lines (λ k x. f k (m x)) i xs ≡ lines f i (map m xs)
  lines-mapped f m i [] = refl
  lines-mapped f m i (x ∷ xs) = ap (λ (t : List ℕ). f i (m x) ++ t) (lines-mapped f m (i + 1) xs)

  pub lines-by : {U : Type 0} (f : U → List ℕ) (m : T → U) (xs : List T) → lines (λ _ x. f (m x)) 0 xs ≡ flat_map f (map m xs)
  lines-by f m xs = lines-unnumbered (λ (x : T). f (m x)) 0 xs ∙ sym (flat_map-map f m xs)
