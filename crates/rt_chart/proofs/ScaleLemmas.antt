-- The first of some numbers that does.
use Rattle.rt_chart.proofs.Common.{◌≡◌, ℕ, zero, suc, ◌+◌, ◌<◌, ◌≤◌, Bool, true, false, List, [], ◌∷◌, length, get_or, drop, Some, None, refl, ap, ◌∙◌, arith}
use Rattle.std.proofs.Common.{find}

-- it is the next one
pub find-here : (p : ℕ → Bool) (xs : List ℕ) (i : ℕ) → i < length xs → p (get_or xs i 0) ≡ true → find p (drop i xs) ≡ Some (get_or xs i 0)
find-here p [] i below is = absurd (omega arith)
find-here p (x ∷ xs) zero below is = rw is refl
find-here p (x ∷ xs) (suc i) below is = find-here p xs i (omega arith) is

-- it is a later one
pub find-later : (p : ℕ → Bool) (xs : List ℕ) (i : ℕ) → i < length xs → p (get_or xs i 0) ≡ false → find p (drop (i + 1) xs) ≡ find p (drop i xs)
find-later p [] i below is = absurd (omega arith)
find-later p (x ∷ xs) zero below is = rw is refl
find-later p (x ∷ xs) (suc i) below is =
    let next : suc i + 1 ≡ suc (i + 1) = omega arith in
    ap (λ (k : ℕ). find p (drop k (x ∷ xs))) next ∙ find-later p xs i (omega arith) is

-- there is none
pub find-none : (p : ℕ → Bool) (xs : List ℕ) (i : ℕ) → length xs ≤ i → find p (drop i xs) ≡ None
find-none p [] zero over = refl
find-none p [] (suc i) over = refl
find-none p (x ∷ xs) zero over = absurd (omega arith)
find-none p (x ∷ xs) (suc i) over = find-none p xs i (omega arith)
