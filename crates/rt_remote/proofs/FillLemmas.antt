-- A row that is filled by number, and the numbers that pass a test.
use Rattle.rt_remote.proofs.Common.{◌≡◌, inl, inr, ℕ, zero, suc, ◌+◌, ◌<◌, List, [], ◌∷◌, ◌++◌, length, get_or, if◌then◌else◌, Bool, true, false, sym, ap, subst, ◌∙◌, arith, filter, range_with_len, cases_lt}
use Rattle.std.proofs.Common.{append-nil}
use Rattle.std.proofs.Math.ListN.{set}
use Rattle.std.proofs.lemmas.List.{get_or-set_same, get_or-set_other}
use Rattle.std.proofs.lemmas.List.Elements.{filter-append}

module _ {X : Type 0} (f : ℕ → X) where
  pub fill-more : (xs : List X) (i : ℕ) (y d : X) → i < length xs → y ≡ f i → ((k : ℕ) → k < i → get_or xs k d ≡ f k)
      → (k : ℕ) → k < i + 1 → get_or (set xs i y) k d ≡ f k
  fill-more xs i y d within is before k less = elim (cases_lt k i) [
    | inl low ↦ get_or-set_other xs i k y d (λ same. absurd (omega (arith, low, same))) ∙ before k low
    | inr high ↦
        let same : k ≡ i = omega (arith, less, high) in
        subst (λ (j : ℕ). get_or (set xs i y) j d ≡ f j) (sym same) (get_or-set_same xs i y d within ∙ is)
  ]

-- one number more
numbers-more : (a n : ℕ) → range_with_len a (n + 1) ≡ range_with_len a n ++ (a + n) ∷ []
numbers-more a zero = let same : a ≡ a + 0 = omega arith in ap (λ (k : ℕ). k ∷ []) same
numbers-more a (suc n) =
    let on : suc n + 1 ≡ suc (n + 1) = omega arith in
    let same : a + 1 + n ≡ a + suc n = omega arith in
    ap (range_with_len a) on ∙ ap (λ (l : List ℕ). a ∷ l) (numbers-more (a + 1) n ∙ ap (λ (k : ℕ). range_with_len (a + 1) n ++ k ∷ []) same)

those-more : (p : ℕ → Bool) (n : ℕ) → filter p (range_with_len 0 (n + 1)) ≡ filter p (range_with_len 0 n) ++ filter p (n ∷ [])
those-more p n =
    let here : 0 + n ≡ n = omega arith in
    ap (filter p) (numbers-more 0 n ∙ ap (λ (k : ℕ). range_with_len 0 n ++ k ∷ []) here) ∙ filter-append p (range_with_len 0 n) (n ∷ [])

-- it passes, or it doesn't
pub those-with : (p : ℕ → Bool) (n : ℕ) → p n ≡ true → filter p (range_with_len 0 (n + 1)) ≡ filter p (range_with_len 0 n) ++ n ∷ []
those-with p n is = those-more p n ∙ ap (λ (b : Bool). filter p (range_with_len 0 n) ++ (if b then n ∷ [] else [])) is

pub those-without : (p : ℕ → Bool) (n : ℕ) → p n ≡ false → filter p (range_with_len 0 (n + 1)) ≡ filter p (range_with_len 0 n)
those-without p n is = those-more p n ∙ ap (λ (b : Bool). filter p (range_with_len 0 n) ++ (if b then n ∷ [] else [])) is ∙ append-nil (filter p (range_with_len 0 n))
