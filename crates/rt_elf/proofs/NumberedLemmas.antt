-- How a list of numbered things is gone through, from the first on.
use Rattle.rt_elf.proofs.Common.{◌≡◌, ℕ, suc, ◌-◌, ◌+◌, ◌≤◌, ◌<◌, Bool, true, false, [], ◌∷◌, Option, refl, ap, ◌∙◌, arith, list_any, find, ProgramHeader, numbered, share, overlap}

pub numbered_first : {X : Type 0} → (f : ℕ → X) (k n : ℕ) → k < n → numbered f k (n - k) ≡ f k ∷ numbered f (k + 1) (n - (k + 1))
numbered_first f k n low =
    let s : n - k ≡ suc (n - (k + 1)) = omega arith in
    rw s refl

pub numbered_none : {X : Type 0} → (f : ℕ → X) (k n : ℕ) → n ≤ k → numbered f k (n - k) ≡ []
numbered_none f k n high =
    let s : n - k ≡ 0 = omega arith in
    rw s refl

pub any_here : {X : Type 0} → (p : X → Bool) (f : ℕ → X) (k n : ℕ) (found : Bool) → k < n → p (f k) ≡ true → found ≡ list_any p (numbered f k (n - k)) → found ≡ true
any_here p f k n found low here so_far = so_far ∙ ap (list_any p) (numbered_first f k n low) ∙ rw here refl

pub any_later : {X : Type 0} → (p : X → Bool) (f : ℕ → X) (k n : ℕ) (found : Bool) → k < n → p (f k) ≡ false → found ≡ list_any p (numbered f k (n - k)) → found ≡ list_any p (numbered f (k + 1) (n - (k + 1)))
any_later p f k n found low here so_far = so_far ∙ ap (list_any p) (numbered_first f k n low) ∙ rw here refl

-- the same for the test of an overlap
pub overlap_later : (f : ℕ → ProgramHeader) (k n : ℕ) (found : Bool) → k < n → list_any (share (f k)) (numbered f (k + 1) (n - (k + 1))) ≡ false → found ≡ overlap (numbered f k (n - k)) → found ≡ overlap (numbered f (k + 1) (n - (k + 1)))
overlap_later f k n found low here so_far = so_far ∙ ap overlap (numbered_first f k n low) ∙ rw here refl

-- and for the first that passes a test
pub find_later : {X : Type 0} → (p : X → Bool) (f : ℕ → X) (k n : ℕ) (found : Option X) → k < n → p (f k) ≡ false → found ≡ find p (numbered f k (n - k)) → found ≡ find p (numbered f (k + 1) (n - (k + 1)))
find_later p f k n found low here so_far = so_far ∙ ap (find p) (numbered_first f k n low) ∙ rw here refl
