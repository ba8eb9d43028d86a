-- The tables of binary digits are held against the digits of each byte, by computing.
use Rattle.rt_waves.proofs.Common.{◌≡◌, ℕ, zero, suc, ◌+◌, ◌-◌, ◌*◌, ◌<◌, ◌≤◌, nat_le, Bool, true, false, ◌&&◌, List, [], ◌∷◌, length, take, drop, get_or, refl, ap, ◌∙◌, inl, inr, arith, eqb-true, digits}
use Rattle.std.proofs.Common.{nat_eq}
use Rattle.std.proofs.lemmas.Bool.{cases_eq, leb-true}
use Rattle.rt_waves.specs.declared.binary.TheConstants.{EIGHTS, COUNTS}
use Rattle.rt_waves.specs.Working.Binary.{eight_digits}

same_list : List ℕ → List ℕ → Bool
same_list [] [] = true
same_list [] (y ∷ ys) = false
same_list (x ∷ xs) [] = false
same_list (x ∷ xs) (y ∷ ys) = nat_eq x y && same_list xs ys

both_of : (x y : Bool) → (x && y) ≡ true → (x ≡ true) × (y ≡ true)
both_of true true h = (refl, refl)
both_of true false h = cc
both_of false true h = cc
both_of false false h = cc

same-sound : (xs ys : List ℕ) → same_list xs ys ≡ true → xs ≡ ys
unfolding same_list
same-sound [] [] h = refl
same-sound [] (y ∷ ys) h = cc
same-sound (x ∷ xs) [] h = cc
same-sound (x ∷ xs) (y ∷ ys) h =
    let both = both_of (nat_eq x y) (same_list xs ys) h in
    ap (λ (z : ℕ). z ∷ xs) (eqb-true x y both.0) ∙ ap (λ (zs : List ℕ). y ∷ zs) (same-sound xs ys both.1)

abbrev count_at : ℕ → ℕ
count_at n = get_or COUNTS n 0

-- what is taken of the digits of a byte, from its first one on
abbrev first_part : ℕ → List ℕ
first_part n = take (2048 - (n * 8 + 8 - count_at n)) (drop (n * 8 + 8 - count_at n) EIGHTS)

abbrev eight_part : ℕ → List ℕ
eight_part n = take (2048 - n * 8) (drop (n * 8) EIGHTS)

is_row : ℕ → Bool
is_row n =
    (nat_le (count_at n) 8 && nat_le 8 (length (first_part n)))
    && (nat_le (length (digits 2 false n)) 8 && (same_list (take (count_at n) (first_part n)) (digits 2 false n) && same_list (take 8 (eight_part n)) (eight_digits n)))

are_rows : ℕ → Bool
are_rows zero = true
are_rows (suc n) = is_row n && are_rows n

-- what the tables have of a byte
pub record IsRow (n : ℕ) : Type 0 where
  pub few : count_at n ≤ 8
  pub fits : count_at n ≤ n * 8 + 8
  pub long : 8 ≤ length (first_part n)
  pub short : length (digits 2 false n) ≤ 8
  pub first : take (count_at n) (first_part n) ≡ digits 2 false n
  pub eight : take 8 (eight_part n) ≡ eight_digits n

row-of : (n : ℕ) → is_row n ≡ true → IsRow n
unfolding is_row
row-of n h =
    let few_is = nat_le (count_at n) 8 in
    let long_is = nat_le 8 (length (first_part n)) in
    let short_is = nat_le (length (digits 2 false n)) 8 in
    let first_is = same_list (take (count_at n) (first_part n)) (digits 2 false n) in
    let eight_is = same_list (take 8 (eight_part n)) (eight_digits n) in
    let both = both_of (few_is && long_is) (short_is && (first_is && eight_is)) h in
    let counts = both_of few_is long_is both.0 in
    let others = both_of short_is (first_is && eight_is) both.1 in
    let texts = both_of first_is eight_is others.1 in
    let few = leb-true (count_at n) 8 counts.0 in
    record {
      few = few;
      fits = omega (arith, few);
      long = leb-true 8 (length (first_part n)) counts.1;
      short = leb-true (length (digits 2 false n)) 8 others.0;
      first = same-sound _ _ texts.0;
      eight = same-sound _ _ texts.1;
    }

row-at : (n : ℕ) → are_rows n ≡ true → (m : ℕ) → m < n → IsRow m
unfolding are_rows
row-at zero h m less = absurd (omega arith)
row-at (suc n) h m less =
    let both = both_of (is_row n) (are_rows n) h in
    elim (cases_eq m n) [
      | inl same ↦ rw same (row-of n both.0)
      | inr other ↦ row-at n both.1 m (omega arith)
    ]

pub row-is : (n : ℕ) → n < 256 → IsRow n
unfolding are_rows is_row same_list digits eight_digits
row-is n less = row-at 256 refl n less
