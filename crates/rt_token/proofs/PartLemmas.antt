-- The parts of a list between separators.
use Rattle.std.proofs.Common.{◌≡◌, Bool, true, false, ◌+◌, List, [], ◌∷◌, length, refl, ap, take, drop, arith, suc}
use Rattle.std.specs.List.{position_or_len, slice_split, onto_first}

first_at : {X : Type 0} (p : X → Bool) (x : X) (xs : List X) (y : X) (ys : List X) (b : Bool) → p x ≡ b → (drop (position_or_len p xs) xs ≡ y ∷ ys → slice_split p xs ≡ take (position_or_len p xs) xs ∷ slice_split p ys) → drop (position_or_len p (x ∷ xs)) (x ∷ xs) ≡ y ∷ ys → slice_split p (x ∷ xs) ≡ take (position_or_len p (x ∷ xs)) (x ∷ xs) ∷ slice_split p ys
first_at p x xs y ys true is below rest =
    let whole : x ∷ xs ≡ y ∷ ys = rw is at rest in
    let e : xs ≡ ys = cc in
    rw is (ap (λ l. [] ∷ slice_split p l) e)
first_at p x xs y ys false is below rest =
    let s : 1 + position_or_len p xs ≡ suc (position_or_len p xs) = omega arith in
    let tail : drop (position_or_len p xs) xs ≡ y ∷ ys = rw (is, s) at rest in
    rw (is, s) (ap (onto_first x) (below tail))

-- the first part ends where its separator stands, and the others follow that
pub first_part : {X : Type 0} (p : X → Bool) (xs : List X) (y : X) (ys : List X) → drop (position_or_len p xs) xs ≡ y ∷ ys → slice_split p xs ≡ take (position_or_len p xs) xs ∷ slice_split p ys
first_part p [] y ys rest = cc
first_part p (x ∷ xs) y ys rest = first_at p x xs y ys (p x) refl (first_part p xs y ys) rest

last_at : {X : Type 0} (p : X → Bool) (x : X) (xs : List X) (b : Bool) → p x ≡ b → (drop (position_or_len p xs) xs ≡ [] → slice_split p xs ≡ take (position_or_len p xs) xs ∷ []) → drop (position_or_len p (x ∷ xs)) (x ∷ xs) ≡ [] → slice_split p (x ∷ xs) ≡ take (position_or_len p (x ∷ xs)) (x ∷ xs) ∷ []
last_at p x xs true is below rest = let whole : x ∷ xs ≡ [] = rw is at rest in cc
last_at p x xs false is below rest =
    let s : 1 + position_or_len p xs ≡ suc (position_or_len p xs) = omega arith in
    let tail : drop (position_or_len p xs) xs ≡ [] = rw (is, s) at rest in
    rw (is, s) (ap (onto_first x) (below tail))

-- where no separator stands there is one part
pub last_part : {X : Type 0} (p : X → Bool) (xs : List X) → drop (position_or_len p xs) xs ≡ [] → slice_split p xs ≡ take (position_or_len p xs) xs ∷ []
last_part p [] rest = refl
last_part p (x ∷ xs) rest = last_at p x xs (p x) refl (last_part p xs) rest

pub no_item : {X : Type 0} (xs : List X) → length xs ≡ 0 → xs ≡ []
no_item [] none = refl
no_item (x ∷ xs) none = absurd (omega arith)
