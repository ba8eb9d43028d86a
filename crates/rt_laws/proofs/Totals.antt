-- Sums over a list, and what holds of each of its elements.
use Rattle.rt_laws.proofs.Common.{◌≡◌, ℕ, zero, suc, ◌+◌, ◌*◌, ◌≤◌, List, [], ◌∷◌, ◌++◌, map, slice_get, slice_set, All, Some, refl, subst, arith, All-nil, All-cons}

abbrev pub total : {X : Type 0} → (X → ℕ) → List X → ℕ
total f [] = 0
total f (x ∷ xs) = f x + total f xs

abbrev pub Each : {X : Type 0} → (X → Type 0) → List X → Type 0
Each P [] = Unit {0}
Each P (x ∷ xs) = P x × Each P xs

pub Each-all : {X : Type 0} (P : X → Type 0) (xs : List X) → Each P xs → All P xs
Each-all P [] each = All-nil P
Each-all P (x ∷ xs) each = All-cons P x xs each.0 (Each-all P xs each.1)

pub Each-more : {X : Type 0} (P Q : X → Type 0) → ((x : X) → P x → Q x) → (xs : List X) → Each P xs → Each Q xs
Each-more P Q more [] each = tt
Each-more P Q more (x ∷ xs) each = (more x each.0, Each-more P Q more xs each.1)

pub Each-both : {X : Type 0} (P Q R : X → Type 0) → ((x : X) → P x → Q x → R x) → (xs : List X) → Each P xs → Each Q xs → Each R xs
Each-both P Q R more [] first second = tt
Each-both P Q R more (x ∷ xs) first second = (more x first.0 second.0, Each-both P Q R more xs first.1 second.1)

pub Each-append : {X : Type 0} (P : X → Type 0) (xs ys : List X) → Each P xs → Each P ys → Each P (xs ++ ys)
Each-append P [] ys first second = second
Each-append P (x ∷ xs) ys first second = (first.0, Each-append P xs ys first.1 second)

pub Each-map : {X Y : Type 0} (f : X → Y) (P : Y → Type 0) (xs : List X) → Each (λ x. P (f x)) xs → Each P (map f xs)
Each-map f P [] each = tt
Each-map f P (x ∷ xs) each = (each.0, Each-map f P xs each.1)

pub Each-set : {X : Type 0} (P : X → Type 0) (xs : List X) (i : ℕ) (y : X) → P y → Each P xs → Each P (slice_set xs i y)
Each-set P [] i y it each = tt
Each-set P (x ∷ xs) zero y it each = (it, each.1)
Each-set P (x ∷ xs) (suc i) y it each = (each.0, Each-set P xs i y it each.1)

pub Each-at : {X : Type 0} (P : X → Type 0) (xs : List X) (i : ℕ) (x : X) → slice_get xs i ≡ Some x → Each P xs → P x
Each-at P [] i x there each = absurd cc
Each-at P (y ∷ xs) zero x there each = let same : y ≡ x = cc in subst P same each.0
Each-at P (y ∷ xs) (suc i) x there each = Each-at P xs i x there each.1

pub Each-of : {X : Type 0} (P : X → Type 0) (xs : List X) → ((i : ℕ) (x : X) → slice_get xs i ≡ Some x → P x) → Each P xs
Each-of P [] all = tt
Each-of P (x ∷ xs) all = (all zero x refl, Each-of P xs (λ i y there. all (suc i) y there))

-- ---- sums

pub total-le : {X : Type 0} (f g : X → ℕ) (xs : List X) → Each (λ x. f x ≤ g x) xs → total f xs ≤ total g xs
total-le f g [] each = omega arith
total-le f g (x ∷ xs) each = omega (arith, each.0, total-le f g xs each.1)

pub total-map : {X Y : Type 0} (k : X → Y) (f : Y → ℕ) (g : X → ℕ) (xs : List X) → Each (λ x. f (k x) ≡ g x) xs → total f (map k xs) ≡ total g xs
total-map k f g [] each = refl
total-map k f g (x ∷ xs) each = omega (arith, each.0, total-map k f g xs each.1)

pub total-map_le : {X Y : Type 0} (k : X → Y) (f : Y → ℕ) (g : X → ℕ) (xs : List X) → Each (λ x. f (k x) ≤ g x) xs → total f (map k xs) ≤ total g xs
total-map_le k f g [] each = omega arith
total-map_le k f g (x ∷ xs) each = omega (arith, each.0, total-map_le k f g xs each.1)

both-small : (a b v w t d : ℕ) → a + v * t ≤ v * d → b + w * t ≤ w * d → (a + b) + (v + w) * t ≤ (v + w) * d
both-small a b v w t d first second = omega arith

pub total-small : {X : Type 0} (f g : X → ℕ) (t d : ℕ) (xs : List X) → Each (λ x. f x + g x * t ≤ g x * d) xs → total f xs + total g xs * t ≤ total g xs * d
total-small f g t d [] each = omega arith
total-small f g t d (x ∷ xs) each = both-small (f x) (total f xs) (g x) (total g xs) t d each.0 (total-small f g t d xs each.1)

both-slack : (a b asks bsks v w x y t d : ℕ) → asks + v * d + x * t ≤ a + x * d + v * t → bsks + w * d + y * t ≤ b + y * d + w * t
    → (asks + bsks) + (v + w) * d + (x + y) * t ≤ (a + b) + (x + y) * d + (v + w) * t
both-slack a b asks bsks v w x y t d first second = omega arith

-- no element is more than it was, beyond its own weight's part of the numbers from t to d
pub total-slack : {X : Type 0} (k : X → X) (f g : X → ℕ) (t d : ℕ) (xs : List X)
    → Each (λ x. f (k x) + g x * d + g (k x) * t ≤ f x + g (k x) * d + g x * t) xs
    → total f (map k xs) + total g xs * d + total g (map k xs) * t ≤ total f xs + total g (map k xs) * d + total g xs * t
total-slack k f g t d [] each = omega arith
total-slack k f g t d (x ∷ xs) each =
    both-slack (f x) (total f xs) (f (k x)) (total f (map k xs)) (g x) (total g xs) (g (k x)) (total g (map k xs)) t d each.0
    (total-slack k f g t d xs each.1)

-- one of them
pub total-one : {X : Type 0} (f : X → ℕ) (xs : List X) (i : ℕ) (x : X) → slice_get xs i ≡ Some x → f x ≤ total f xs
total-one f [] i x there = absurd cc
total-one f (y ∷ xs) zero x there = let same : f y ≡ f x = cc in omega arith
total-one f (y ∷ xs) (suc i) x there = omega (arith, total-one f xs i x there)

-- one of them is less by h, and none is more
pub total-less : {X : Type 0} (f g : X → ℕ) (h : ℕ) (xs : List X) (i : ℕ) (x y : X) → slice_get xs i ≡ Some x → f y + h ≤ g x → Each (λ z. f z ≤ g z) xs
    → total f (slice_set xs i y) + h ≤ total g xs
total-less f g h [] i x y there less each = absurd cc
total-less f g h (z ∷ xs) zero x y there less each =
    let same : g z ≡ g x = cc in
    let others = total-le f g xs each.1 in
    omega (arith, less, others)
total-less f g h (z ∷ xs) (suc i) x y there less each =
    let others = total-less f g h xs i x y there less each.1 in
    omega (arith, each.0, others)

pub total-set_same : {X : Type 0} (f : X → ℕ) (xs : List X) (i : ℕ) (x y : X) → slice_get xs i ≡ Some x → f y ≡ f x → total f (slice_set xs i y) ≡ total f xs
total-set_same f [] i x y there same = refl
total-set_same f (z ∷ xs) zero x y there same = let it : f z ≡ f x = cc in omega arith
total-set_same f (z ∷ xs) (suc i) x y there same = let others = total-set_same f xs i x y there same in omega (arith, others)

-- one of them grows by k
pub total-set : {X : Type 0} (f : X → ℕ) (k : ℕ) (xs : List X) (i : ℕ) (x y : X) → slice_get xs i ≡ Some x → f y ≡ f x + k
    → total f (slice_set xs i y) ≡ total f xs + k
total-set f k [] i x y there more = absurd cc
total-set f k (z ∷ xs) zero x y there more = let it : f z ≡ f x = cc in omega arith
total-set f k (z ∷ xs) (suc i) x y there more = let others = total-set f k xs i x y there more in omega (arith, others)
