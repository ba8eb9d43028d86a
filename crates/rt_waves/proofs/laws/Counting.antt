-- Counts over lists and over ticks.
use Rattle.rt_waves.proofs.Common.{◌≡◌, ℕ, zero, suc, ◌+◌, Bool, cond, List, [], ◌∷◌, ◌++◌, count_by, ap, ◌∙◌, arith, range_with_len}
use Rattle.std.proofs.lemmas.List.Sums.{sum_by-cons, sum_by-append}

abbrev pub one_if : Bool → ℕ
one_if b = cond b 1 0

pub count-cons : {X : Type 0} (p : X → Bool) (x : X) (xs : List X) → count_by p (x ∷ xs) ≡ one_if (p x) + count_by p xs
count-cons p x xs = sum_by-cons (λ y. cond (p y) 1 0) x xs

pub count-append : {X : Type 0} (p : X → Bool) (xs ys : List X) → count_by p (xs ++ ys) ≡ count_by p xs + count_by p ys
count-append p xs ys = sum_by-append (λ y. cond (p y) 1 0) xs ys

count-from : (p : ℕ → Bool) (a n : ℕ) → count_by p (range_with_len a (suc n)) ≡ count_by p (range_with_len a n) + one_if (p (a + n))
count-from p a zero =
    let at : a + zero ≡ a = omega arith in
    omega (arith, count-cons p a [], ap (λ (k : ℕ). one_if (p k)) at)
count-from p a (suc n) =
    let at : (a + 1) + n ≡ a + suc n = omega arith in
    omega (arith, count-cons p a (range_with_len (a + 1) (suc n)), count-cons p a (range_with_len (a + 1) n), count-from p (a + 1) n, ap (λ (k : ℕ). one_if (p k)) at)

-- one tick more
pub count-next : (p : ℕ → Bool) (t : ℕ) → count_by p (range_with_len 0 (suc t)) ≡ count_by p (range_with_len 0 t) + one_if (p t)
count-next p t = let at : 0 + t ≡ t = omega arith in count-from p 0 t ∙ ap (λ (k : ℕ). count_by p (range_with_len 0 t) + one_if (p k)) at
