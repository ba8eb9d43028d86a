-- The first byte of an access that is met.
use Rattle.std.proofs.Common.{◌≡◌, ℕ, ◌+◌, ◌-◌, ◌<◌, Bool, false, cond, suc, Some, ap, ◌∙◌, arith}
use Rattle.std.specs.List.{find}
use Rattle.rt_words.specs.Modular.{sum32}
use Rattle.rt_points.specs.Access.{addresses_from}

-- one byte more that is not met
next : (f : ℕ → Bool) (a k m : ℕ) → f (sum32 a k) ≡ false → find f (addresses_from a k (suc m)) ≡ find f (addresses_from a (k + 1) m)
next f a k m is = ap (λ (b : Bool). cond b (Some (sum32 a k)) (find f (addresses_from a (k + 1) m))) is

pub byte_passed : (f : ℕ → Bool) (a k n : ℕ) → k < n → f (sum32 a k) ≡ false → find f (addresses_from a k (n - k)) ≡ find f (addresses_from a (k + 1) (n - (k + 1)))
byte_passed f a k n within is =
    let e : n - k ≡ suc (n - (k + 1)) = omega arith in
    ap (λ (m : ℕ). find f (addresses_from a k m)) e ∙ next f a k (n - (k + 1)) is
