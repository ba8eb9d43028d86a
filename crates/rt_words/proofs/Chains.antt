-- What steps that were not refused found on the way.
use Rattle.std.proofs.Common.{◌≡◌, Bool, true, false, cond, Result, Ok, Err, refl, ap}
use Rattle.rt_words.specs.Chain.{◌>>=◌, when}

-- the value of a step that did not fail
pub bind_ok : {F A B : Type 0} (r : Result A F) (f : A → Result B F) (y : B) → (r >>= f) ≡ Ok y → (x : A) × (r ≡ Ok x) × (f x ≡ Ok y)
bind_ok (Ok x) f y e = (x, refl, e)
bind_ok (Err d) f y e = absurd cc

-- a test that did not fail
pub bind_when : {F A B : Type 0} (b : Bool) (d : F) (x : A) (f : A → Result B F) (y : B) → (when b d x >>= f) ≡ Ok y → (b ≡ true) × (f x ≡ Ok y)
bind_when true d x f y e = (refl, e)
bind_when false d x f y e = absurd cc

pub when_ok : {F A : Type 0} (b : Bool) (d : F) (x y : A) → when b d x ≡ Ok y → (b ≡ true) × (x ≡ y)
when_ok true d x y e = (refl, cc)
when_ok false d x y e = absurd cc

-- a step that gives x, and a test that holds
pub bind_is : {F A B : Type 0} (r : Result A F) (f : A → Result B F) (x : A) → r ≡ Ok x → (r >>= f) ≡ f x
bind_is {F = F} r f x e = ap (λ (s : Result _ F). s >>= f) e

pub when_is : {F A B : Type 0} (b : Bool) (d : F) (x : A) (f : A → Result B F) → b ≡ true → (when b d x >>= f) ≡ f x
when_is true d x f e = refl
when_is false d x f e = absurd cc

-- a refusal that was passed by
pub guard_ok : {F A : Type 0} (b : Bool) (d : F) (x y : A) → cond b (Err d) (Ok x) ≡ Ok y → (b ≡ false) × (x ≡ y)
guard_ok true d x y e = absurd cc
guard_ok false d x y e = (refl, cc)
