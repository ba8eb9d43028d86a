-- Lemmas on the order of entries.
use Rattle.rt_queue.proofs.Common.{◌≡◌, ℕ, ◌<◌, ◌≤◌, ◌⊎◌, nat_lt, cond, Some, refl, sym, subst, inl, inr, arith, nat_tests, NotAfter}
use Rattle.std.proofs.Common.{◌==◌, ◌&&◌, ◌||◌, true, false}
use Rattle.rt_queue.specs.Order.{earlier}

pub NotAfter-refl : (e : ℕ × ℕ) → NotAfter e e
NotAfter-refl e = record { by_key = omega arith; by_number = λ _. omega arith }

pub NotAfter-same : (e e' f f' : ℕ × ℕ) → e' ≡ e → f' ≡ f → NotAfter e f → NotAfter e' f'
NotAfter-same e e' f f' p q order = subst (λ x. NotAfter x f') (sym p) (subst (λ y. NotAfter e y) (sym q) order)

pub NotAfter-trans : (e f g : ℕ × ℕ) → NotAfter e f → NotAfter f g → NotAfter e g
NotAfter-trans e f g first second = record {
  by_key = omega (arith, first.by_key, second.by_key);
  by_number = λ same. omega (arith, first.by_key, second.by_key, first.by_number, second.by_number);
}

-- the earlier one of two entries is one of them, and comes no later than the other
pub earlier-cases : (e f : ℕ × ℕ) → ((earlier e (Some f) ≡ e) × NotAfter e f) ⊎ ((earlier e (Some f) ≡ f) × NotAfter f e)
earlier-cases e f =
    elim (nat_lt f.0 e.0 || (f.0 == e.0 && nat_lt f.1 e.1))
    as (λ b. (nat_lt f.0 e.0 || (f.0 == e.0 && nat_lt f.1 e.1)) ≡ b → ((cond b f e ≡ e) × NotAfter e f) ⊎ ((cond b f e ≡ f) × NotAfter f e)) [
      | true ↦ λ h. inr (refl, record { by_key = grind (arith, nat_tests, h); by_number = λ same. grind (arith, nat_tests, h, same) })
      | false ↦ λ h. inl (refl, record { by_key = grind (arith, nat_tests, h); by_number = λ same. grind (arith, nat_tests, h, same) })
    ] refl

-- where the entry has the greater number, the other one stays unless its key is greater
pub earlier-kept : (e f : ℕ × ℕ) → f.0 ≤ e.0 → f.1 < e.1 → earlier e (Some f) ≡ f
earlier-kept e f low below =
    elim (earlier-cases e f) [ inl first ↦ absurd (omega (arith, first.1.by_key, first.1.by_number)) | inr second ↦ second.0 ]

pub earlier-taken : (e f : ℕ × ℕ) → e.0 < f.0 → earlier e (Some f) ≡ e
earlier-taken e f low =
    elim (earlier-cases e f) [ inl first ↦ first.0 | inr second ↦ absurd (omega (arith, second.1.by_key)) ]
