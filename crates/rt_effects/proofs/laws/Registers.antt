-- Where x0 holds 0, a register reads as it stands.
use Rattle.rt_effects.proofs.Common.{◌≡◌, ℕ, List, get_or, inl, inr, refl, sym, ◌∙◌, ap, register}
use Rattle.std.proofs.lemmas.Bool.{cases_eq, eq-eqb, ne_eqb}

pub reads : (x : List ℕ) (r : ℕ) → get_or x 0 0 ≡ 0 → register x r ≡ get_or x r 0
reads x r zeroth =
    elim (cases_eq r 0) [
      | inl is_zero ↦ rw (eq-eqb r 0 is_zero) (sym (ap (λ (k : ℕ). get_or x k 0) is_zero ∙ zeroth))
      | inr not_zero ↦ rw (ne_eqb r 0 not_zero) refl
    ]
