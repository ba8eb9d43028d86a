-- Searches that meet the same.
use Rattle.rt_walk.proofs.Common.{◌≡◌, ℕ, Option, Some, None, sym, ap, ◌∙◌}
use Rattle.std.specs.Option.{option_map}
use Rattle.rt_walk.specs.FirstMet.{Seeks}

module _ {A : Type 0} (met other : ℕ → Option A) (same : (u : ℕ) → met u ≡ other u) (t n m : ℕ) where
  pub seeks_same : (found : Option A) → Seeks met t n found m → Seeks other t n found m
  seeks_same None none = record { end = none.end; none = λ u after within. sym (same u) ∙ none.none u after within }
  seeks_same (Some a) first = record {
    later = first.later;
    within = first.within;
    here = sym (same m) ∙ first.here;
    none_before = λ u after before. sym (same u) ∙ first.none_before u after before;
  }

-- a search that meets the same by another name
pub seeks_mapped : {A B : Type 0} (f : A → B) (met : ℕ → Option A) (t n m : ℕ) (found : Option A) → Seeks met t n found m → Seeks (λ u. option_map f (met u)) t n (option_map f found) m
seeks_mapped f met t n m None none = record { end = none.end; none = λ u after within. ap (option_map f) (none.none u after within) }
seeks_mapped f met t n m (Some a) first = record {
  later = first.later;
  within = first.within;
  here = ap (option_map f) first.here;
  none_before = λ u after before. ap (option_map f) (first.none_before u after before);
}
