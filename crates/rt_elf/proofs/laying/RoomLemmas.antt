-- How the room for the bytes of a symbol is found in a symbol table.
use Rattle.rt_elf.proofs.Common.{◌≡◌, ℕ, ◌-◌, ◌+◌, ◌≤◌, ◌<◌, Bool, true, false, List, length, take, refl, sym, ap, ◌∙◌, inl, inr, arith, fold, numbered, length-take, bytes_eq, bytes_eq-Decides}
use Rattle.std.proofs.lemmas.Bool.{cases_lt}
use Rattle.std.proofs.lemmas.List.{take_all}
use Rattle.rt_elf.proofs.NumberedLemmas.{numbered_first}

-- lists of different length differ
differs : (a b : List ℕ) → length a < length b → bytes_eq a b ≡ false
differs a b shorter = by (bytes_eq a b) refl
  where
    by : (same : Bool) → bytes_eq a b ≡ same → same ≡ false
    by true e = let len : length a ≡ length b = ap length ((bytes_eq-Decides a b).0 e) in absurd (omega (arith, len, shorter))
    by false e = refl

-- a name that an object may have is another's where it is the front of that
pub same_cut : (name other : List ℕ) → length name ≤ 512 → bytes_eq name (take 513 other) ≡ bytes_eq name other
same_cut name other short = elim (cases_lt 512 (length other)) [
  | inl long ↦ differs name (take 513 other) (omega (arith, length-take 513 other)) ∙ sym (differs name other (omega (arith, long, short)))
  | inr all ↦ ap (bytes_eq name) (take_all 513 other (omega arith))
]

-- one more entry, before those that are left
pub one_more : (f : ℕ → ℕ → ℕ) (g : ℕ → ℕ) (room all k n : ℕ) → k < n → fold f room (numbered g k (n - k)) ≡ all → fold f (f room (g k)) (numbered g (k + 1) (n - (k + 1))) ≡ all
one_more f g room all k n low is = sym (ap (fold f room) (numbered_first g k n low)) ∙ is
