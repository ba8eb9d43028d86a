-- The first row that applies, of rows before others.
use Rattle.rt_elf.proofs.Common.{◌≡◌, ℕ, ◌-◌, ◌+◌, ◌<◌, Bool, true, false, List, [], ◌∷◌, ◌++◌, Option, Some, None, refl, ap, ◌∙◌, if◌then◌else◌, flat_map, ElfFault, numbered, Row, first}
use Rattle.rt_elf.proofs.NumberedLemmas.{numbered_first}

-- no row applies before: the first is among the others
pub first_later : (rows others : List Row) → first rows ≡ None → first (rows ++ others) ≡ first others
first_later [] others none = refl
first_later (row ∷ rows) others none = by row.0 none (first_later rows others)
  where
    by : (test : Bool) → (if test then Some row.1 else first rows) ≡ None → (first rows ≡ None → first (rows ++ others) ≡ first others)
        → (if test then Some row.1 else first (rows ++ others)) ≡ first others
    by true none again = absurd cc
    by false none again = again none

-- a row before the others applies
pub first_here : (rows others : List Row) (fault : ElfFault) → first rows ≡ Some fault → first (rows ++ others) ≡ Some fault
first_here [] others fault here = absurd cc
first_here (row ∷ rows) others fault here = by row.0 here (first_here rows others fault)
  where
    by : (test : Bool) → (if test then Some row.1 else first rows) ≡ Some fault → (first rows ≡ Some fault → first (rows ++ others) ≡ Some fault)
        → (if test then Some row.1 else first (rows ++ others)) ≡ Some fault
    by true here again = here
    by false here again = again here

-- rows of things that are gone through one after the other
pub rows_later : {X : Type 0} → (rows : X → List Row) (f : ℕ → X) (k n : ℕ) (found : Option ElfFault) → k < n → first (rows (f k)) ≡ None
    → found ≡ first (flat_map rows (numbered f k (n - k))) → found ≡ first (flat_map rows (numbered f (k + 1) (n - (k + 1))))
rows_later rows f k n found low none so_far =
    so_far ∙ ap (λ xs. first (flat_map rows xs)) (numbered_first f k n low) ∙ first_later (rows (f k)) (flat_map rows (numbered f (k + 1) (n - (k + 1)))) none

pub rows_here : {X : Type 0} → (rows : X → List Row) (f : ℕ → X) (k n : ℕ) (found : Option ElfFault) (fault : ElfFault) → k < n → first (rows (f k)) ≡ Some fault
    → found ≡ first (flat_map rows (numbered f k (n - k))) → found ≡ Some fault
rows_here rows f k n found fault low here so_far =
    so_far ∙ ap (λ xs. first (flat_map rows xs)) (numbered_first f k n low) ∙ first_here (rows (f k)) (flat_map rows (numbered f (k + 1) (n - (k + 1)))) fault here
