-- No word matches two rows.
use Rattle.rt_isa.proofs.Common.{◌≡◌, ℕ, Bool, true, false, eqb, List, [], ◌∷◌, cond, subst, Some, refl, sym, ap, ◌∙◌, inl, inr, bit_and, option_map, cases_Bool, eqb-true, Row, table, cut, matches, row_in, row_of, ins}
use Rattle.std.proofs.Common.{zero, suc, ◌&&◌, not}
use Rattle.std.specs.List.{slice_get, list_all}
use Rattle.std.proofs.lemmas.Bool.{eq-eqb, and_parts}
use Rattle.std.proofs.lemmas.Nat.{and_assoc, and_comm}

-- the bits that both masks have differ in the two matches
abbrev apart : Row → Row → Bool
apart r s = not (eqb (bit_and r.match s.mask) (bit_and s.match r.mask))

abbrev all_apart : List Row → Bool
all_apart [] = true
all_apart (r ∷ rows) = list_all (apart r) rows && all_apart rows

rows_differ : (w : ℕ) (r s : Row) → apart r s ≡ true → matches w r ≡ true → matches w s ≡ true → ⊥
rows_differ w r s differ at_r at_s =
    let first : bit_and r.match s.mask ≡ bit_and (bit_and w r.mask) s.mask = ap (λ (x : ℕ). bit_and x s.mask) (sym (eqb-true _ _ at_r)) in
    let second : bit_and s.match r.mask ≡ bit_and (bit_and w s.mask) r.mask = ap (λ (x : ℕ). bit_and x r.mask) (sym (eqb-true _ _ at_s)) in
    let both : bit_and (bit_and w r.mask) s.mask ≡ bit_and (bit_and w s.mask) r.mask =
    and_assoc s.mask w r.mask ∙ ap (bit_and w) (and_comm r.mask s.mask) ∙ sym (and_assoc r.mask w s.mask) in
    let same : eqb (bit_and r.match s.mask) (bit_and s.match r.mask) ≡ true = eq-eqb _ _ (first ∙ both ∙ sym second) in
    let no : false ≡ true = ap not (sym same) ∙ differ in
    absurd cc

all_at : (test : Row → Bool) (rows : List Row) (i : ℕ) (r : Row) → list_all test rows ≡ true → slice_get rows i ≡ Some r → test r ≡ true
all_at test [] i r all at = absurd cc
all_at test (s ∷ rows) zero r all at =
    let same : s ≡ r = cc in
    ap test (sym same) ∙ (and_parts (test s) (list_all test rows) all).0
all_at test (s ∷ rows) (suc i) r all at = all_at test rows i r (and_parts (test s) (list_all test rows) all).1 at

one_in : (w : ℕ) (rows : List Row) (i j : ℕ) (r s : Row) → all_apart rows ≡ true → slice_get rows i ≡ Some r → slice_get rows j ≡ Some s → matches w r ≡ true → matches w s ≡ true → i ≡ j
one_in w [] i j r s apart_all at_i at_j is_r is_s = absurd cc
one_in w (q ∷ rows) zero zero r s apart_all at_i at_j is_r is_s = refl
one_in w (q ∷ rows) zero (suc j) r s apart_all at_i at_j is_r is_s =
    let same : q ≡ r = cc in
    let parts = and_parts (list_all (apart q) rows) (all_apart rows) apart_all in
    absurd (rows_differ w q s (all_at (apart q) rows j s parts.0 at_j) (ap (matches w) same ∙ is_r) is_s)
one_in w (q ∷ rows) (suc i) zero r s apart_all at_i at_j is_r is_s =
    let same : q ≡ s = cc in
    let parts = and_parts (list_all (apart q) rows) (all_apart rows) apart_all in
    absurd (rows_differ w q r (all_at (apart q) rows i r parts.0 at_i) (ap (matches w) same ∙ is_s) is_r)
one_in w (q ∷ rows) (suc i) (suc j) r s apart_all at_i at_j is_r is_s =
    let parts = and_parts (list_all (apart q) rows) (all_apart rows) apart_all in
    ap suc (one_in w rows i j r s parts.1 at_i at_j is_r is_s)

pub one_row : (w i j : ℕ) (r s : Row) → slice_get table i ≡ Some r → slice_get table j ≡ Some s → matches w r ≡ true → matches w s ≡ true → i ≡ j
one_row w i j r s at_i at_j is_r is_s = one_in w table i j r s refl at_i at_j is_r is_s

found_in : (w : ℕ) (rows : List Row) (i : ℕ) (r : Row) → all_apart rows ≡ true → slice_get rows i ≡ Some r → matches w r ≡ true → row_in rows w ≡ Some r
found_in w [] i r apart_all at is_r = absurd cc
found_in w (q ∷ rows) zero r apart_all at is_r =
    let same : q ≡ r = cc in
    rw (ap (matches w) same ∙ is_r) at
found_in w (q ∷ rows) (suc i) r apart_all at is_r =
    let parts = and_parts (list_all (apart q) rows) (all_apart rows) apart_all in
    elim (cases_Bool (matches w q)) [
      | inl here ↦ absurd (rows_differ w q r (all_at (apart q) rows i r parts.0 at) here is_r)
      | inr elsewhere ↦ rw elsewhere (found_in w rows i r parts.1 at is_r)
    ]

-- a word that matches a row is of this row
pub found : (w i : ℕ) (r : Row) → slice_get table i ≡ Some r → bit_and w r.mask ≡ r.match → ins w ≡ Some (cut r.format w)
unfolding ins row_of
found w i r at is_r = ap (option_map (λ (q : Row). cut q.format w)) (found_in w table i r refl at (eq-eqb _ _ is_r))

-- ---- what holds of each row

abbrev pub EachRow : (Row → Type 0) → List Row → Type 0
EachRow P [] = Unit {0}
EachRow P (r ∷ rows) = P r × EachRow P rows

-- the row that a word finds is one of them, and the word matches it
pub row_found : (P : Row → Type 0) (rows : List Row) → EachRow P rows → (w : ℕ) (r : Row) → row_in rows w ≡ Some r → (matches w r ≡ true) × P r
row_found P [] all w r is = absurd cc
row_found P (q ∷ rows) all w r is =
    elim (cases_Bool (matches w q)) [
      | inl here ↦
          let same : q ≡ r = some_same q r (sym (ap (λ (b : Bool). cond b (Some q) (row_in rows w)) here) ∙ is) in
          let both : Row → Type 0 = λ p. (matches w p ≡ true) × P p in
          subst both same (here, all.0)
      | inr elsewhere ↦ row_found P rows all.1 w r (sym (ap (λ (b : Bool). cond b (Some q) (row_in rows w)) elsewhere) ∙ is)
    ]
  where
    some_same : (x y : Row) → Some x ≡ Some y → x ≡ y
    some_same x y e = cc
