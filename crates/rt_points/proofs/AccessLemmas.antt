-- A word whose opcode is neither that of loads nor that of stores accesses nothing.
use Rattle.std.proofs.Common.{◌≡◌, ◌⊎◌, inl, inr, ℕ, ◌%◌, Bool, true, false, cond, eqb, List, [], ◌∷◌, Some, None, refl, sym, ap, ◌∙◌, arith}
use Rattle.std.specs.Prelude.{bit_and}
use Rattle.std.specs.Option.{option_map, option_and_then}
use Rattle.std.proofs.lemmas.Bool.{ne_eqb}
use Rattle.std.proofs.lemmas.Nat.{and_mask, and_mod}
use Rattle.rt_isa.specs.Table.{Row, table, cut, matches, row_in, row_of, ins}
use Rattle.rt_points.specs.Access.{accessed, access_of}

low_bits : (w mask : ℕ) → mask % 128 ≡ 127 → bit_and w mask % 128 ≡ bit_and w 127
low_bits w mask full = and_mod w mask 7 ∙ ap (λ (n : ℕ). bit_and (w % 128) n) full ∙ rw (and_mask (w % 128) 7, and_mask w 7) (omega arith)

-- a row of another opcode
missed : (w mask match : ℕ) {op : ℕ} → mask % 128 ≡ 127 → match % 128 ≡ op → (bit_and w 127 ≡ op → ⊥) → eqb (bit_and w mask) match ≡ false
missed w mask match full is other = ne_eqb (bit_and w mask) match (λ same. other (sym (low_bits w mask full) ∙ ap (λ (n : ℕ). n % 128) same ∙ is))

-- each of these rows is another's, or accesses nothing
abbrev Safe : ℕ → List ℕ → List Row → Type 0
Safe w x [] = Unit {0}
Safe w x (r ∷ rows) = ((matches w r ≡ false) ⊎ (accessed x (cut r.format w) ≡ None)) × Safe w x rows

none-of : (w : ℕ) (x : List ℕ) (rows : List Row) → Safe w x rows → option_and_then (accessed x) (option_map (λ r. cut r.format w) (row_in rows w)) ≡ None
none-of w x [] safe = refl
none-of w x (r ∷ rows) safe = elim safe.0 [
  | inl other ↦ ap (λ (b : Bool). option_and_then (accessed x) (option_map (λ r. cut r.format w) (cond b (Some r) (row_in rows w)))) other ∙ none-of w x rows safe.1
  | inr none ↦ either (matches w r) none (none-of w x rows safe.1)
]
  where
    either : (b : Bool) → accessed x (cut r.format w) ≡ None → option_and_then (accessed x) (option_map (λ r. cut r.format w) (row_in rows w)) ≡ None
        → option_and_then (accessed x) (option_map (λ r. cut r.format w) (cond b (Some r) (row_in rows w))) ≡ None
    either true none rest = none
    either false none rest = rest

pub accesses_none : (w : ℕ) (x : List ℕ) → (bit_and w 127 ≡ 3 → ⊥) → (bit_and w 127 ≡ 35 → ⊥) → access_of w x ≡ None
unfolding ins row_of
accesses_none w x load store =
    none-of w x table
    (inr refl, (inr refl, (inr refl, (inr refl, (inr refl, (inr refl, (inr refl, (inr refl, (inr refl, (inr refl, (inl (missed w 28799 0x3 refl refl load), (inl (missed w 28799 0x1003 refl refl load), (inl (missed w 28799 0x2003 refl refl load), (inl (missed w 28799 0x4003 refl refl load), (inl (missed w 28799 0x5003 refl refl load), (inl (missed w 28799 0x23 refl refl store), (inl (missed w 28799 0x1023 refl refl store), (inl (missed w 28799 0x2023 refl refl store), (inr refl, (inr refl, (inr refl, (inr refl, (inr refl, (inr refl, (inr refl, (inr refl, (inr refl, (inr refl, (inr refl, (inr refl, (inr refl, (inr refl, (inr refl, (inr refl, (inr refl, (inr refl, (inr refl, (inr refl, (inr refl, (inr refl, tt))))))))))))))))))))))))))))))))))))))))
