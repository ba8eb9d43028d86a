-- A look-up in a table at the place of a name's mark.
use Rattle.rt_text.proofs.Common.{◌≡◌, ℕ, zero, suc, Bool, true, false, cond, eqb, ◌+◌, ◌<◌, ◌≤◌, List, [], ◌∷◌, Option, Some, None, length, get_or, map, refl, sym, ap, ◌∙◌, arith, and_parts, eqb-true, value_of, seen_row}
use Rattle.std.specs.Borrow.{Bor}
use Rattle.std.specs.Str.{bytes_eq}
use Rattle.std.proofs.lemmas.Bool.{true≢false}
use Rattle.std.proofs.lemmas.Slice.Eq.{bytes_eq-Decides}
use Rattle.rt_text.specs.Working.Rows.{mark, are_placed}

-- a row of this name and value, and its number, which is where the name's mark leads
record Found {V : Type 0} (place n : ℕ) (rows : List (List ℕ × V)) (name : List ℕ) (v : V) : Type 0 where
  at : ℕ
  low : at < length rows
  here : place ≡ n + at
  same : (d : List ℕ × V) → bytes_eq name (get_or rows at d).0 ≡ true
  value : (d : List ℕ × V) → (get_or rows at d).1 ≡ v

later : {V : Type 0} (place n : ℕ) (row : List ℕ × V) (rows : List (List ℕ × V)) (name : List ℕ) (v : V) → Found place (n + 1) rows name v → Found place n (row ∷ rows) name v
later place n row rows name v f = record { at = suc f.at; low = omega (arith, f.low); here = omega (arith, f.here); same = f.same; value = f.value }

found_by : {V : Type 0} (b : Bool) (place n : ℕ) (row : List ℕ × V) (rows : List (List ℕ × V)) (name : List ℕ) (v : V) → bytes_eq name row.0 ≡ b → (b ≡ true → place ≡ n) → (value_of rows name ≡ Some v → Found place (n + 1) rows name v) → cond b (Some row.1) (value_of rows name) ≡ Some v → Found place n (row ∷ rows) name v
found_by true place n row rows name v is here below found =
    let v_is : row.1 ≡ v = cc in
    record { at = 0; low = omega arith; here = omega (arith, here refl); same = λ d. is; value = λ d. v_is }
found_by false place n row rows name v is here below found = later place n row rows name v (below found)

found_at : {V : Type 0} (places : List ℕ) (n : ℕ) (rows : List (List ℕ × V)) (name : List ℕ) (v : V) → are_placed places n rows ≡ true → value_of rows name ≡ Some v → Found (get_or places (mark name) 0) n rows name v
found_at places n [] name v placed found = absurd cc
found_at places n (row ∷ rows) name v placed found =
    let parts = and_parts (eqb (get_or places (mark row.0) 0) n) (are_placed places (n + 1) rows) placed in
    found_by (bytes_eq name row.0) (get_or places (mark name) 0) n row rows name v refl
    (λ is. ap (λ (l : List ℕ). get_or places (mark l) 0) ((bytes_eq-Decides name row.0).0 is) ∙ eqb-true _ _ parts.0)
    (found_at places (n + 1) rows name v parts.1) found

-- a name that some row has is found
not_first : {V : Type 0} (b : Bool) (v : V) (rest : Option V) → cond b (Some v) rest ≡ None → (b ≡ false) × (rest ≡ None)
not_first true v rest none = absurd cc
not_first false v rest none = (refl, none)

found_if : {V : Type 0} (rows : List (List ℕ × V)) (name : List ℕ) (i : ℕ) (d : List ℕ × V) → i < length rows → bytes_eq name (get_or rows i d).0 ≡ true → value_of rows name ≡ None → ⊥
found_if [] name i d low is none = absurd (omega arith)
found_if (row ∷ rows) name zero d low is none = true≢false (sym is ∙ (not_first (bytes_eq name row.0) row.1 (value_of rows name) none).0)
found_if (row ∷ rows) name (suc i) d low is none = found_if rows name i d (omega arith) is (not_first (bytes_eq name row.0) row.1 (value_of rows name) none).1

-- a row with where its name lies in memory
seen_at : {V : Type 0} (table : List (Bor (List ℕ) × V)) (i : ℕ) (row : Bor (List ℕ) × V) → row ≡ get_or table i row → get_or (map seen_row table) i (seen_row row) ≡ seen_row row
seen_at [] i row is = refl
seen_at (first ∷ table) zero row is = ap seen_row (sym is)
seen_at (first ∷ table) (suc i) row is = seen_at table i row is

seen_length : {V : Type 0} (table : List (Bor (List ℕ) × V)) → length (map seen_row table) ≡ length table
seen_length [] = refl
seen_length (row ∷ table) = ap suc (seen_length table)

there : {V : Type 0} (o : Option V) (rows : List (List ℕ × V)) (name : List ℕ) (d : List ℕ × V) (place : ℕ) → value_of rows name ≡ o → ((v : V) → o ≡ Some v → Found place 0 rows name v) → place < length rows → bytes_eq name (get_or rows place d).0 ≡ true → Some (get_or rows place d).1 ≡ o
there None rows name d place is found low same = absurd (found_if rows name place d low same is)
there (Some v) rows name d place is found low same =
    let f = found v refl in
    let at : place ≡ f.at = omega (arith, f.here) in
    rw at (ap Some (f.value d))

-- the row at the place of its mark has the name
pub value_there : {V : Type 0} (places : List ℕ) (table : List (Bor (List ℕ) × V)) (name : List ℕ) (place : ℕ) (row : Bor (List ℕ) × V) → are_placed places 0 (map seen_row table) ≡ true → place ≡ get_or places (mark name) 0 → place < length table → row ≡ get_or table place row → bytes_eq name row.0.now ≡ true → Some row.1 ≡ value_of (map seen_row table) name
value_there places table name place row placed at low is same =
    let seen = seen_at table place row is in
    let found = there (value_of (map seen_row table) name) (map seen_row table) name (seen_row row) place refl
    (λ v here. rw (sym at) at (found_at places 0 (map seen_row table) name v placed here)) (omega (arith, seen_length table)) (rw seen same) in
    rw seen at found

not_there : {V : Type 0} (o : Option V) (rows : List (List ℕ × V)) (name : List ℕ) (d : List ℕ × V) (place : ℕ) → ((v : V) → o ≡ Some v → Found place 0 rows name v) → bytes_eq name (get_or rows place d).0 ≡ false → None ≡ o
not_there None rows name d place found other = refl
not_there (Some v) rows name d place found other =
    let f = found v refl in
    let at : f.at ≡ place = omega (arith, f.here) in
    absurd (true≢false (sym (rw at at (f.same d)) ∙ other))

-- it has another
pub none_there : {V : Type 0} (places : List ℕ) (table : List (Bor (List ℕ) × V)) (name : List ℕ) (place : ℕ) (row : Bor (List ℕ) × V) → are_placed places 0 (map seen_row table) ≡ true → place ≡ get_or places (mark name) 0 → row ≡ get_or table place row → bytes_eq name row.0.now ≡ false → None ≡ value_of (map seen_row table) name
none_there places table name place row placed at is other =
    not_there (value_of (map seen_row table) name) (map seen_row table) name (seen_row row) place
    (λ v here. rw (sym at) at (found_at places 0 (map seen_row table) name v placed here)) (rw (seen_at table place row is) other)

past : {V : Type 0} (o : Option V) (rows : List (List ℕ × V)) (name : List ℕ) (place : ℕ) → ((v : V) → o ≡ Some v → Found place 0 rows name v) → length rows ≤ place → None ≡ o
past None rows name place found high = refl
past (Some v) rows name place found high = let f = found v refl in absurd (omega (arith, f.here, f.low))

-- there is no row there
pub none_past : {V : Type 0} (places : List ℕ) (table : List (Bor (List ℕ) × V)) (name : List ℕ) (place : ℕ) → are_placed places 0 (map seen_row table) ≡ true → place ≡ get_or places (mark name) 0 → length table ≤ place → None ≡ value_of (map seen_row table) name
none_past places table name place placed at high =
    past (value_of (map seen_row table) name) (map seen_row table) name place
    (λ v here. rw (sym at) at (found_at places 0 (map seen_row table) name v placed here)) (omega (arith, seen_length table))
