-- Lemmas on the places of a heap: how its rows change when entries change places.
use Rattle.rt_queue.proofs.Common.{◌≡◌, ◌≢◌, ℕ, zero, suc, ◌<◌, nat_lt, cond, List, [], ◌∷◌, length, set, get_or, Option, None, Some, refl, sym, ap, subst, ◌∙◌, inl, inr, arith, cases_eq, get_or-set_same, get_or-set_other, length-set, entry_at, keys_in, AreInverse}
use Rattle.std.proofs.Common.{Bool}
use Rattle.std.proofs.lemmas.Bool.{lt-ltb}
use Rattle.std.proofs.lemmas.List.{set-set, set_comm, set-get_or}
use Rattle.rt_queue.proofs.heap.HeapOrderLemmas.{AreExchanged}

-- the entry at a place follows from the number there
pub entry_at-same : (keys order next : List ℕ) (i j : ℕ) → get_or next i 0 ≡ get_or order j 0 → entry_at keys next i ≡ entry_at keys order j
entry_at-same keys order next i j same = ap (λ (n : ℕ). (get_or keys n 0, n)) same

-- a row after two writes, read at the second place, at the first, and elsewhere
pub set-set-at_second : (xs : List ℕ) (i j x y : ℕ) → j < length xs → get_or (set (set xs i x) j y) j 0 ≡ y
set-set-at_second xs i j x y below =
    get_or-set_same (set xs i x) j y 0 (rw length-set below)

pub set-set-at_first : (xs : List ℕ) (i j x y : ℕ) → i < length xs → i ≢ j → get_or (set (set xs i x) j y) i 0 ≡ x
set-set-at_first xs i j x y below apart = get_or-set_other (set xs i x) j i y 0 apart ∙ get_or-set_same xs i x 0 below

pub set-set-elsewhere : (xs : List ℕ) (i j x y k : ℕ) → k ≢ i → k ≢ j → get_or (set (set xs i x) j y) k 0 ≡ get_or xs k 0
set-set-elsewhere xs i j x y k not_i not_j = get_or-set_other (set xs i x) j k y 0 not_j ∙ get_or-set_other xs i k x 0 not_i

-- the hole goes from one place to another, and the number there into the old one
pub entries-moved : (keys order : List ℕ) (hole place moving : ℕ) → hole < length order → place < length order → hole ≢ place →
    AreExchanged (entry_at keys (set order hole moving)) (entry_at keys (set (set order hole (get_or order place 0)) place moving)) hole place
entries-moved keys order hole place moving low high apart = record {
  at_one = entry_at-same keys (set order hole moving) (set (set order hole (get_or order place 0)) place moving) hole place
      (set-set-at_first order hole place (get_or order place 0) moving low apart
      ∙ sym (get_or-set_other order hole place moving 0 (λ same. apart (sym same))));
  at_other = entry_at-same keys (set order hole moving) (set (set order hole (get_or order place 0)) place moving) place hole
      (set-set-at_second order hole place (get_or order place 0) moving high ∙ sym (get_or-set_same order hole moving 0 low));
  elsewhere = λ other not_one not_other.
      entry_at-same keys (set order hole moving) (set (set order hole (get_or order place 0)) place moving) other other
      (set-set-elsewhere order hole place (get_or order place 0) moving other not_one not_other
      ∙ sym (get_or-set_other order hole other moving 0 not_one));
}

pub length-set-set : (xs : List ℕ) (i j x y : ℕ) → length (set (set xs i x) j y) ≡ length xs
length-set-set xs i j x y = length-set (set xs i x) j y ∙ length-set xs i x

set-set-below : (xs : List ℕ) (i j x y k n : ℕ) → i < length xs → j < length xs → x < n → y < n → get_or xs k 0 < n →
    get_or (set (set xs i x) j y) k 0 < n
set-set-below xs i j x y k n low high first second old =
    elim (cases_eq k j) [
      | inl same ↦ subst (λ p. get_or (set (set xs i x) j y) p 0 < n) (sym same) (rw (set-set-at_second xs i j x y high) second)
      | inr not_j ↦
          elim (cases_eq k i) [
            | inl same ↦ subst (λ p. get_or (set (set xs i x) j y) p 0 < n) (sym same)
                (rw (set-set-at_first xs i j x y low (λ e. not_j (same ∙ e))) first)
            | inr not_i ↦ rw (set-set-elsewhere xs i j x y k not_i not_j) old
          ]
    ]

-- rows of numbers and places before and after two numbers change places: `u` at the place `i` and `v` at `j`
pub record IsExchange (order places : List ℕ) (i j u v : ℕ) : Type 0 where
  pub low : i < length order
  pub high : j < length order
  pub inverse : AreInverse order places
  pub there : get_or order i 0 ≡ u
  pub then : get_or order j 0 ≡ v

exchanged-number_there : (order places : List ℕ) (i j u v : ℕ) → IsExchange order places i j u v → (place : ℕ) → place < length order →
    get_or (set (set places v i) u j) (get_or (set (set order i v) j u) place 0) 0 ≡ place
exchanged-number_there order places i j u v x place below =
    let same_length : length places ≡ length order = x.inverse.same_length in
    let u_below : u < length places = rw (same_length, ← x.there) (x.inverse.number_below i x.low) in
    let v_below : v < length places = rw (same_length, ← x.then) (x.inverse.number_below j x.high) in
    let u_there : get_or places u 0 ≡ i = rw (← x.there) (x.inverse.number_there i x.low) in
    let v_there : get_or places v 0 ≡ j = rw (← x.then) (x.inverse.number_there j x.high) in
    elim (cases_eq place j) [
      | inl same ↦
          ap (λ p. get_or (set (set places v i) u j) (get_or (set (set order i v) j u) p 0) 0) same
          ∙ (ap (λ n. get_or (set (set places v i) u j) n 0) (set-set-at_second order i j v u x.high)
          ∙ (set-set-at_second places v u i j u_below ∙ sym same))
      | inr not_j ↦
          elim (cases_eq place i) [
            | inl same ↦
                let apart : i ≢ j = λ e. not_j (same ∙ e) in
                let numbers_apart : v ≢ u = λ e. apart (sym u_there ∙ (ap (λ n. get_or places n 0) (sym e) ∙ v_there)) in
                ap (λ p. get_or (set (set places v i) u j) (get_or (set (set order i v) j u) p 0) 0) same
                ∙ (ap (λ n. get_or (set (set places v i) u j) n 0) (set-set-at_first order i j v u x.low apart)
                ∙ (set-set-at_first places v u i j v_below numbers_apart ∙ sym same))
            | inr not_i ↦
                let kept : get_or places (get_or order place 0) 0 ≡ place = x.inverse.number_there place below in
                ap (λ n. get_or (set (set places v i) u j) n 0) (set-set-elsewhere order i j v u place not_i not_j)
                ∙ (set-set-elsewhere places v u i j (get_or order place 0)
                (λ e. not_j (sym kept ∙ (ap (λ n. get_or places n 0) e ∙ v_there)))
                (λ e. not_i (sym kept ∙ (ap (λ n. get_or places n 0) e ∙ u_there)))
                ∙ kept)
          ]
    ]

exchanged-place_of : (order places : List ℕ) (i j u v : ℕ) → IsExchange order places i j u v → (number : ℕ) → number < length order →
    get_or (set (set order i v) j u) (get_or (set (set places v i) u j) number 0) 0 ≡ number
exchanged-place_of order places i j u v x number below =
    let same_length : length places ≡ length order = x.inverse.same_length in
    let u_below : u < length places = rw (same_length, ← x.there) (x.inverse.number_below i x.low) in
    let v_below : v < length places = rw (same_length, ← x.then) (x.inverse.number_below j x.high) in
    let u_there : get_or places u 0 ≡ i = rw (← x.there) (x.inverse.number_there i x.low) in
    let v_there : get_or places v 0 ≡ j = rw (← x.then) (x.inverse.number_there j x.high) in
    elim (cases_eq number u) [
      | inl same ↦
          ap (λ n. get_or (set (set order i v) j u) (get_or (set (set places v i) u j) n 0) 0) same
          ∙ (ap (λ p. get_or (set (set order i v) j u) p 0) (set-set-at_second places v u i j u_below)
          ∙ (set-set-at_second order i j v u x.high ∙ sym same))
      | inr not_u ↦
          elim (cases_eq number v) [
            | inl same ↦
                let numbers_apart : v ≢ u = λ e. not_u (same ∙ e) in
                let apart : i ≢ j = λ e. numbers_apart (sym x.then ∙ (ap (λ p. get_or order p 0) (sym e) ∙ x.there)) in
                ap (λ n. get_or (set (set order i v) j u) (get_or (set (set places v i) u j) n 0) 0) same
                ∙ (ap (λ p. get_or (set (set order i v) j u) p 0) (set-set-at_first places v u i j v_below numbers_apart)
                ∙ (set-set-at_first order i j v u x.low apart ∙ sym same))
            | inr not_v ↦
                let kept : get_or order (get_or places number 0) 0 ≡ number = x.inverse.place_of number below in
                ap (λ p. get_or (set (set order i v) j u) p 0) (set-set-elsewhere places v u i j number not_v not_u)
                ∙ (set-set-elsewhere order i j v u (get_or places number 0)
                (λ e. not_u (sym kept ∙ (ap (λ p. get_or order p 0) e ∙ x.there)))
                (λ e. not_v (sym kept ∙ (ap (λ p. get_or order p 0) e ∙ x.then)))
                ∙ kept)
          ]
    ]

-- two numbers change places
pub AreInverse-set : (order places : List ℕ) (i j u v : ℕ) → IsExchange order places i j u v →
    AreInverse (set (set order i v) j u) (set (set places v i) u j)
AreInverse-set order places i j u v x =
    let same_length : length places ≡ length order = x.inverse.same_length in
    let same_order : length (set (set order i v) j u) ≡ length order = length-set-set order i j v u in
    let same_places : length (set (set places v i) u j) ≡ length places = length-set-set places v u i j in
    let u_below : u < length order = rw (← x.there) (x.inverse.number_below i x.low) in
    let v_below : v < length order = rw (← x.then) (x.inverse.number_below j x.high) in
    record {
      same_length = same_places ∙ (same_length ∙ sym same_order);
      number_below = λ place below.
          rw same_order (set-set-below order i j v u place (length order) x.low x.high v_below u_below (x.inverse.number_below place (rw same_order at below)));
      place_below = λ number below.
          rw same_order (set-set-below places v u i j number (length order) (rw same_length v_below) (rw same_length u_below) x.low x.high
          (x.inverse.place_below number (rw same_order at below)));
      number_there = λ place below. exchanged-number_there order places i j u v x place (rw same_order at below);
      place_of = λ number below. exchanged-place_of order places i j u v x number (rw same_order at below);
    }

-- the writes of a hole that moves are an exchange
moved-order : (order : List ℕ) (hole place moving other : ℕ) →
    set (set (set order hole moving) hole other) place moving ≡ set (set order hole other) place moving
moved-order order hole place moving other = ap (λ xs. set xs place moving) (set-set order hole moving other)

moved-places : (places : List ℕ) (hole place moving other : ℕ) → moving ≢ other →
    set (set (set places moving hole) other hole) moving place ≡ set (set places other hole) moving place
moved-places places hole place moving other apart =
    ap (λ xs. set xs moving place) (set_comm places moving other hole hole apart) ∙ set-set (set places other hole) moving hole place

-- the number at another place isn't the moving one
moving-apart : (order places : List ℕ) (hole place moving : ℕ) → hole < length order → place < length order → hole ≢ place →
    AreInverse (set order hole moving) (set places moving hole) → moving ≢ get_or order place 0
moving-apart order places hole place moving low high apart inverse same =
    let order' = set order hole moving in
    let places' = set places moving hole in
    let at_hole : get_or order' hole 0 ≡ moving = get_or-set_same order hole moving 0 low in
    let at_place : get_or order' place 0 ≡ get_or order place 0 = get_or-set_other order hole place moving 0 (λ e. apart (sym e)) in
    let hole_there : get_or places' (get_or order' hole 0) 0 ≡ hole = inverse.number_there hole (rw length-set low) in
    let place_there : get_or places' (get_or order' place 0) 0 ≡ place = inverse.number_there place (rw length-set high) in
    apart (sym hole_there ∙ (ap (λ n. get_or places' n 0) (at_hole ∙ (same ∙ sym at_place)) ∙ place_there))

-- so numbers and places stay inverse
pub AreInverse-moved : (order places : List ℕ) (hole place moving : ℕ) → hole < length order → place < length order → hole ≢ place →
    AreInverse (set order hole moving) (set places moving hole) →
    AreInverse (set (set order hole (get_or order place 0)) place moving) (set (set places (get_or order place 0) hole) moving place)
AreInverse-moved order places hole place moving low high apart inverse =
    let other = get_or order place 0 in
    let numbers_apart : moving ≢ other = moving-apart order places hole place moving low high apart inverse in
    let same_order : set (set (set order hole moving) hole other) place moving ≡ set (set order hole other) place moving =
    moved-order order hole place moving other in
    let same_places : set (set (set places moving hole) other hole) moving place ≡ set (set places other hole) moving place =
    moved-places places hole place moving other numbers_apart in
    let swapped : AreInverse (set (set (set order hole moving) hole other) place moving) (set (set (set places moving hole) other hole) moving place) =
    AreInverse-set (set order hole moving) (set places moving hole) hole place moving other
    (record {
      low = rw length-set low;
      high = rw length-set high;
      inverse = inverse;
      there = get_or-set_same order hole moving 0 low;
      then = get_or-set_other order hole place moving 0 (λ e. apart (sym e));
    }) in
    subst (λ xs. AreInverse xs (set (set places other hole) moving place)) same_order
    (subst (λ ys. AreInverse (set (set (set order hole moving) hole other) place moving) ys) same_places swapped)

-- a place that changes and stays on its side of the length keeps the row of keys
keys_in-set : (keys places : List ℕ) (number place len : ℕ) → nat_lt place len ≡ nat_lt (get_or places number 0) len →
    keys_in keys (set places number place) len ≡ keys_in keys places len
keys_in-set [] places number place len same = refl
keys_in-set (key ∷ keys) [] number place len same = refl
keys_in-set (key ∷ keys) (old ∷ places) zero place len same =
    ap (λ (b : Bool). cond b (Some key) None ∷ keys_in keys places len) same
keys_in-set (key ∷ keys) (old ∷ places) (suc number) place len same =
    ap (λ (row : List (Option ℕ)). cond (nat_lt old len) (Some key) None ∷ row) (keys_in-set keys places number place len same)

both_below : (a b len : ℕ) → a < len → b < len → nat_lt a len ≡ nat_lt b len
both_below a b len first second = lt-ltb a len first ∙ sym (lt-ltb b len second)

-- a hole that moves within the length keeps it
pub keys_in-moved : (keys order places : List ℕ) (hole place moving len : ℕ) → hole < length order → place < length order → hole ≢ place →
    hole < len → place < len → AreInverse (set order hole moving) (set places moving hole) →
    keys_in keys (set (set places (get_or order place 0) hole) moving place) len ≡ keys_in keys (set places moving hole) len
keys_in-moved keys order places hole place moving len low high apart hole_in place_in inverse =
    let other = get_or order place 0 in
    let places' = set places moving hole in
    let numbers_apart : moving ≢ other = moving-apart order places hole place moving low high apart inverse in
    let at_hole : get_or (set order hole moving) hole 0 ≡ moving = get_or-set_same order hole moving 0 low in
    let at_place : get_or (set order hole moving) place 0 ≡ other = get_or-set_other order hole place moving 0 (λ e. apart (sym e)) in
    let moving_there : get_or places' moving 0 ≡ hole =
    subst (λ n. get_or places' n 0 ≡ hole) at_hole (inverse.number_there hole (rw length-set low)) in
    let other_there : get_or places' other 0 ≡ place =
    subst (λ n. get_or places' n 0 ≡ place) at_place (inverse.number_there place (rw length-set high)) in
    let other_moves : keys_in keys (set places' other hole) len ≡ keys_in keys places' len =
    keys_in-set keys places' other hole len (rw other_there (both_below hole place len hole_in place_in)) in
    let moving_stays : get_or (set places' other hole) moving 0 ≡ hole =
    get_or-set_other places' other moving hole 0 numbers_apart ∙ moving_there in
    let moving_moves : keys_in keys (set (set places' other hole) moving place) len ≡ keys_in keys (set places' other hole) len =
    keys_in-set keys (set places' other hole) moving place len (rw moving_stays (both_below place hole len place_in hole_in)) in
    ap (λ ps. keys_in keys ps len) (sym (moved-places places hole place moving other numbers_apart)) ∙ (moving_moves ∙ other_moves)

-- a row that is written with what it has
pub set-kept : (xs : List ℕ) (i x : ℕ) → get_or xs i 0 ≡ x → set xs i x ≡ xs
set-kept xs i x is = ap (λ (y : ℕ). set xs i y) (sym is) ∙ set-get_or xs i 0

-- a number outside of the hole is one of the row
pub number-below : (order places : List ℕ) (hole place moving : ℕ) → hole ≢ place → place < length order →
    AreInverse (set order hole moving) (set places moving hole) → get_or order place 0 < length order
number-below order places hole place moving apart low inverse =
    let kept : get_or (set order hole moving) place 0 ≡ get_or order place 0 = get_or-set_other order hole place moving 0 (λ e. apart (sym e)) in
    let below : get_or (set order hole moving) place 0 < length (set order hole moving) = inverse.number_below place (rw length-set low) in
    omega (arith, below, kept, length-set order hole moving)
