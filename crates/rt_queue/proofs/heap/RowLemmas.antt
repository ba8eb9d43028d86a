-- Lemmas on the row of keys that a heap stands for.
use Rattle.rt_queue.proofs.Common.{◌≡◌, ◌≢◌, ℕ, zero, suc, ◌+◌, ◌-◌, ◌<◌, ◌≤◌, ◌⊎◌, nat_lt, cond, List, [], ◌∷◌, length, replicate, set, get_or, Option, None, Some, refl, sym, ap, subst, ◌∙◌, inl, inr, arith, cases_eq, nat_tests, get_or-set_same, get_or-set_other, get_or_past, length-set, key_at, NotAfter, IsLeast, entry_at, keys_in, AreInverse, IsRising}
use Rattle.std.proofs.Common.{Bool, true, false, IsSome}
use Rattle.std.proofs.lemmas.Bool.{lt-ltb, le-ltb, ltb-true}
use Rattle.std.proofs.lemmas.List.{ext_get_or}
use Rattle.rt_queue.specs.heap.HeapOrder.{IsOrdered}
use Rattle.rt_queue.specs.heap.IsHeap.{IsHeap}
use Rattle.rt_queue.proofs.heap.HeapOrderLemmas.{IsReplaced, added-rising, top-first}
use Rattle.rt_queue.proofs.LeastLemmas.{none_is_not_some, some-injective}
use Rattle.rt_queue.proofs.heap.PlacesLemmas.{length-set-set, set-set-at_first, set-set-at_second, set-set-elsewhere}

pub length-keys_in : (keys places : List ℕ) (len : ℕ) → length places ≡ length keys → length (keys_in keys places len) ≡ length keys
length-keys_in [] places len same = refl
length-keys_in (key ∷ keys) [] len same = absurd (omega (arith, same))
length-keys_in (key ∷ keys) (place ∷ places) len same = ap suc (length-keys_in keys places len (omega (arith, same)))

-- a number's key in the row
pub key_at-keys_in : (keys places : List ℕ) (len number : ℕ) → number < length keys → length places ≡ length keys →
    key_at (keys_in keys places len) number ≡ cond (nat_lt (get_or places number 0) len) (Some (get_or keys number 0)) None
key_at-keys_in [] places len number below same = absurd (omega (arith, below))
key_at-keys_in (key ∷ keys) [] len number below same = absurd (omega (arith, same))
key_at-keys_in (key ∷ keys) (place ∷ places) len zero below same = refl
key_at-keys_in (key ∷ keys) (place ∷ places) len (suc number) below same =
    key_at-keys_in keys places len number (omega (arith, below)) (omega (arith, same))

-- it has one where its place is below the length
pub key_at-in : (keys places : List ℕ) (len number : ℕ) → number < length keys → length places ≡ length keys →
    get_or places number 0 < len → key_at (keys_in keys places len) number ≡ Some (get_or keys number 0)
key_at-in keys places len number below same there =
    key_at-keys_in keys places len number below same
    ∙ ap (λ b. cond b (Some (get_or keys number 0)) None) (lt-ltb (get_or places number 0) len there)

-- and else none
pub key_at-out : (keys places : List ℕ) (len number : ℕ) → number < length keys → length places ≡ length keys →
    len ≤ get_or places number 0 → key_at (keys_in keys places len) number ≡ None
key_at-out keys places len number below same past =
    key_at-keys_in keys places len number below same
    ∙ ap (λ b. cond b (Some (get_or keys number 0)) None) (le-ltb (get_or places number 0) len past)

pub key_at-past : (keys places : List ℕ) (len number : ℕ) → length places ≡ length keys → length keys ≤ number →
    key_at (keys_in keys places len) number ≡ None
key_at-past keys places len number same past =
    get_or_past (keys_in keys places len) number None (omega (arith, length-keys_in keys places len same, past))

-- what a number with a key in the row is
pub record IsIn (keys places : List ℕ) (len number key : ℕ) : Type 0 where
  pub below : number < length keys
  pub place : get_or places number 0 < len
  pub keyed : get_or keys number 0 ≡ key

pub keys_in-there : (keys places : List ℕ) (len number key : ℕ) → key_at (keys_in keys places len) number ≡ Some key → IsIn keys places len number key
keys_in-there [] places len number key there = absurd (none_is_not_some key there)
keys_in-there (k ∷ keys) [] len number key there = absurd (none_is_not_some key there)
keys_in-there (k ∷ keys) (place ∷ places) len zero key there =
    elim (nat_lt place len) as (λ b. nat_lt place len ≡ b → cond b (Some k) None ≡ Some key → IsIn (k ∷ keys) (place ∷ places) len zero key) [
      | true ↦ λ low is. record { below = omega arith; place = ltb-true place len low; keyed = some-injective k key is }
      | false ↦ λ high is. absurd (none_is_not_some key is)
    ] refl there
keys_in-there (k ∷ keys) (place ∷ places) len (suc number) key there =
    let rest : IsIn keys places len number key = keys_in-there keys places len number key there in
    record { below = omega (arith, rest.below); place = rest.place; keyed = rest.keyed }

-- the place of a number without a key isn't below the length
pub absent-place : (keys places : List ℕ) (len number : ℕ) → number < length keys → length places ≡ length keys →
    key_at (keys_in keys places len) number ≡ None → len ≤ get_or places number 0
absent-place keys places len number below same absent =
    elim (nat_lt (get_or places number 0) len) as (λ b. nat_lt (get_or places number 0) len ≡ b → len ≤ get_or places number 0) [
      | true ↦ λ low. absurd (none_is_not_some (get_or keys number 0) (sym absent ∙ key_at-in keys places len number below same (ltb-true (get_or places number 0) len low)))
      | false ↦ λ high. grind (arith, nat_tests, high)
    ] refl

-- an empty heap has no least entry
pub IsLeast-empty : (keys places : List ℕ) → length places ≡ length keys → IsLeast (keys_in keys places 0) None
IsLeast-empty keys places same number =
    elim (nat_lt number (length keys)) as (λ b. nat_lt number (length keys) ≡ b → key_at (keys_in keys places 0) number ≡ None) [
      | true ↦ λ low. key_at-out keys places 0 number (ltb-true number (length keys) low) same (omega arith)
      | false ↦ λ high. key_at-past keys places 0 number same (grind (arith, nat_tests, high))
    ] refl

-- the least entry is at the top
pub IsLeast-top : (keys order places : List ℕ) (len : ℕ) → IsHeap keys order places len → 0 < len →
    IsLeast (keys_in keys places len) (Some (entry_at keys order 0))
IsLeast-top keys order places len heap positive = (
  key_at-in keys places len (get_or order 0 0) (omega (arith, heap.inverse.number_below 0 room, heap.keyed)) same_length
      (omega (arith, heap.inverse.number_there 0 room, positive)),
  first,
)
  where
    room : 0 < length order
    room = omega (arith, positive, heap.within)

    same_length : length places ≡ length keys
    same_length = omega (arith, heap.inverse.same_length, heap.keyed)

    first : (number key : ℕ) → key_at (keys_in keys places len) number ≡ Some key → NotAfter (entry_at keys order 0) (key, number)
    first number key there =
        let there_in : IsIn keys places len number key = keys_in-there keys places len number key there in
        let at : get_or order (get_or places number 0) 0 ≡ number = heap.inverse.place_of number (omega (arith, there_in.below, heap.keyed)) in
        let is : entry_at keys order (get_or places number 0) ≡ (key, number) =
        ap (λ (n : ℕ). (get_or keys n 0, n)) at ∙ ap (λ (k : ℕ). (k, number)) there_in.keyed in
        subst (λ e. NotAfter (entry_at keys order 0) e) is
        (top-first (entry_at keys order) len heap.ordered (get_or places number 0) there_in.place)

-- a number `n` is put at the place `at`, and the one there at its old place
pub record CanExchange (keys order places : List ℕ) (n at : ℕ) : Type 0 where
  pub keyed : length keys ≡ length order
  pub inverse : AreInverse order places
  pub number : n < length order
  pub place : at < length order

abbrev pub order_after : List ℕ → List ℕ → ℕ → ℕ → List ℕ
order_after order places n at = set (set order (get_or places n 0) (get_or order at 0)) at n

abbrev pub places_after : List ℕ → List ℕ → ℕ → ℕ → List ℕ
places_after order places n at = set (set places (get_or order at 0) (get_or places n 0)) n at

-- each other number is the one that was at the place, or stays
place-after : (keys order places : List ℕ) (n at i : ℕ) → CanExchange keys order places n at → i < length order → i ≢ n →
    ((get_or (places_after order places n at) i 0 ≡ get_or places n 0) × (get_or places i 0 ≡ at) × (get_or places n 0 ≢ at))
    ⊎ ((get_or (places_after order places n at) i 0 ≡ get_or places i 0) × (get_or places i 0 ≢ at))
place-after keys order places n at i x below other =
    let o = get_or order at 0 in
    let was = get_or places n 0 in
    let o_below : o < length places = omega (arith, x.inverse.number_below at x.place, x.inverse.same_length) in
    let o_there : get_or places o 0 ≡ at = x.inverse.number_there at x.place in
    let n_there : get_or order was 0 ≡ n = x.inverse.place_of n x.number in
    let i_there : get_or order (get_or places i 0) 0 ≡ i = x.inverse.place_of i below in
    elim (cases_eq i o) [
      | inl same ↦ inl (
        ap (λ k. get_or (set (set places o was) n at) k 0) same
            ∙ set-set-at_first places o n was at o_below (λ e. other (same ∙ e)),
        ap (λ k. get_or places k 0) same ∙ o_there,
        λ e. other (same ∙ (ap (λ p. get_or order p 0) (sym e) ∙ n_there)),
      )
      | inr not_o ↦ inr (set-set-elsewhere places o n was at i not_o other, λ e. not_o (sym i_there ∙ ap (λ p. get_or order p 0) e))
    ]

-- a row where one number has changed
pub row-changed : (keys next places after : List ℕ) (len new n : ℕ) (x : Option ℕ) → length places ≡ length keys → length next ≡ length keys →
    length after ≡ length keys → n < length keys → key_at (keys_in next after new) n ≡ x →
    ((i : ℕ) → i < length keys → i ≢ n → (get_or next i 0 ≡ get_or keys i 0) × (nat_lt (get_or after i 0) new ≡ nat_lt (get_or places i 0) len)) →
    keys_in next after new ≡ set (keys_in keys places len) n x
row-changed keys next places after len new n x same_places same_next same_after below is others =
    ext_get_or None (keys_in next after new) (set (keys_in keys places len) n x)
    (length-keys_in next after new (same_after ∙ sym same_next)
    ∙ (same_next ∙ sym (length-set (keys_in keys places len) n x ∙ length-keys_in keys places len same_places)))
    each
  where
    each : (i : ℕ) → i < length (keys_in next after new) → get_or (keys_in next after new) i None ≡ get_or (set (keys_in keys places len) n x) i None
    each i low =
        let i_below : i < length keys = omega (arith, low, length-keys_in next after new (same_after ∙ sym same_next), same_next) in
        elim (cases_eq i n) [
          | inl same ↦
              ap (λ k. get_or (keys_in next after new) k None) same
              ∙ (is ∙ (sym (get_or-set_same (keys_in keys places len) n x None (omega (arith, below, length-keys_in keys places len same_places)))
              ∙ ap (λ k. get_or (set (keys_in keys places len) n x) k None) (sym same)))
          | inr other ↦
              let kept : (get_or next i 0 ≡ get_or keys i 0) × (nat_lt (get_or after i 0) new ≡ nat_lt (get_or places i 0) len) = others i i_below other in
              key_at-keys_in next after new i (omega (arith, i_below, same_next)) (same_after ∙ sym same_next)
              ∙ (ap (λ b. cond b (Some (get_or next i 0)) None) kept.1
              ∙ (ap (λ k. cond (nat_lt (get_or places i 0) len) (Some k) None) kept.0
              ∙ (sym (key_at-keys_in keys places len i i_below same_places)
              ∙ sym (get_or-set_other (keys_in keys places len) n i x None other))))
        ]

-- a number without a key gets one, and the place behind the last
pub keys_in-inserted : (keys order places : List ℕ) (n key len : ℕ) → CanExchange keys order places n len → len ≤ get_or places n 0 →
    keys_in (set keys n key) (places_after order places n len) (len + 1) ≡ set (keys_in keys places len) n (Some key)
keys_in-inserted keys order places n key len x past =
    let next = set keys n key in
    let after = places_after order places n len in
    let same_places : length places ≡ length keys = omega (arith, x.inverse.same_length, x.keyed) in
    let same_after : length after ≡ length keys = length-set-set places (get_or order len 0) n (get_or places n 0) len ∙ same_places in
    let same_next : length next ≡ length keys = length-set keys n key in
    let below : n < length keys = omega (arith, x.number, x.keyed) in
    let n_below : n < length places = omega (arith, below, same_places) in
    let placed : get_or after n 0 ≡ len = set-set-at_second places (get_or order len 0) n (get_or places n 0) len n_below in
    row-changed keys next places after len (len + 1) n (Some key) same_places same_next same_after below
    (key_at-in next after (len + 1) n (omega (arith, below, same_next)) (same_after ∙ sym same_next) (omega (arith, placed))
    ∙ ap (λ k. Some k) (get_or-set_same keys n key 0 below))
    (λ i low other. (
      get_or-set_other keys n i key 0 other,
      elim (place-after keys order places n len i x (omega (arith, low, x.keyed)) other) [
        | inl went ↦ rw (went.0, went.1) (le-ltb (get_or places n 0) (len + 1) (omega (arith, past, went.2)) ∙ sym (le-ltb len len (omega arith)))
        | inr stayed ↦ rw stayed.0 (beside (get_or places i 0) len stayed.1)
      ],
    ))
  where
    beside : (p len : ℕ) → p ≢ len → nat_lt p (len + 1) ≡ nat_lt p len
    beside p len apart = grind (arith, nat_tests, apart)

-- a number loses its key, and gets the last place
pub keys_in-removed : (keys order places : List ℕ) (n len last : ℕ) → CanExchange keys order places n last → get_or places n 0 < len → last + 1 ≡ len →
    keys_in keys (places_after order places n last) last ≡ set (keys_in keys places len) n None
keys_in-removed keys order places n len last x there shorter =
    let after = places_after order places n last in
    let same_places : length places ≡ length keys = omega (arith, x.inverse.same_length, x.keyed) in
    let same_after : length after ≡ length keys = length-set-set places (get_or order last 0) n (get_or places n 0) last ∙ same_places in
    let below : n < length keys = omega (arith, x.number, x.keyed) in
    let n_below : n < length places = omega (arith, below, same_places) in
    let placed : get_or after n 0 ≡ last = set-set-at_second places (get_or order last 0) n (get_or places n 0) last n_below in
    row-changed keys keys places after len last n None same_places refl same_after below
    (key_at-out keys after last n below same_after (omega (arith, placed)))
    (λ i low other. (
      refl,
      elim (place-after keys order places n last i x (omega (arith, low, x.keyed)) other) [
        | inl went ↦ rw (went.0, went.1) (lt-ltb (get_or places n 0) last (omega (arith, there, shorter, went.2)) ∙ sym (lt-ltb last len (omega (arith, shorter))))
        | inr stayed ↦ rw stayed.0 (beside (get_or places i 0) len last stayed.1 shorter)
      ],
    ))
  where
    beside : (p len last : ℕ) → p ≢ last → last + 1 ≡ len → nat_lt p last ≡ nat_lt p len
    beside p len last apart shorter = grind (arith, nat_tests, apart, shorter)

-- the number at a place that is neither
order-after : (order places : List ℕ) (n at p : ℕ) → p ≢ get_or places n 0 → p ≢ at → get_or (order_after order places n at) p 0 ≡ get_or order p 0
order-after order places n at p not_was not_at = set-set-elsewhere order (get_or places n 0) at (get_or order at 0) n p not_was not_at

-- an insert leaves the entries of the heap where they were
pub inserted-rising : (keys order places : List ℕ) (n key len : ℕ) → CanExchange keys order places n len → len ≤ get_or places n 0 →
    IsOrdered (entry_at keys order) len → IsRising (entry_at (set keys n key) (order_after order places n len)) (len + 1) len
inserted-rising keys order places n key len x past ordered =
    added-rising (entry_at keys order) (entry_at (set keys n key) (order_after order places n len)) len ordered
    (λ p low.
    let same : get_or (order_after order places n len) p 0 ≡ get_or order p 0 =
    order-after order places n len p (λ e. absurd (omega (arith, e, low, past))) (λ e. absurd (omega (arith, e, low))) in
    let p_there : get_or places (get_or order p 0) 0 ≡ p = x.inverse.number_there p (omega (arith, low, x.place)) in
    let other : get_or order p 0 ≢ n = λ e. absurd (omega (arith, p_there, ap (λ k. get_or places k 0) e, low, past)) in
    ap (λ (m : ℕ). (get_or (set keys n key) m 0, m)) same
    ∙ ap (λ (k : ℕ). (k, get_or order p 0)) (get_or-set_other keys n (get_or order p 0) key 0 other))

-- a removal leaves all entries but one where they were
pub removed-replaced : (keys order places : List ℕ) (n last : ℕ) →
    IsReplaced (entry_at keys order) (entry_at keys (order_after order places n last)) last (get_or places n 0)
removed-replaced keys order places n last p low apart =
    ap (λ (m : ℕ). (get_or keys m 0, m)) (order-after order places n last p apart (λ e. absurd (omega (arith, e, low))))

IsSome-value : (o : Option ℕ) → IsSome o → (key : ℕ) × (o ≡ Some key)
IsSome-value None there = cc
IsSome-value (Some key) there = (key, refl)

-- where a number without a key stands
pub absent-number : (keys places : List ℕ) (row : List (Option ℕ)) (len number : ℕ) → keys_in keys places len ≡ row → length places ≡ length keys →
    number < length row → key_at row number ≡ None → (number < length keys) × (len ≤ get_or places number 0)
absent-number keys places row len number is same below absent =
    let low : number < length keys = omega (arith, below, ap length is, length-keys_in keys places len same) in
    (low, absent-place keys places len number low same (ap (λ r. key_at r number) is ∙ absent))

-- where a number with a key stands
pub present-number : (keys places : List ℕ) (row : List (Option ℕ)) (len number : ℕ) → keys_in keys places len ≡ row → IsSome (key_at row number) →
    (number < length keys) × (get_or places number 0 < len)
present-number keys places row len number is there =
    let value = IsSome-value (key_at row number) there in
    let known : IsIn keys places len number value.0 = keys_in-there keys places len number value.0 (ap (λ r. key_at r number) is ∙ value.1) in
    (known.below, known.place)

-- no number has a key in an empty heap
pub keys_in-none : (keys places : List ℕ) → length places ≡ length keys → keys_in keys places 0 ≡ replicate (length keys) None
keys_in-none [] places same = refl
keys_in-none (key ∷ keys) [] same = absurd (omega (arith, same))
keys_in-none (key ∷ keys) (place ∷ places) same =
    ap (λ (b : Bool). cond b (Some key) None ∷ keys_in keys places 0) (le-ltb place 0 (omega arith))
    ∙ ap (λ (row : List (Option ℕ)). None ∷ row) (keys_in-none keys places (omega (arith, same)))

-- the place behind the heap is one of its rows, where some number isn't in it
pub exchange-behind : (keys order places : List ℕ) (len number : ℕ) → IsHeap keys order places len → number < length keys → len ≤ get_or places number 0 →
    CanExchange keys order places number len
exchange-behind keys order places len number heap below absent = record {
  keyed = heap.keyed;
  inverse = heap.inverse;
  number = omega (arith, below, heap.keyed);
  place = omega (arith, heap.inverse.place_below number (omega (arith, below, heap.keyed)), absent);
}

-- so is the last place of the heap, where some number is in it
pub exchange-last : (keys order places : List ℕ) (len number : ℕ) → IsHeap keys order places len → number < length keys → get_or places number 0 < len →
    CanExchange keys order places number (len - 1)
exchange-last keys order places len number heap below present = record {
  keyed = heap.keyed;
  inverse = heap.inverse;
  number = omega (arith, below, heap.keyed);
  place = omega (arith, present, heap.within);
}
