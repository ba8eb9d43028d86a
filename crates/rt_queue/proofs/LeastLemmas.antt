-- The least entry of a row: it is unique, `least_from` finds it, and one more key keeps or replaces it.
use Rattle.rt_queue.proofs.Common.{◌≡◌, ◌≢◌, ℕ, zero, suc, ◌+◌, ◌<◌, ◌⊎◌, List, [], ◌∷◌, length, replicate, set, Option, None, Some, refl, sym, ap, subst, ◌∙◌, inl, inr, arith, cases_eq, get_or-set_same, get_or-set_other, get_or_past, key_at, NotAfter, IsLeast}
use Rattle.std.proofs.Common.{◌++◌}
use Rattle.std.proofs.Common.{append_assoc, append-nil, length-append}
use Rattle.std.proofs.Math.Seq.{set-append_seam}
use Rattle.std.proofs.lemmas.List.{get_or_at, set_at, length-replicate, length_push, replicate_more}
use Rattle.rt_queue.specs.Order.{earlier}
use Rattle.rt_queue.specs.Least.{least_from}
use Rattle.rt_queue.proofs.OrderLemmas.{NotAfter-trans, earlier-cases}

pub none_is_not_some : {X : Type 0} (x : X) → None ≡ Some x → ⊥
none_is_not_some x h = cc

pub some-injective : (x y : ℕ) → Some x ≡ Some y → x ≡ y
some-injective x y h = cc

same_entry : (a b c d : ℕ) → a ≡ c → b ≡ d → ◌≡◌ {A = Option (ℕ × ℕ)} (Some (a, b)) (Some (c, d))
same_entry a b c d p q = cc

-- two least entries are the same
pub IsLeast-unique : (keys : List (Option ℕ)) (r s : Option (ℕ × ℕ)) → IsLeast keys r → IsLeast keys s → r ≡ s
IsLeast-unique keys None None p q = refl
IsLeast-unique keys None (Some f) p q = absurd (none_is_not_some f.0 (sym (p f.1) ∙ q.0))
IsLeast-unique keys (Some e) None p q = absurd (none_is_not_some e.0 (sym (q e.1) ∙ p.0))
IsLeast-unique keys (Some e) (Some f) p q =
    let there : NotAfter e f = p.1 f.1 f.0 q.0 in
    let back : NotAfter f e = q.1 e.1 e.0 p.0 in
    let same_key : e.0 ≡ f.0 = omega (arith, there.by_key, back.by_key) in
    let same_number : e.1 ≡ f.1 = omega (arith, there.by_number, back.by_number) in
    same_entry e.0 e.1 f.0 f.1 same_key same_number

-- a number that has a key is below the row's length
pub key_at-below : (keys : List (Option ℕ)) (number key : ℕ) → key_at keys number ≡ Some key → number < length keys
key_at-below [] number key there = absurd (none_is_not_some key there)
key_at-below (x ∷ keys) zero key there = omega arith
key_at-below (x ∷ keys) (suc number) key there = omega (arith, key_at-below keys number key there)

-- once a number has a key, each number with a key has the one from before or is that number
key_at-set_cases : (keys : List (Option ℕ)) (n k number key : ℕ) → n < length keys →
    key_at (set keys n (Some k)) number ≡ Some key → (key_at keys number ≡ Some key) ⊎ ((key ≡ k) × (number ≡ n))
key_at-set_cases keys n k number key below there =
    elim (cases_eq number n) [
      | inl same ↦ inr (some-injective key k (sym there ∙ (ap (λ i. key_at (set keys n (Some k)) i) same ∙ get_or-set_same keys n (Some k) None below)), same)
      | inr other ↦ inl (sym (get_or-set_other keys n number (Some k) None other) ∙ there)
    ]

-- a new key that comes no later than the others is the least
IsLeast-set_first : (keys : List (Option ℕ)) (n k : ℕ) → n < length keys →
    ((number key : ℕ) → key_at keys number ≡ Some key → NotAfter (k, n) (key, number)) → IsLeast (set keys n (Some k)) (Some (k, n))
IsLeast-set_first keys n k below lowest = (get_or-set_same keys n (Some k) None below, order)
  where
    order : (number key : ℕ) → key_at (set keys n (Some k)) number ≡ Some key → NotAfter (k, n) (key, number)
    order number key there =
        elim (key_at-set_cases keys n k number key below there) [
          | inl old ↦ lowest number key old
          | inr new ↦ record { by_key = omega (arith, new.0); by_number = λ _. omega (arith, new.1) }
        ]

-- the least entry stays where it comes no later than the new key
IsLeast-set_kept : (keys : List (Option ℕ)) (n k : ℕ) (e : ℕ × ℕ) → n < length keys → key_at keys n ≡ None →
    IsLeast keys (Some e) → NotAfter e (k, n) → IsLeast (set keys n (Some k)) (Some e)
IsLeast-set_kept keys n k e below absent least first =
    (get_or-set_other keys n e.1 (Some k) None apart ∙ least.0, order)
  where
    apart : e.1 ≢ n
    apart same = none_is_not_some e.0 (sym absent ∙ (ap (λ i. key_at keys i) (sym same) ∙ least.0))

    order : (number key : ℕ) → key_at (set keys n (Some k)) number ≡ Some key → NotAfter e (key, number)
    order number key there =
        elim (key_at-set_cases keys n k number key below there) [
          | inl old ↦ least.1 number key old
          | inr new ↦ record { by_key = omega (arith, first.by_key, new.0); by_number = λ same. omega (arith, first.by_number, new.0, new.1, same) }
        ]

-- where a number without a key gets one, the least entry is the earlier one of it and the least before
pub IsLeast-set : (keys : List (Option ℕ)) (n k : ℕ) (r : Option (ℕ × ℕ)) → n < length keys → key_at keys n ≡ None →
    IsLeast keys r → IsLeast (set keys n (Some k)) (Some (earlier (k, n) r))
IsLeast-set keys n k None below absent empty =
    IsLeast-set_first keys n k below (λ number key there. absurd (none_is_not_some key (sym (empty number) ∙ there)))
IsLeast-set keys n k (Some e) below absent least =
    elim (earlier-cases (k, n) e) [
      | inl first ↦ subst (λ f. IsLeast (set keys n (Some k)) (Some f)) (sym first.0)
          (IsLeast-set_first keys n k below (λ number key there. NotAfter-trans (k, n) e (key, number) first.1 (least.1 number key there)))
      | inr second ↦ subst (λ f. IsLeast (set keys n (Some k)) (Some f)) (sym second.0)
          (IsLeast-set_kept keys n k e below absent least second.1)
    ]

-- no number has a key where no key was put in
pub key_at-replicate : (count number : ℕ) → key_at (replicate count None) number ≡ None
key_at-replicate zero number = refl
key_at-replicate (suc count) zero = refl
key_at-replicate (suc count) (suc number) = key_at-replicate count number

-- one more place with no key
key_at-push_none : (keys : List (Option ℕ)) (number : ℕ) → key_at (keys ++ None ∷ []) number ≡ key_at keys number
key_at-push_none [] zero = refl
key_at-push_none [] (suc number) = refl
key_at-push_none (x ∷ keys) zero = refl
key_at-push_none (x ∷ keys) (suc number) = key_at-push_none keys number

-- one more place with no key keeps the least entry
pub IsLeast-push_none : (keys : List (Option ℕ)) (r : Option (ℕ × ℕ)) → IsLeast keys r → IsLeast (keys ++ None ∷ []) r
IsLeast-push_none keys None empty = λ number. key_at-push_none keys number ∙ empty number
IsLeast-push_none keys (Some e) least =
    (key_at-push_none keys e.1 ∙ least.0, λ number key there. least.1 number key (sym (key_at-push_none keys number) ∙ there))

-- one more place with a key
pub IsLeast-push_some : (keys : List (Option ℕ)) (n k : ℕ) (r : Option (ℕ × ℕ)) → length keys ≡ n → IsLeast keys r →
    IsLeast (keys ++ Some k ∷ []) (Some (earlier (k, n) r))
IsLeast-push_some keys n k r count least =
    let below : n < length (keys ++ None ∷ []) = omega (arith, length_push keys None) in
    let absent : key_at (keys ++ None ∷ []) n ≡ None = key_at-push_none keys n ∙ get_or_past keys n None (omega arith) in
    let is : set (keys ++ None ∷ []) n (Some k) ≡ keys ++ Some k ∷ [] = rw (← count) (set-append_seam keys None [] (Some k)) in
    subst (λ row. IsLeast row (Some (earlier (k, n) r))) is
    (IsLeast-set (keys ++ None ∷ []) n k r below absent (IsLeast-push_none keys r least))

one_more : (base : ℕ) (keys : List (Option ℕ)) → replicate base None ++ None ∷ keys ≡ replicate (base + 1) None ++ keys
one_more base keys = rw (← replicate_more {X = Option ℕ} base None) (sym (append_assoc (replicate {A = Option ℕ} base None) (None ∷ []) keys))

-- what `least_from` finds in a row is the least entry of the row behind as many numbers with no key as it counts from
least_from_behind : (base : ℕ) (keys : List (Option ℕ)) → IsLeast (replicate base None ++ keys) (least_from base keys)
least_from_behind base [] = λ number. rw append-nil (key_at-replicate base number)
least_from_behind base (None ∷ keys) = rw (one_more base keys) (least_from_behind (base + 1) keys)
least_from_behind base (Some key ∷ keys) =
    let front = replicate {A = Option ℕ} base None in
    let count : length front ≡ base = length-replicate base None in
    let below : base < length (front ++ None ∷ keys) = omega (arith, length-append front (None ∷ keys)) in
    let absent : key_at (front ++ None ∷ keys) base ≡ None = get_or_at front None keys None base count in
    let is : set (front ++ None ∷ keys) base (Some key) ≡ front ++ Some key ∷ keys = set_at front None keys (Some key) base count in
    let rest : IsLeast (front ++ None ∷ keys) (least_from (base + 1) keys) = rw (one_more base keys) (least_from_behind (base + 1) keys) in
    subst (λ row. IsLeast row (Some (earlier (key, base) (least_from (base + 1) keys)))) is
    (IsLeast-set (front ++ None ∷ keys) base key (least_from (base + 1) keys) below absent rest)

-- what `least_from` finds is the least entry
pub IsLeast-least_from : (keys : List (Option ℕ)) → IsLeast keys (least_from 0 keys)
IsLeast-least_from keys = least_from_behind 0 keys

-- and it finds each least entry
pub least_from-is_least : (keys : List (Option ℕ)) (r : Option (ℕ × ℕ)) → IsLeast keys r → r ≡ least_from 0 keys
least_from-is_least keys r least = IsLeast-unique keys r (least_from 0 keys) least (IsLeast-least_from keys)

pub IsLeast-of_least_from : (keys : List (Option ℕ)) (r : Option (ℕ × ℕ)) → r ≡ least_from 0 keys → IsLeast keys r
IsLeast-of_least_from keys r same = subst (λ s. IsLeast keys s) (sym same) (IsLeast-least_from keys)

-- the entry that it finds is one of the row
pub least_from-there : (keys : List (Option ℕ)) (e : ℕ × ℕ) → least_from 0 keys ≡ Some e →
    (e.1 < length keys) × (key_at keys e.1 ≡ Some e.0)
least_from-there keys e found =
    let least : IsLeast keys (Some e) = IsLeast-of_least_from keys (Some e) (sym found) in
    (key_at-below keys e.1 e.0 least.0, least.0)
