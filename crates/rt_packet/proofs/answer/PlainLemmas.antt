-- The bytes of texts, and of digits.
use Rattle.rt_packet.proofs.Common.{◌≡◌, ◌≢◌, ℕ, zero, suc, ◌+◌, ◌/◌, ◌%◌, ◌<◌, Bool, true, false, cond, eqb, ltb, List, [], ◌∷◌, ◌++◌, refl, arith, lt-ltb, ne_eqb, subst, digit_glyph, digits, flat_map, list_all, hex, dollar, hash}
use Rattle.std.proofs.Common.{◌&&◌, ltb-false}
use Rattle.std.specs.Fmt.{digits_onto}
use Rattle.std.proofs.lemmas.List.Elements.{All-nil, All-cons, All-append, All-weaker}
use Rattle.rt_packet.specs.Framed.{IsPlain}
use Rattle.rt_packet.specs.answer.Plain.{is_carried, IsCarried}

abbrev P : ℕ → Type 0
P b = is_carried b ≡ true

-- a text of carried bytes, as a record, from which its text is read
pub record Carried (text : List ℕ) : Type 0 where
  pub is : IsCarried text

both : (a b : Bool) → (a && b) ≡ true → (a ≡ true) × (b ≡ true)
both true b is = (refl, is)
both false b is = cc

list_carried : (text : List ℕ) → list_all is_carried text ≡ true → IsCarried text
list_carried [] is = All-nil P
list_carried (b ∷ bs) is = let parts = both (is_carried b) (list_all is_carried bs) is in All-cons P b bs parts.0 (list_carried bs parts.1)

-- a text whose bytes are looked at one by one
pub literal : (text : List ℕ) → list_all is_carried text ≡ true → Carried text
literal text is = record { is = list_carried text is }

pub joined : {first second : List ℕ} → Carried first → Carried second → Carried (first ++ second)
joined {first} {second} a b = record { is = All-append P first second a.is b.is }

pub each : {X : Type 0} (f : X → List ℕ) → ((x : X) → Carried (f x)) → (xs : List X) → Carried (flat_map f xs)
each f so [] = record { is = All-nil P }
each f so (x ∷ xs) = joined (so x) (each f so xs)

-- ---- digits

among : (b : ℕ) → 47 < b → b < 103 → is_carried b ≡ true
among b low high =
    let l : ltb 31 b ≡ true = lt-ltb 31 b (omega arith) in
    let h : ltb b 127 ≡ true = lt-ltb b 127 (omega arith) in
    let n35 : eqb b 35 ≡ false = ne_eqb b 35 (λ is. omega arith) in
    let n36 : eqb b 36 ≡ false = ne_eqb b 36 (λ is. omega arith) in
    let n42 : eqb b 42 ≡ false = ne_eqb b 42 (λ is. omega arith) in
    let n125 : eqb b 125 ≡ false = ne_eqb b 125 (λ is. omega arith) in
    rw (l, h, n35, n36, n42, n125) refl

glyph : (d : ℕ) → d < 16 → is_carried (digit_glyph false d) ≡ true
glyph d small = by (ltb d 10) refl
  where
    by : (t : Bool) → ltb d 10 ≡ t → is_carried (cond t (48 + d) (87 + d)) ≡ true
    by true is = among (48 + d) (omega arith) (omega arith)
    by false is = let large = ltb-false d 10 is in among (87 + d) (omega arith) (omega arith)

one : (d : ℕ) → d < 16 → Carried (digit_glyph false d ∷ [])
one d small = record { is = All-cons P (digit_glyph false d) [] (glyph d small) (All-nil P) }

pub last_digits : (k n : ℕ) → Carried (hex k n)
unfolding hex
last_digits zero n = record { is = All-nil P }
last_digits (suc k) n = joined (last_digits k (n / 16)) (one (n % 16) (omega arith))

onto_plain : (k n : ℕ) (acc : List ℕ) → IsCarried acc → IsCarried (digits_onto k 16 false n acc)
onto_plain zero n acc so = so
onto_plain (suc k) n acc so =
    let more = All-cons P (digit_glyph false (n % 16)) acc (glyph (n % 16) (omega arith)) so in
    either (eqb (n / 16) 0) _ _ more (onto_plain k (n / 16) _ more)
  where
    either : (t : Bool) (xs ys : List ℕ) → IsCarried xs → IsCarried ys → IsCarried (cond t xs ys)
    either true xs ys p q = p
    either false xs ys p q = q

pub all_digits : (n : ℕ) → Carried (digits 16 false n)
unfolding digits
all_digits n = record { is = onto_plain 64 n [] (All-nil P) }

-- ---- and what packets ask

differs : (b : ℕ) → is_carried b ≡ true → (b ≢ dollar) × (b ≢ hash)
differs b is = (λ d. absurd (other (subst P d is)), λ h. absurd (others (subst P h is)))
  where
    other : is_carried dollar ≡ true → ⊥
    other is = cc

    others : is_carried hash ≡ true → ⊥
    others is = cc

pub plain : (payload : List ℕ) → IsCarried payload → IsPlain payload
plain payload so = All-weaker P (λ b. (b ≢ dollar) × (b ≢ hash)) differs payload so
