-- What is known of a payload of which all bytes were heard.
use Rattle.rt_packet.proofs.Common.{◌≡◌, ℕ, ◌+◌, ◌%◌, Bool, true, false, cond, ltb, leb, List, [], ◌∷◌, ◌++◌, length, take, refl, sym, ap, ◌∙◌, inl, inr, arith, lt-ltb, take_all, append_assoc, length-append, cases_lt, payload_limit}
use Rattle.std.proofs.Common.{◌||◌, append-nil, length-take-le, sum}
use Rattle.std.specs.List.{fold}
use Rattle.std.proofs.lemmas.Bool.{le-ltb, le-leb, lt-leb}
use Rattle.std.proofs.lemmas.List.{take-append-le}
use Rattle.std.proofs.lemmas.List.Sums.{sum_by_push}
use Rattle.rt_packet.specs.Packet.{checksum}
use Rattle.rt_packet.specs.Frame.{Payload, empty, with_byte}

-- what is known of this payload
abbrev pub known_of : List ℕ → Payload
known_of payload = record { kept = take payload_limit payload; is_long = ltb payload_limit (length payload); total = checksum payload }

-- ---- one byte more

abbrev kept_with : ℕ → List ℕ → ℕ → List ℕ
kept_with limit kept b = cond (ltb (length kept) limit) (kept ++ b ∷ []) kept

kept_more : (limit : ℕ) (xs : List ℕ) (b : ℕ) → kept_with limit (take limit xs) b ≡ take limit (xs ++ b ∷ [])
kept_more limit xs b = elim (cases_lt (length xs) limit) [
  | inl short ↦
      let all : take limit xs ≡ xs = take_all limit xs (omega arith) in
      let more : take limit (xs ++ b ∷ []) ≡ xs ++ b ∷ [] = take_all limit (xs ++ b ∷ []) (omega (arith, length-append xs (b ∷ []))) in
      ap (λ kept. kept_with limit kept b) all ∙ (let room : ltb (length xs) limit ≡ true = lt-ltb _ _ short in rw room refl) ∙ sym more
  | inr full ↦
      let size : length (take limit xs) ≡ limit = length-take-le limit xs full in
      let none : ltb (length (take limit xs)) limit ≡ false = le-ltb _ _ (omega (arith, size)) in
      (rw none refl) ∙ sym (take-append-le limit xs (b ∷ []) full)
]

long_more : (limit : ℕ) (xs : List ℕ) (b : ℕ) → (ltb limit (length xs) || leb limit (length (take limit xs))) ≡ ltb limit (length (xs ++ b ∷ []))
long_more limit xs b = elim (cases_lt (length xs) limit) [
  | inl short ↦
      let all : take limit xs ≡ xs = take_all limit xs (omega arith) in
      let less : ltb limit (length xs) ≡ false = le-ltb _ _ (omega arith) in
      let room : leb limit (length xs) ≡ false = lt-leb _ _ short in
      let more : ltb limit (length (xs ++ b ∷ [])) ≡ false = le-ltb _ _ (omega (arith, length-append xs (b ∷ []))) in
      rw (less, all, room, more) refl
  | inr full ↦
      let size : length (take limit xs) ≡ limit = length-take-le limit xs full in
      let is_full : leb limit (length (take limit xs)) ≡ true = le-leb _ _ (omega (arith, size)) in
      let more : ltb limit (length (xs ++ b ∷ [])) ≡ true = lt-ltb _ _ (omega (arith, length-append xs (b ∷ []))) in
      rw (is_full, more) (or_true (ltb limit (length xs)))
]
  where
    or_true : (t : Bool) → (t || true) ≡ true
    or_true true = refl
    or_true false = refl

total_more : (xs : List ℕ) (b : ℕ) → (sum xs % 256 + b) % 256 ≡ sum (xs ++ b ∷ []) % 256
total_more xs b = omega (arith, sum_by_push (λ x. x) xs b)

pub known_more : (xs : List ℕ) (b : ℕ) → with_byte (known_of xs) b ≡ known_of (xs ++ b ∷ [])
known_more xs b =
    let kept = kept_more payload_limit xs b in
    let long = long_more payload_limit xs b in
    let total = total_more xs b in
    cc

known_on : (xs bs : List ℕ) → fold with_byte (known_of xs) bs ≡ known_of (xs ++ bs)
known_on xs [] = ap known_of (sym (append-nil xs))
known_on xs (b ∷ bs) =
    ap (λ (p : Payload). fold with_byte p bs) (known_more xs b) ∙ known_on (xs ++ b ∷ []) bs ∙ ap known_of (append_assoc xs (b ∷ []) bs)

-- all bytes of a payload, from its beginning
pub known_all : (payload : List ℕ) → fold with_byte empty payload ≡ known_of payload
known_all payload = known_on [] payload
