-- A field that is read is the field that was written, and what was written is read again.
use Rattle.rt_image.proofs.Common.{◌≡◌, ℕ, ◌+◌, ◌^◌, ◌<◌, ◌≤◌, eqb, suc, List, [], ◌∷◌, ◌++◌, length, take, drop, Result, Ok, refl, sym, ap, subst, ◌∙◌, append_assoc, arith, eqb-true, little_bytes, ImageFault, number_at, bytes_at, magic_at}
use Rattle.std.proofs.Common.{false, ltb, eq-eqb, get_or, All, inl, inr}
use Rattle.std.proofs.lemmas.Bool.{cases_lt, ltb-false, le-ltb}
use Rattle.std.proofs.lemmas.List.{take_at, drop_at, take-append-drop, length-append, length-take, get_or-drop, get_or-take, get_or_past}
use Rattle.std.proofs.lemmas.List.Elements.{All-get_or}
use Rattle.std.proofs.lemmas.Nat.{le_bytes_2, le_bytes_4}
use Rattle.byteorder.specs.Endian.{little_number, little_from}
use Rattle.byteorder.specs.Numbers.{little_number-reads_back, little_from-take, little_from-lt}
use Rattle.rt_image.specs.declared.fault.ImageFault.TheVariants.{BadMagic, Truncated}
use Rattle.rt_words.proofs.Chains.{bind_ok, when_ok, when_is, guard_ok}
use Rattle.rt_image.specs.ObjectReading.{letter_at}

abbrev pub IsBytes : List ℕ → Type 0
IsBytes bytes = (i : ℕ) → get_or bytes i 0 < 256

pub IsBytes-all : (bytes : List ℕ) → All (λ b. b < 256) bytes → IsBytes bytes
IsBytes-all bytes h i =
    elim (cases_lt i (length bytes)) [
      | inl lt ↦ All-get_or (λ b. b < 256) bytes i 0 lt h
      | inr le ↦ rw (get_or_past bytes i 0 le) (omega arith)
    ]

pub IsBytes-drop : (n : ℕ) (bytes : List ℕ) → IsBytes bytes → IsBytes (drop n bytes)
IsBytes-drop n bytes h i = rw get_or-drop (h (n + i))

pub IsBytes-take : (n : ℕ) (bytes : List ℕ) → IsBytes bytes → IsBytes (take n bytes)
IsBytes-take n bytes h i =
    elim (cases_lt i n) [
      | inl lt ↦ rw (get_or-take n bytes i 0 lt) (h i)
      | inr le ↦ rw (get_or_past (take n bytes) i 0 (omega (arith, length-take n bytes))) (omega arith)
    ]

abbrev done : {A : Type 0} → A → Result A ImageFault
done x = Ok x

pub ok_is : {A : Type 0} (x y : A) → done x ≡ done y → x ≡ y
ok_is x y e = cc

-- ---- fields

-- what a reader took from the front
pub record Takes (bytes text rest : List ℕ) : Type 0 where
  pub parts : bytes ≡ text ++ rest
  pub rest_fits : IsBytes rest

pub Takes-then : (a x b y c : List ℕ) → Takes a x b → Takes b y c → Takes a (x ++ y) c
Takes-then a x b y c p q = record { parts = p.parts ∙ ap (λ (t : List ℕ). x ++ t) q.parts ∙ sym (append_assoc x y c); rest_fits = q.rest_fits }

-- numbers of k bytes, below the limit
pub record IsWide (k limit : ℕ) : Type 0 where
  pub len : (n : ℕ) → length (little_bytes k n) ≡ k
  pub back : (bytes : List ℕ) → k ≤ length bytes → IsBytes bytes → little_bytes k (little_number k bytes) ≡ take k bytes
  pub again : (n : ℕ) (rest : List ℕ) → n < limit → little_number k (little_bytes k n ++ rest) ≡ n
  pub below : (bytes : List ℕ) → IsBytes bytes → little_number k bytes < limit

pub wide2 : IsWide 2 (2 ^ 16)
wide2 = record {
  len = λ n. refl;
  back = λ bytes long fits.
      let front : little_from 0 2 (take 2 bytes) ≡ little_from 0 2 bytes = little_from-take 0 2 2 bytes (omega arith) in
      le_bytes_2 (take 2 bytes) (little_number 2 bytes) (omega (arith, length-take 2 bytes)) (IsBytes-take 2 bytes fits) (sym front ∙ omega arith);
  again = λ n rest lt. little_number-reads_back 2 n rest lt;
  below = λ bytes fits. little_from-lt 0 2 bytes fits;
}

pub wide4 : IsWide 4 (2 ^ 32)
wide4 = record {
  len = λ n. refl;
  back = λ bytes long fits.
      let front : little_from 0 4 (take 4 bytes) ≡ little_from 0 4 bytes = little_from-take 0 4 4 bytes (omega arith) in
      le_bytes_4 (take 4 bytes) (little_number 4 bytes) (omega (arith, length-take 4 bytes)) (IsBytes-take 4 bytes fits) (sym front ∙ omega arith);
  again = λ n rest lt. little_number-reads_back 4 n rest lt;
  below = λ bytes fits. little_from-lt 0 4 bytes fits;
}

pub number_takes : (k limit : ℕ) (wide : IsWide k limit) (bytes : List ℕ) (x : ℕ × List ℕ) → IsBytes bytes → number_at k bytes ≡ Ok x → Takes bytes (little_bytes k x.0) x.1 × (x.0 < limit)
number_takes k limit wide bytes x fits e =
    let g = guard_ok (ltb (length bytes) k) Truncated (little_number k bytes, drop k bytes) x e in
    let long : k ≤ length bytes = ltb-false _ _ g.0 in
    let parts : bytes ≡ little_bytes k (little_number k bytes) ++ drop k bytes = rw (wide.back bytes long fits) (sym (take-append-drop k bytes)) in
    subst (λ (y : ℕ × List ℕ). Takes bytes (little_bytes k y.0) y.1 × (y.0 < limit)) g.1 (record { parts = parts; rest_fits = IsBytes-drop k bytes fits }, wide.below bytes fits)

pub number_again : (k limit : ℕ) (wide : IsWide k limit) (n : ℕ) (rest : List ℕ) → n < limit → number_at k (little_bytes k n ++ rest) ≡ Ok (n, rest)
number_again k limit wide n rest lt =
    let len = wide.len n in
    let long : ltb (length (little_bytes k n ++ rest)) k ≡ false = le-ltb _ _ (omega (arith, length-append (little_bytes k n) rest)) in
    rw (long, wide.again n rest lt, drop_at (little_bytes k n) rest k len) refl

pub bytes_takes : (n : ℕ) (bytes : List ℕ) (x : List ℕ × List ℕ) → IsBytes bytes → bytes_at n bytes ≡ Ok x → Takes bytes x.0 x.1 × (length x.0 ≡ n) × IsBytes x.0
bytes_takes n bytes x fits e =
    let g = guard_ok (ltb (length bytes) n) Truncated (take n bytes, drop n bytes) x e in
    let long : n ≤ length bytes = ltb-false _ _ g.0 in
    let len : length (take n bytes) ≡ n = omega (arith, length-take n bytes) in
    subst (λ (y : List ℕ × List ℕ). Takes bytes y.0 y.1 × (length y.0 ≡ n) × IsBytes y.0) g.1
    (record { parts = sym (take-append-drop n bytes); rest_fits = IsBytes-drop n bytes fits }, len, IsBytes-take n bytes fits)

pub bytes_again : (n : ℕ) (text rest : List ℕ) → length text ≡ n → bytes_at n (text ++ rest) ≡ Ok (text, rest)
bytes_again n text rest len =
    let long : ltb (length (text ++ rest)) n ≡ false = le-ltb _ _ (omega (arith, length-append text rest)) in
    rw (long, take_at text rest n len, drop_at text rest n len) refl

-- ---- the magic

IsBytes-rest : (b : ℕ) (bytes : List ℕ) → IsBytes (b ∷ bytes) → IsBytes bytes
IsBytes-rest b bytes h i = h (suc i)

letter_takes : (letter : ℕ) (bytes rest : List ℕ) → IsBytes bytes → letter_at letter bytes ≡ Ok rest → Takes bytes (letter ∷ []) rest
letter_takes letter [] rest fits e = absurd cc
letter_takes letter (b ∷ bytes) rest fits e =
    let g = when_ok (eqb b letter) BadMagic bytes rest e in
    record { parts = rw (eqb-true b letter g.0, g.1) refl; rest_fits = subst IsBytes g.1 (IsBytes-rest b bytes fits) }

pub magic_takes : (letters bytes rest : List ℕ) → IsBytes bytes → magic_at letters bytes ≡ Ok rest → Takes bytes letters rest
magic_takes [] bytes rest fits e = subst (Takes bytes []) (ok_is bytes rest e) (record { parts = refl; rest_fits = fits })
magic_takes (letter ∷ letters) bytes rest fits e =
    let a = bind_ok (letter_at letter bytes) (magic_at letters) rest e in
    let first = letter_takes letter bytes a.0 fits a.1 in
    Takes-then bytes (letter ∷ []) a.0 letters rest first (magic_takes letters a.0 rest first.rest_fits a.2)

pub magic_again : (letters rest : List ℕ) → magic_at letters (letters ++ rest) ≡ Ok rest
magic_again [] rest = refl
magic_again (letter ∷ letters) rest =
    when_is (eqb letter letter) BadMagic (letters ++ rest) (magic_at letters) (eq-eqb letter letter refl) ∙ magic_again letters rest
