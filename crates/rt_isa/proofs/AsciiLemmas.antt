-- The text of a word is ASCII.
use Rattle.rt_isa.proofs.Common.{◌≡◌, ℕ, ◌+◌, ◌-◌, ◌*◌, ◌/◌, ◌%◌, ◌^◌, ◌<◌, Bool, true, false, List, [], ◌∷◌, ◌++◌, codes, cond, eqb, Option, Some, None, refl, sym, subst, arith, inl, inr, option_map, cases_Bool, hex, row_of, table, Row}
use Rattle.std.proofs.Common.{ℤ, pos, negsuc, zero, suc, true≢false, decimal, ltb}
use Rattle.std.specs.Prelude.{IsAscii, unwrap_or, option_and_then}
use Rattle.std.specs.List.{list_all}
use Rattle.std.specs.Fmt.{signed_decimal, digit_glyph}
use Rattle.std.proofs.lemmas.Bool.{ltb-true}
use Rattle.std.proofs.lemmas.Fmt.{IsAscii-decimal}
use Rattle.std.proofs.lemmas.Nat.{pow_below}
use Rattle.std.proofs.lemmas.Str.{IsAscii-append}
use Rattle.std.proofs.lemmas.Str.Ascii.{IsAscii-nil, IsAscii-cons}
use Rattle.rt_isa.specs.Bits.{slice, signed}
use Rattle.rt_isa.specs.Table.{Format, InRow, AtBase}
use Rattle.rt_isa.specs.Table as formats
use Rattle.rt_isa.specs.Print.{Operands, Bare, Upper, Jump, Branch, Memory, Immediate, Shift, Registers, Sets, register, letters, fence_operands, operands, written, data_text, text}
use Rattle.rt_isa.proofs.OneRow.{EachRow, row_found}
use Rattle.rt_isa.proofs.Words.{minus_larger}

-- ---- pieces

is_low : ℕ → Bool
is_low b = ltb b 128

-- a text of which evaluation tells it
below : (bs : List ℕ) → list_all is_low bs ≡ true → IsAscii bs
unfolding is_low
below [] all = IsAscii-nil
below (b ∷ bs) all =
    elim (cases_Bool (ltb b 128)) [
      | inl low ↦ IsAscii-cons b bs (ltb-true b 128 low) (below bs (rw low at all))
      | inr high ↦ absurd (true≢false (sym (rw high at all)))
    ]

ascii_hex : (k n : ℕ) → IsAscii (hex k n)
unfolding hex
ascii_hex zero n = IsAscii-nil
ascii_hex (suc k) n = IsAscii-append (hex k (n / 16)) (digit_glyph false (n % 16) ∷ []) (ascii_hex k (n / 16)) (IsAscii-cons (digit_glyph false (n % 16)) [] (grind arith) IsAscii-nil)

ascii_register : (n : ℕ) → n < 2 ^ 64 → IsAscii (register n)
unfolding is_low
ascii_register n small = IsAscii-append (codes "x") (decimal n) (below (codes "x") refl) (IsAscii-decimal n small)

ascii_when : (b : Bool) (c : ℕ) → c < 128 → IsAscii (cond b (c ∷ []) [])
ascii_when true c low = IsAscii-cons c [] low IsAscii-nil
ascii_when false c low = IsAscii-nil

-- a text behind another
then : (xs ys : List ℕ) → IsAscii xs → IsAscii ys → IsAscii (xs ++ ys)
then xs ys x y = IsAscii-append xs ys x y

ascii_letters : (set : ℕ) → IsAscii (letters set)
ascii_letters set =
    then _ _ (then _ _ (then _ _ (ascii_when (eqb (slice 3 3 set) 1) 105 (omega arith)) (ascii_when (eqb (slice 2 2 set) 1) 111 (omega arith)))
    (ascii_when (eqb (slice 1 1 set) 1) 114 (omega arith))) (ascii_when (eqb (slice 0 0 set) 1) 119 (omega arith))

-- ---- operands whose numbers are small

-- a number that `signed_decimal` writes in letters
abbrev IsSmall : ℤ → Type 0
IsSmall (pos n) = n < 2 ^ 63
IsSmall (negsuc n) = suc n < 2 ^ 63

ascii_signed : (i : ℤ) → IsSmall i → IsAscii (signed_decimal i)
unfolding is_low
ascii_signed (pos n) small = IsAscii-decimal n (omega arith)
ascii_signed (negsuc n) small = IsAscii-append (codes "-") (decimal (suc n)) (below (codes "-") refl) (IsAscii-decimal (suc n) (omega arith))

abbrev AreSmall : Operands → Type 0
AreSmall Bare = Unit {0}
AreSmall (Upper d i) = d < 2 ^ 64
AreSmall (Jump d address) = d < 2 ^ 64
AreSmall (Branch a b address) = (a < 2 ^ 64) × (b < 2 ^ 64)
AreSmall (Memory r i a) = (r < 2 ^ 64) × IsSmall i × (a < 2 ^ 64)
AreSmall (Immediate d a i) = (d < 2 ^ 64) × (a < 2 ^ 64) × IsSmall i
AreSmall (Shift d a n) = (d < 2 ^ 64) × (a < 2 ^ 64) × (n < 2 ^ 64)
AreSmall (Registers d a b) = (d < 2 ^ 64) × (a < 2 ^ 64) × (b < 2 ^ 64)
AreSmall (Sets before after) = Unit {0}

-- a number in hexadecimal digits, with what says so
ascii_number : (k n : ℕ) → IsAscii (codes "0x" ++ hex k n)
unfolding is_low
ascii_number k n = then (codes "0x") (hex k n) (below (codes "0x") refl) (ascii_hex k n)

-- a register behind a space, and more behind a comma
ascii_first : (a : ℕ) → a < 2 ^ 64 → IsAscii (codes " " ++ register a)
unfolding is_low
ascii_first a x = then (codes " ") (register a) (below (codes " ") refl) (ascii_register a x)

ascii_more : (front rest : List ℕ) → IsAscii front → IsAscii rest → IsAscii (front ++ codes "," ++ rest)
unfolding is_low
ascii_more front rest x y = then (front ++ codes ",") rest (then front (codes ",") x (below (codes ",") refl)) y

ascii_pair : (a b : ℕ) → a < 2 ^ 64 → b < 2 ^ 64 → IsAscii (codes " " ++ register a ++ codes "," ++ register b)
ascii_pair a b x y = ascii_more (codes " " ++ register a) (register b) (ascii_first a x) (ascii_register b y)

ascii_written : (o : Operands) → AreSmall o → IsAscii (written o)
unfolding is_low
ascii_written Bare small = IsAscii-nil
ascii_written (Upper d i) small = ascii_more (codes " " ++ register d) (codes "0x" ++ hex 5 i) (ascii_first d small) (ascii_number 5 i)
ascii_written (Jump d address) small = ascii_more (codes " " ++ register d) (codes "0x" ++ hex 8 address) (ascii_first d small) (ascii_number 8 address)
ascii_written (Branch a b address) small = ascii_more (codes " " ++ register a ++ codes "," ++ register b) (codes "0x" ++ hex 8 address) (ascii_pair a b small.0 small.1) (ascii_number 8 address)
ascii_written (Memory r i a) small =
    let offset = ascii_more (codes " " ++ register r) (signed_decimal i) (ascii_first r small.0) (ascii_signed i small.1) in
    then (codes " " ++ register r ++ codes "," ++ signed_decimal i ++ codes "(" ++ register a) (codes ")")
    (then (codes " " ++ register r ++ codes "," ++ signed_decimal i ++ codes "(") (register a) (then (codes " " ++ register r ++ codes "," ++ signed_decimal i) (codes "(") offset (below (codes "(") refl)) (ascii_register a small.2))
    (below (codes ")") refl)
ascii_written (Immediate d a i) small = ascii_more (codes " " ++ register d ++ codes "," ++ register a) (signed_decimal i) (ascii_pair d a small.0 small.1) (ascii_signed i small.2)
ascii_written (Shift d a n) small = ascii_more (codes " " ++ register d ++ codes "," ++ register a) (decimal n) (ascii_pair d a small.0 small.1) (IsAscii-decimal n small.2)
ascii_written (Registers d a b) small = ascii_more (codes " " ++ register d ++ codes "," ++ register a) (register b) (ascii_pair d a small.0 small.1) (ascii_register b small.2)
ascii_written (Sets before after) small = ascii_more (codes " " ++ letters before) (letters after) (then (codes " ") (letters before) (below (codes " ") refl) (ascii_letters before)) (ascii_letters after)

-- ---- those of a word are small

small_signed : (k n : ℕ) → k < 62 → n < 2 ^ k → IsSmall (signed k n)
unfolding signed
small_signed k n few fits =
    elim (cases_Bool (ltb n (2 ^ (k - 1)))) [
      | inl low ↦ rw low (omega (arith, wide, fits))
      | inr high ↦ rw (high, minus_larger n (2 ^ k) fits) (omega (arith, wide, fits))
    ]
  where
    wide : 2 ^ k < 2 ^ 62
    wide = pow_below k 62 few

same : {o p : Operands} → Some o ≡ Some p → o ≡ p
same e = cc

small_fence : (d a order : ℕ) (o : Operands) → fence_operands d a order ≡ Some o → AreSmall o
small_fence d a order Bare is = tt
small_fence d a order (Sets before after) is = tt
small_fence d a order o is = grind (arith, is)

small_operands : (pc : ℕ) (f : Format) (w : ℕ) (o : Operands) → operands pc f w ≡ Some o → AreSmall o
unfolding operands
small_operands pc (formats.R make) w o is = subst AreSmall (same is) (omega arith, omega arith, omega arith)
small_operands pc (formats.I InRow make) w o is = subst AreSmall (same is) (omega arith, omega arith, small_signed 12 (slice 31 20 w) (omega arith) (omega arith))
small_operands pc (formats.I AtBase make) w o is = subst AreSmall (same is) (omega arith, small_signed 12 (slice 31 20 w) (omega arith) (omega arith), omega arith)
small_operands pc (formats.Shift make) w o is = subst AreSmall (same is) (omega arith, omega arith, omega arith)
small_operands pc (formats.S make) w o is = subst AreSmall (same is) (omega arith, small_signed 12 (slice 31 25 w * 2 ^ 5 + slice 11 7 w) (omega arith) (omega arith), omega arith)
small_operands pc (formats.B make) w o is = subst AreSmall (same is) (omega arith, omega arith)
small_operands pc (formats.U make) w o is = subst AreSmall (same is) (omega arith)
small_operands pc (formats.J make) w o is = subst AreSmall (same is) (omega arith)
small_operands pc (formats.Ordering make) w o is = small_fence (slice 11 7 w) (slice 19 15 w) (slice 31 20 w) o is
small_operands pc (formats.Fixed instruction) w o is = subst AreSmall (same is) tt

-- ---- the text

ascii_data : (w : ℕ) → IsAscii (data_text w)
unfolding is_low
ascii_data w = then (codes ".word ") (codes "0x" ++ hex 8 w) (below (codes ".word ") refl) (ascii_number 8 w)

abbrev IsAsciiNamed : Row → Type 0
IsAsciiNamed r = list_all is_low r.name ≡ true

table_ascii : EachRow IsAsciiNamed table
unfolding is_low
table_ascii =
    (refl, (refl, (refl, (refl, (refl, (refl, (refl, (refl, (refl, (refl, (refl, (refl, (refl, (refl, (refl, (refl, (refl, (refl, (refl, (refl, (refl, (refl, (refl, (refl, (refl, (refl, (refl, (refl, (refl, (refl, (refl, (refl, (refl, (refl, (refl, (refl, (refl, (refl, (refl, (refl, tt))))))))))))))))))))))))))))))))))))))))

pub ascii_text : (pc w : ℕ) → IsAscii (text pc w)
unfolding text row_of
ascii_text pc w = of_row (row_of w) refl
  where
    of_operands : (r : Row) → row_of w ≡ Some r → (q : Option Operands) → operands pc r.format w ≡ q → IsAscii (unwrap_or (option_map (λ o. r.name ++ written o) q) (data_text w))
    of_operands r found None is = ascii_data w
    of_operands r found (Some o) is = then r.name (written o) (below r.name (row_found IsAsciiNamed table table_ascii w r found).1) (ascii_written o (small_operands pc r.format w o is))

    of_row : (q : Option Row) → row_of w ≡ q → IsAscii (unwrap_or (option_and_then (λ r. option_map (λ o. r.name ++ written o) (operands pc r.format w)) q) (data_text w))
    of_row None is = ascii_data w
    of_row (Some r) is = of_operands r is (operands pc r.format w) refl
