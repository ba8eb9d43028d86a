-- The pieces of a printed text: names, registers, numbers and fence sets.
use Rattle.rt_text.proofs.Common.{◌≡◌, ℕ, suc, ℤ, pos, negsuc, ◌≤ℤ◌, Bool, true, false, ◌&&◌, ◌+◌, ◌^◌, ◌<◌, ◌≤◌, List, [], ◌∷◌, length, refl, ap, arith, eqb, Option, Some, None, inl, inr, decimal, signed_decimal, list_all, and_parts, eqb-true, nat_tests, hex, register, letters, registers, fence_sets, is_printable, is_word, Word, Number}
use Rattle.std.proofs.Common.{leb}
use Rattle.std.specs.Fmt.{digits}
use Rattle.std.specs.List.{range_with_len}
use Rattle.std.specs.Str.Parse.{AllDigits}
use Rattle.std.proofs.lemmas.Fmt.{decimal_is_IsNumeral, length-decimal-le}
use Rattle.std.proofs.lemmas.Int.{ints}
use Rattle.rt_token.specs.Grammar.{IsDigitRun}
use Rattle.rt_text.specs.Names.{register_of, fence_set_of}
use Rattle.rt_token.specs.Word.{is_word_part}
use Rattle.rt_text.proofs.PrintedNumbers.{is_shown, passes_all, digits_shown, digit_is_ascii, hex_shown, hex_length}
use Rattle.rt_text.proofs.PrintedTokens.{Piece, weaker}

-- ---- words

-- a text of these many bytes at most that is a word, and what is found for it
abbrev is_found : ℕ → Option ℕ → Bool
is_found n None = false
is_found n (Some m) = eqb m n

found : (n : ℕ) (o : Option ℕ) → is_found n o ≡ true → o ≡ Some n
found n None is = cc
found n (Some m) is = ap Some (eqb-true m n is)

abbrev pub is_short_word : ℕ → List ℕ → Bool
is_short_word most text = is_word text && (list_all is_printable text && leb (length text) most)

pub word_piece : (most : ℕ) (text : List ℕ) → is_short_word most text ≡ true → Piece Word most text
word_piece most text passes =
    let parts = and_parts (is_word text) (list_all is_printable text && leb (length text) most) passes in
    let rest = and_parts (list_all is_printable text) (leb (length text) most) parts.1 in
    record { is_text = parts.0; shown = rest.0; short = within (length text) rest.1 }
  where
    within : (n : ℕ) → leb n most ≡ true → n ≤ most
    within n test = grind (arith, nat_tests)

is_register_text : ℕ → Bool
is_register_text n = is_found n (register_of (register n)) && is_short_word 3 (register n)

all_registers : list_all is_register_text (range_with_len 0 32) ≡ true
unfolding is_register_text registers digits
all_registers = refl

pub register_back : (n : ℕ) → n < 32 → register_of (register n) ≡ Some n
unfolding is_register_text
register_back n small = found n _ (and_parts (is_found n (register_of (register n))) (is_short_word 3 (register n)) (passes_all is_register_text 0 32 n all_registers (omega arith) small)).0

pub register_piece : (n : ℕ) → n < 32 → Piece Word 3 (register n)
unfolding is_register_text
register_piece n small = word_piece 3 (register n) (and_parts (is_found n (register_of (register n))) (is_short_word 3 (register n)) (passes_all is_register_text 0 32 n all_registers (omega arith) small)).1

is_letters_text : ℕ → Bool
is_letters_text n = is_found n (fence_set_of (letters n)) && is_short_word 4 (letters n)

all_letters : list_all is_letters_text (range_with_len 1 15) ≡ true
unfolding is_letters_text fence_sets
all_letters = refl

pub letters_back : (n : ℕ) → 0 < n → n < 16 → fence_set_of (letters n) ≡ Some n
unfolding is_letters_text
letters_back n some small = found n _ (and_parts (is_found n (fence_set_of (letters n))) (is_short_word 4 (letters n)) (passes_all is_letters_text 1 15 n all_letters (omega arith) (omega arith))).0

pub letters_piece : (n : ℕ) → 0 < n → n < 16 → Piece Word 4 (letters n)
unfolding is_letters_text
letters_piece n some small = word_piece 4 (letters n) (and_parts (is_found n (fence_set_of (letters n))) (is_short_word 4 (letters n)) (passes_all is_letters_text 1 15 n all_letters (omega arith) (omega arith))).1

-- ---- numbers

shown_part : (b : ℕ) → is_shown b ≡ true → is_word_part b ≡ true
shown_part b shown = (and_parts (is_word_part b) (is_printable b) shown).0

shown_printable : (b : ℕ) → is_shown b ≡ true → is_printable b ≡ true
shown_printable b shown = (and_parts (is_word_part b) (is_printable b) shown).1

run_of : (ds : List ℕ) → 0 < length ds → AllDigits 10 ds → IsDigitRun ds
run_of [] some digits = absurd (omega arith)
run_of (c ∷ cs) some digits = (digit_is_ascii c digits.0, weaker is_shown is_word_part shown_part cs (digits_shown cs digits.1))

decimal_run : (n : ℕ) → n < 2 ^ 32 → IsDigitRun (decimal n)
decimal_run n fits =
    let numeral = decimal_is_IsNumeral n (omega arith) in
    run_of (decimal n) numeral.0.0 numeral.0.1

decimal_printable : (n : ℕ) → n < 2 ^ 32 → list_all is_printable (decimal n) ≡ true
decimal_printable n fits =
    weaker is_shown is_printable shown_printable (decimal n) (digits_shown (decimal n) (decimal_is_IsNumeral n (omega arith)).0.1)

pub decimal_piece : (n : ℕ) → n < 10 ^ 4 → Piece Number 4 (decimal n)
decimal_piece n fits =
    record {
      is_text = inl (decimal_run n (omega arith));
      shown = decimal_printable n (omega arith);
      short = length-decimal-le 4 n (omega arith) fits (omega arith);
    }

pub signed_piece : (i : ℤ) → negsuc 2047 ≤ℤ i → i ≤ℤ pos 2047 → Piece Number 5 (signed_decimal i)
signed_piece (pos n) low high =
    let piece = decimal_piece n (omega (arith, ints)) in
    record { is_text = piece.is_text; shown = piece.shown; short = omega (arith, piece.short) }
signed_piece (negsuc n) low high =
    let small : suc n < 10 ^ 4 = omega (arith, ints) in
    record {
      is_text = inr (decimal (suc n), refl, decimal_run (suc n) (omega arith));
      shown = decimal_printable (suc n) (omega arith);
      short = omega (arith, length-decimal-le 4 (suc n) (omega arith) small (omega arith));
    }

pub hex_piece : (k n : ℕ) → Piece Number (2 + k) (48 ∷ 120 ∷ hex k n)
hex_piece k n =
    record {
      is_text = inl (refl, weaker is_shown is_word_part shown_part (hex k n) (hex_shown k n));
      shown = weaker is_shown is_printable shown_printable (hex k n) (hex_shown k n);
      short = omega (arith, hex_length k n);
    }
