-- A word or number that is read is the one that was written, and what was written is read again.
use Rattle.std.proofs.Common.{◌≡◌, ℕ, ◌+◌, ◌^◌, ◌<◌, ◌≤◌, Bool, true, false, ◌&&◌, eqb, leb, ltb, List, [], ◌∷◌, ◌++◌, length, get_or, take, drop, Some, refl, sym, ap, subst, ◌∙◌, arith, decimal, lt-ltb, le-leb, eq-eqb, eqb-true, ne_eqb, drop_at, append_assoc, length-append, ◌≢◌, inl, inr}
use Rattle.std.specs.Prelude.{not, nat_le}
use Rattle.std.specs.List.{list_all, position_or_len, before_first, after_first}
use Rattle.std.specs.Char.{is_digit, digit_value}
use Rattle.std.specs.Str.{bytes_eq}
use Rattle.std.specs.Str.Parse.{AllDigits, digits_value}
use Rattle.std.proofs.lemmas.Bool.{and_parts, ltb-true, leb-true, both_ways, cases_lt, not-false}
use Rattle.std.proofs.lemmas.List.{take_at}
use Rattle.std.proofs.lemmas.List.Sums.{split_at_first, prefix_len_stops}
use Rattle.std.proofs.lemmas.Slice.Eq.{bytes_eq-Decides}
use Rattle.std.proofs.lemmas.Str.Parse.{numerals_by_value, tells_digits, digit_from_value}
use Rattle.std.proofs.lemmas.Fmt.{decimal_is_IsNumeral, decimal-digits_value, first_decimal, decimal_digit}
use Rattle.rt_token.specs.Number.{are_digits, value_up_to}
use Rattle.rt_words.proofs.Founds.{bind_some, when_some, unless_some, some_is}
use Rattle.rt_token.specs.SpacedWords.{is_space, word_at, after_keyword, has_leading_zero, decimal_up_to, number_at}

-- ---- words

pub word_takes : (line : List ℕ) (x : List ℕ × List ℕ) → word_at line ≡ Some x → line ≡ x.0 ++ 32 ∷ x.1
word_takes line x e =
    let found = when_some (ltb (position_or_len is_space line) (length line)) (before_first is_space line, after_first is_space line) x e in
    let inside : position_or_len is_space line < length line = ltb-true _ _ found.0 in
    let space : get_or line (position_or_len is_space line) 0 ≡ 32 = eqb-true _ 32 (not-false _ (prefix_len_stops (λ b. not (is_space b)) line 0 inside)) in
    let cut = split_at_first is_space line 0 inside in
    subst (λ (y : List ℕ × List ℕ). line ≡ y.0 ++ 32 ∷ y.1) found.1 (cut ∙ ap (λ b. before_first is_space line ++ b ∷ after_first is_space line) space)

-- no byte is a space
abbrev pub is_word : List ℕ → Bool
is_word text = list_all (λ b. not (is_space b)) text

word_len : (text rest : List ℕ) → is_word text ≡ true → position_or_len is_space (text ++ 32 ∷ rest) ≡ length text
word_len [] rest e = refl
word_len (b ∷ bs) rest e =
    let h = and_parts (not (is_space b)) (is_word bs) e in
    rw h.0 (omega (arith, word_len bs rest h.1))

pub word_again : (text rest : List ℕ) → is_word text ≡ true → word_at (text ++ 32 ∷ rest) ≡ Some (text, rest)
word_again text rest e =
    let line : List ℕ = text ++ 32 ∷ rest in
    let place : position_or_len is_space line ≡ length text = word_len text rest e in
    let inside : position_or_len is_space line < length line = omega (arith, length-append text (32 ∷ rest)) in
    let front : before_first is_space line ≡ text = ap (λ n. take n line) place ∙ take_at text (32 ∷ rest) (length text) refl in
    let next : length (text ++ 32 ∷ []) ≡ length text + 1 = length-append text (32 ∷ []) in
    let regroup : line ≡ (text ++ 32 ∷ []) ++ rest = sym (append_assoc text (32 ∷ []) rest) in
    let back : after_first is_space line ≡ rest = (λ i. drop (place i + 1) (regroup i)) ∙ drop_at (text ++ 32 ∷ []) rest (length text + 1) next in
    rw (lt-ltb _ _ inside) (λ i. Some (front i, back i))

-- ---- numbers

are_digits_all : (ds : List ℕ) → list_all (λ d. is_digit d 10) ds ≡ true → AllDigits 10 ds
are_digits_all [] e = tt
are_digits_all (d ∷ ds) e =
    let h = and_parts (is_digit d 10) (list_all (λ d. is_digit d 10) ds) e in
    (ltb-true _ _ h.0, are_digits_all ds h.1)

all_are_digits : (ds : List ℕ) → AllDigits 10 ds → list_all (λ d. is_digit d 10) ds ≡ true
all_are_digits [] h = refl
all_are_digits (d ∷ ds) h = rw (lt-ltb _ _ h.0) (all_are_digits ds h.1)

no_space : (d : ℕ) → digit_value d < 10 → not (is_space d) ≡ true
no_space d h = let k = digit_from_value d h in let other : d ≢ 32 = λ same. omega arith in rw (ne_eqb d 32 other) refl

digits_word : (ds : List ℕ) → AllDigits 10 ds → is_word ds ≡ true
digits_word [] h = refl
digits_word (d ∷ ds) h = rw (no_space d h.0) (digits_word ds h.1)

-- a first '0' is alone
alone_from : (ds : List ℕ) → has_leading_zero ds ≡ false → get_or ds 0 0 ≡ 48 → length ds ≤ 1
alone_from [] e h = omega arith
alone_from (d ∷ []) e h = omega arith
alone_from (d ∷ f ∷ ds) e h = absurd (both_ways (eqb d 48) e (eq-eqb d 48 h))

-- what is read is the one text of its number
pub decimal_takes : (limit : ℕ) (ds : List ℕ) (n : ℕ) → limit < 2 ^ 64 → decimal_up_to limit ds ≡ Some n → (ds ≡ decimal n) × (n ≤ limit)
decimal_takes limit ds n small e =
    let kept = unless_some (has_leading_zero ds) (value_up_to limit 10 ds) n e in
    let found = when_some (are_digits 10 ds && leb (digits_value 10 ds) limit) (digits_value 10 ds) n kept.1 in
    let tests = and_parts (are_digits 10 ds) (leb (digits_value 10 ds) limit) found.0 in
    let parts = and_parts (ltb 0 (length ds)) (list_all (λ d. is_digit d 10) ds) tests.0 in
    let some : 0 < length ds = ltb-true _ _ parts.0 in
    let least : digits_value 10 ds ≤ limit = leb-true _ _ tests.1 in
    let alone : get_or ds 0 0 ≡ 48 → length ds ≡ 1 = λ h. let k = alone_from ds kept.0 h in omega arith in
    let spelled = decimal-digits_value (numerals_by_value _ tells_digits) ds (are_digits_all ds parts.1) some alone (omega arith) in
    (sym spelled ∙ ap decimal found.1, omega (arith, found.1))

other_first : (ds : List ℕ) → 48 < get_or ds 0 0 → has_leading_zero ds ≡ false
other_first [] h = refl
other_first (d ∷ []) h = refl
other_first (d ∷ e ∷ ds) h = ne_eqb d 48 (λ same. omega arith)

no_leading_zero : (n : ℕ) → n < 2 ^ 64 → has_leading_zero (decimal n) ≡ false
no_leading_zero n small =
    elim (cases_lt n 10) [
      | inl one ↦ rw (decimal_digit n one) refl
      | inr more ↦ other_first (decimal n) (first_decimal n (omega arith) small)
    ]

-- the text of a number is read as it
pub decimal_again : (limit n : ℕ) → limit < 2 ^ 64 → n ≤ limit → decimal_up_to limit (decimal n) ≡ Some n
decimal_again limit n small fits =
    let numeral = decimal_is_IsNumeral n (omega arith) in
    let least : nat_le n limit ≡ true = le-leb _ _ fits in
    rw (no_leading_zero n (omega arith), numeral.1, lt-ltb _ _ numeral.0.0, all_are_digits (decimal n) numeral.0.1, least) refl

pub number_takes : (limit : ℕ) (line : List ℕ) (x : ℕ × List ℕ) → limit < 2 ^ 64 → number_at limit line ≡ Some x → (line ≡ decimal x.0 ++ 32 ∷ x.1) × (x.0 ≤ limit)
number_takes limit line x small e =
    let word = bind_some (word_at line) _ x e in
    let number = bind_some (decimal_up_to limit word.0.0) _ x word.2 in
    let cut = word_takes line word.0 word.1 in
    let is = decimal_takes limit word.0.0 number.0 small number.1 in
    let made : ℕ × List ℕ = (number.0, word.0.1) in
    let same : made ≡ x = some_is made x number.2 in
    subst (λ (y : ℕ × List ℕ). (line ≡ decimal y.0 ++ 32 ∷ y.1) × (y.0 ≤ limit)) same (cut ∙ ap (λ (ds : List ℕ). ds ++ 32 ∷ word.0.1) is.0, is.1)

pub number_again : (limit n : ℕ) (rest : List ℕ) → limit < 2 ^ 64 → n ≤ limit → number_at limit (decimal n ++ 32 ∷ rest) ≡ Some (n, rest)
number_again limit n rest small fits =
    let word = digits_word (decimal n) (decimal_is_IsNumeral n (omega arith)).0.1 in
    rw (word_again (decimal n) rest word, decimal_again limit n small fits) refl

-- ---- keywords

pub keyword_takes : (keyword line rest : List ℕ) → after_keyword keyword line ≡ Some rest → line ≡ keyword ++ 32 ∷ rest
keyword_takes keyword line rest e =
    let word = bind_some (word_at line) _ rest e in
    let same = when_some (bytes_eq word.0.0 keyword) word.0.1 rest word.2 in
    let is : word.0.0 ≡ keyword = (bytes_eq-Decides word.0.0 keyword).0 same.0 in
    word_takes line word.0 word.1 ∙ (λ i. is i ++ 32 ∷ same.1 i)

pub keyword_again : (keyword rest : List ℕ) → is_word keyword ≡ true → after_keyword keyword (keyword ++ 32 ∷ rest) ≡ Some rest
keyword_again keyword rest word =
    let same : bytes_eq keyword keyword ≡ true = (bytes_eq-Decides keyword keyword).1 refl in
    rw (word_again keyword rest word, same) refl
