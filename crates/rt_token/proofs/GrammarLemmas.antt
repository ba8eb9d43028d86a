-- The tokens of a line are those of the grammar.
use Rattle.std.proofs.Common.{◌≡◌, ◌≢◌, ℕ, zero, suc, Bool, true, false, cond, ◌||◌, ◌+◌, ◌-◌, ◌<◌, ◌≤◌, List, [], ◌∷◌, ◌++◌, length, drop, take, refl, arith, sym, ◌∙◌, ap, subst, Option, Some, None, eqb, inl, inr, false-eqb, length-take-le}
use Rattle.std.proofs.lemmas.Bool.{and_parts, eqb-true}
use Rattle.std.proofs.lemmas.List.Sums.{prefix_len-le-length}
use Rattle.std.proofs.lemmas.List.{take-append-drop}
use Rattle.std.proofs.Math.Seq.{drop-append_seam, take-append_seam}
use Rattle.std.proofs.lemmas.Bool.Decides.{nat_tests}
use Rattle.rt_token.proofs.TokenLemmas.{tokens_skip}
use Rattle.std.specs.Char.{is_ascii_digit}
use Rattle.std.specs.List.{list_all, prefix_len}
use Rattle.std.specs.Option.{option_map, option_and_then}
use Rattle.rt_token.specs.Word.{is_word, is_word_start, is_word_part}
use Rattle.rt_token.specs.Tokens.{is_blank, is_printable, is_escape, mark_kind, string_rest, begins_with_digit, token, token_at, tokens, with_front}
use Rattle.rt_token.specs.Grammar.{IsDigitRun, IsNumberText, IsStringRest, last, plain, escape, IsText, EndsRun, IsLongest, AreTokens, end, comment, blank}
use Rattle.rt_token.specs.Grammar as grammar
use Rattle.rt_token.specs.declared.tokens.Kind.{Kind}
use Rattle.rt_token.specs.declared.tokens.Kind.TheVariants.{Word, Number, Text, Comma, Open, Close, Colon}
use Rattle.rt_token.specs.declared.tokens.Token.{Token}

-- the longest run of bytes that pass a test, by cases on its first byte
run_step : (p : ℕ → Bool) (b : ℕ) (bs : List ℕ) (v : Bool) → p b ≡ v → list_all p (take (prefix_len p bs) bs) ≡ true → list_all p (take (cond v (1 + prefix_len p bs) 0) (b ∷ bs)) ≡ true
run_step p b bs true is below = let s : 1 + prefix_len p bs ≡ suc (prefix_len p bs) = omega arith in rw (s, is) below
run_step p b bs false is below = refl

run_passes : (p : ℕ → Bool) (bs : List ℕ) → list_all p (take (prefix_len p bs) bs) ≡ true
run_passes p [] = refl
run_passes p (b ∷ bs) = run_step p b bs (p b) refl (run_passes p bs)

run_end_step : (b : ℕ) (bs : List ℕ) (v : Bool) → is_word_part b ≡ v → EndsRun (drop (prefix_len is_word_part bs) bs) → EndsRun (drop (cond v (1 + prefix_len is_word_part bs) 0) (b ∷ bs))
run_end_step b bs true is below = let s : 1 + prefix_len is_word_part bs ≡ suc (prefix_len is_word_part bs) = omega arith in rw s below
run_end_step b bs false is below = is

run_ends : (bs : List ℕ) → EndsRun (drop (prefix_len is_word_part bs) bs)
run_ends [] = tt
run_ends (b ∷ bs) = run_end_step b bs (is_word_part b) refl (run_ends bs)

-- what token_at found is a token of the grammar
pub record Found (kind : Kind) (len : ℕ) (bs : List ℕ) : Type 0 where
  pub is_text : IsText kind (take len bs)
  pub longest : IsLongest kind (drop len bs)
  pub some : 0 < len
  pub within : len ≤ length bs

word_found : (b : ℕ) (bs : List ℕ) → is_word_start b ≡ true → Found Word (1 + prefix_len is_word_part bs) (b ∷ bs)
word_found b bs start =
    let s : 1 + prefix_len is_word_part bs ≡ suc (prefix_len is_word_part bs) = omega arith in
    rw s (record {
      is_text = rw start (run_passes is_word_part bs);
      longest = run_ends bs;
      some = omega arith;
      within = omega (arith, prefix_len-le-length is_word_part bs);
    })

number_found : (b : ℕ) (bs : List ℕ) → is_ascii_digit b ≡ true → Found Number (1 + prefix_len is_word_part bs) (b ∷ bs)
number_found b bs digit =
    let s : 1 + prefix_len is_word_part bs ≡ suc (prefix_len is_word_part bs) = omega arith in
    rw s (record {
      is_text = inl (digit, run_passes is_word_part bs);
      longest = run_ends bs;
      some = omega arith;
      within = omega (arith, prefix_len-le-length is_word_part bs);
    })

-- a digit is part of a word, so the run behind '-' begins with it
negative_run : (d : ℕ) (bs : List ℕ) → is_ascii_digit d ≡ true → is_word_part d ≡ true → IsDigitRun (take (prefix_len is_word_part (d ∷ bs)) (d ∷ bs))
negative_run d bs digit part =
    let s : 1 + prefix_len is_word_part bs ≡ suc (prefix_len is_word_part bs) = omega arith in
    rw (part, s) (digit, run_passes is_word_part bs)

or_true : (a : Bool) → (a || true) ≡ true
or_true true = refl
or_true false = refl

negative_found : (bs : List ℕ) → begins_with_digit bs ≡ true → Found Number (1 + prefix_len is_word_part bs) (45 ∷ bs)
negative_found [] digit = cc
negative_found (d ∷ bs) digit =
    let s : 1 + prefix_len is_word_part (d ∷ bs) ≡ suc (prefix_len is_word_part (d ∷ bs)) = omega arith in
    let part : is_word_part d ≡ true = ap (λ v. is_word_start d || v) digit ∙ or_true (is_word_start d) in
    rw s (record {
      is_text = inr (take (prefix_len is_word_part (d ∷ bs)) (d ∷ bs), refl, negative_run d bs digit part);
      longest = run_ends (d ∷ bs);
      some = omega arith;
      within = omega (arith, prefix_len-le-length is_word_part (d ∷ bs));
    })

-- the rest of a string, behind a backslash or not
StringFound : Bool → List ℕ → ℕ → Type 0
StringFound true bs n = IsStringRest (92 ∷ take n bs) × (n ≤ length bs)
StringFound false bs n = IsStringRest (take n bs) × (n ≤ length bs)

mapped : (o : Option ℕ) (n : ℕ) → option_map suc o ≡ Some n → (m : ℕ) × (o ≡ Some m) × (n ≡ suc m)
mapped None n found = cc
mapped (Some m) n found = (m, refl, cc)

escape_case : (b n : ℕ) (bs : List ℕ) (v : Bool) → is_escape b ≡ v → cond v (option_map suc (string_rest false bs)) None ≡ Some n → ((m : ℕ) → string_rest false bs ≡ Some m → StringFound false bs m) → StringFound true (b ∷ bs) n
unfolding StringFound
escape_case b n bs true is found below =
    let one : (m : ℕ) × (string_rest false bs ≡ Some m) × (n ≡ suc m) = mapped (string_rest false bs) n found in
    let rest : IsStringRest (take one.0 bs) × (one.0 ≤ length bs) = below one.0 one.1 in
    rw one.2 (escape b (take one.0 bs) is rest.0, omega (arith, rest.1))
escape_case b n bs false is found below = cc

plain_case : (b n : ℕ) (bs : List ℕ) (quote slash printable : Bool) → eqb b 34 ≡ quote → eqb b 92 ≡ slash → is_printable b ≡ printable → cond quote (Some 1) (cond slash (option_map suc (string_rest true bs)) (cond printable (option_map suc (string_rest false bs)) None)) ≡ Some n → ((m : ℕ) → string_rest true bs ≡ Some m → StringFound true bs m) → ((m : ℕ) → string_rest false bs ≡ Some m → StringFound false bs m) → StringFound false (b ∷ bs) n
unfolding StringFound
plain_case b n bs true slash printable is_quote is_slash is_plain found escaped below =
    let one : n ≡ 1 = cc in
    let e : b ≡ 34 = eqb-true b 34 is_quote in
    rw (one, e) (last, omega arith)
plain_case b n bs false true printable is_quote is_slash is_plain found escaped below =
    let one : (m : ℕ) × (string_rest true bs ≡ Some m) × (n ≡ suc m) = mapped (string_rest true bs) n found in
    let rest : IsStringRest (92 ∷ take one.0 bs) × (one.0 ≤ length bs) = escaped one.0 one.1 in
    let e : b ≡ 92 = eqb-true b 92 is_slash in
    rw (one.2, e) (rest.0, omega (arith, rest.1))
plain_case b n bs false false true is_quote is_slash is_plain found escaped below =
    let one : (m : ℕ) × (string_rest false bs ≡ Some m) × (n ≡ suc m) = mapped (string_rest false bs) n found in
    let rest : IsStringRest (take one.0 bs) × (one.0 ≤ length bs) = below one.0 one.1 in
    rw one.2 (plain b (take one.0 bs) (false-eqb b 34 (sym is_quote)) (false-eqb b 92 (sym is_slash)) is_plain rest.0, omega (arith, rest.1))
plain_case b n bs false false false is_quote is_slash is_plain found escaped below = cc

string_found : (escaped : Bool) (bs : List ℕ) (n : ℕ) → string_rest escaped bs ≡ Some n → StringFound escaped bs n
string_found true [] n found = cc
string_found false [] n found = cc
string_found true (b ∷ bs) n found = escape_case b n bs (is_escape b) refl found (string_found false bs)
string_found false (b ∷ bs) n found =
    plain_case b n bs (eqb b 34) (eqb b 92) (is_printable b) refl refl refl found (string_found true bs) (string_found false bs)

some_is : {A : Type 0} (x y : A) → Some x ≡ Some y → x ≡ y
some_is x y same = cc

mark_case : (b : ℕ) (bs : List ℕ) (kind : Kind) (comma left right colon : Bool) → eqb b 44 ≡ comma → eqb b 40 ≡ left → eqb b 41 ≡ right → eqb b 58 ≡ colon → cond comma (Some Comma) (cond left (Some Open) (cond right (Some Close) (cond colon (Some Colon) None))) ≡ Some kind → Found kind 1 (b ∷ bs)
mark_case b bs kind true left right colon is1 is2 is3 is4 found =
    subst (λ k. Found k 1 (b ∷ bs)) (some_is Comma kind found) (record { is_text = ap (λ c. c ∷ []) (eqb-true b 44 is1); longest = tt; some = omega arith; within = omega arith })
mark_case b bs kind false true right colon is1 is2 is3 is4 found =
    subst (λ k. Found k 1 (b ∷ bs)) (some_is Open kind found) (record { is_text = ap (λ c. c ∷ []) (eqb-true b 40 is2); longest = tt; some = omega arith; within = omega arith })
mark_case b bs kind false false true colon is1 is2 is3 is4 found =
    subst (λ k. Found k 1 (b ∷ bs)) (some_is Close kind found) (record { is_text = ap (λ c. c ∷ []) (eqb-true b 41 is3); longest = tt; some = omega arith; within = omega arith })
mark_case b bs kind false false false true is1 is2 is3 is4 found =
    subst (λ k. Found k 1 (b ∷ bs)) (some_is Colon kind found) (record { is_text = ap (λ c. c ∷ []) (eqb-true b 58 is4); longest = tt; some = omega arith; within = omega arith })
mark_case b bs kind false false false false is1 is2 is3 is4 found = cc

abbrev IsFound : ℕ → List ℕ → Kind × ℕ → Type 0
IsFound b bs found = Found found.0 found.1 (b ∷ bs)

minus_case : (b : ℕ) (bs : List ℕ) (found : Kind × ℕ) (digit : Bool) → b ≡ 45 → begins_with_digit bs ≡ digit → cond digit (Some (Number, 1 + prefix_len is_word_part bs)) None ≡ Some found → IsFound b bs found
minus_case b bs found true minus digit here =
    subst (IsFound b bs) (some_is (Number, 1 + prefix_len is_word_part bs) found here) (rw minus (negative_found bs digit))
minus_case b bs found false minus digit here = cc

text_case : (b : ℕ) (bs : List ℕ) (found : Kind × ℕ) (o : Option ℕ) → b ≡ 34 → string_rest false bs ≡ o → option_map (λ n. (Text, 1 + n)) o ≡ Some found → IsFound b bs found
unfolding StringFound
text_case b bs found None quote rest here = cc
text_case b bs found (Some n) quote rest here =
    let inner : IsStringRest (take n bs) × (n ≤ length bs) = string_found false bs n rest in
    let s : 1 + n ≡ suc n = omega arith in
    subst (IsFound b bs) (some_is (Text, 1 + n) found here) (rw (quote, s) (record { is_text = (take n bs, refl, inner.0); longest = tt; some = omega arith; within = omega (arith, inner.1) }))

mark_found : (b : ℕ) (bs : List ℕ) (found : Kind × ℕ) (o : Option Kind) → mark_kind b ≡ o → option_map (λ kind. (kind, 1)) o ≡ Some found → IsFound b bs found
mark_found b bs found None is here = cc
mark_found b bs found (Some kind) is here =
    subst (IsFound b bs) (some_is (kind, 1) found here) (mark_case b bs kind (eqb b 44) (eqb b 40) (eqb b 41) (eqb b 58) refl refl refl refl is)

token_case : (b : ℕ) (bs : List ℕ) (found : Kind × ℕ) (start digit minus quote : Bool) → is_word_start b ≡ start → is_ascii_digit b ≡ digit → eqb b 45 ≡ minus → eqb b 34 ≡ quote → cond start (Some (Word, 1 + prefix_len is_word_part bs)) (cond digit (Some (Number, 1 + prefix_len is_word_part bs)) (cond minus (cond (begins_with_digit bs) (Some (Number, 1 + prefix_len is_word_part bs)) None) (cond quote (option_map (λ n. (Text, 1 + n)) (string_rest false bs)) (option_map (λ kind. (kind, 1)) (mark_kind b))))) ≡ Some found → IsFound b bs found
token_case b bs found true digit minus quote is1 is2 is3 is4 here =
    subst (IsFound b bs) (some_is (Word, 1 + prefix_len is_word_part bs) found here) (word_found b bs is1)
token_case b bs found false true minus quote is1 is2 is3 is4 here =
    subst (IsFound b bs) (some_is (Number, 1 + prefix_len is_word_part bs) found here) (number_found b bs is2)
token_case b bs found false false true quote is1 is2 is3 is4 here =
    minus_case b bs found (begins_with_digit bs) (eqb-true b 45 is3) refl here
token_case b bs found false false false true is1 is2 is3 is4 here =
    text_case b bs found (string_rest false bs) (eqb-true b 34 is4) refl here
token_case b bs found false false false false is1 is2 is3 is4 here = mark_found b bs found (mark_kind b) refl here

token_found : (b : ℕ) (bs : List ℕ) (found : Kind × ℕ) → token_at b bs ≡ Some found → IsFound b bs found
token_found b bs found here =
    token_case b bs found (is_word_start b) (is_ascii_digit b) (eqb b 45) (eqb b 34) refl refl refl refl here

fronted : {A : Type 0} (x : A) (o : Option (List A)) (ys : List A) → with_front x o ≡ Some ys → (xs : List A) × (o ≡ Some xs) × (x ∷ xs ≡ ys)
fronted x None ys found = cc
fronted x (Some xs) ys found = (xs, refl, some_is (x ∷ xs) ys found)

-- a token at the front, and the tokens of the bytes after it
token_first : (place b : ℕ) (bs : List ℕ) (kind : Kind) (len : ℕ) (xs : List Token) → Found kind len (b ∷ bs) → AreTokens (place + 1 + (len - 1)) (drop (len - 1) bs) xs → AreTokens place (b ∷ bs) (token place (kind, len) (b ∷ bs) ∷ xs)
token_first place b bs kind zero xs found rest = absurd (omega (arith, found.some))
token_first place b bs kind (suc m) xs found rest =
    let e : suc m - 1 ≡ m = omega arith in
    let size : length (take (suc m) (b ∷ bs)) ≡ suc m = length-take-le (suc m) (b ∷ bs) found.within in
    let next : place + 1 + m ≡ place + length (take (suc m) (b ∷ bs)) = omega arith in
    let after : AreTokens (place + length (take (suc m) (b ∷ bs))) (drop m bs) xs = subst (λ p. AreTokens p (drop m bs) xs) next (rw e at rest) in
    subst (λ l. AreTokens place l (token place (kind, suc m) (b ∷ bs) ∷ xs)) (take-append-drop (suc m) (b ∷ bs)) (grammar.token place kind (take (suc m) (b ∷ bs)) (drop m bs) xs found.is_text found.longest after)

line_case : (place b : ℕ) (bs : List ℕ) (ts : List Token) (is_gap is_hash : Bool) (o : Option (Kind × ℕ)) → is_blank b ≡ is_gap → eqb b 35 ≡ is_hash → token_at b bs ≡ o → cond is_gap (tokens (place + 1) 0 bs) (cond is_hash (Some []) (option_and_then (λ found. with_front (token place found (b ∷ bs)) (tokens (place + 1) (found.1 - 1) bs)) o)) ≡ Some ts → ((left : ℕ) (xs : List Token) → tokens (place + 1) left bs ≡ Some xs → AreTokens (place + 1 + left) (drop left bs) xs) → AreTokens place (b ∷ bs) ts
line_case place b bs ts true is_hash o gap hash here found below =
    let e : place + 1 + 0 ≡ place + 1 = omega arith in
    blank place b bs ts gap (subst (λ p. AreTokens p bs ts) e (below 0 ts found))
line_case place b bs ts false true o gap hash here found below =
    subst (AreTokens place (b ∷ bs)) (some_is [] ts found) (rw (eqb-true b 35 hash) (comment place bs))
line_case place b bs ts false false None gap hash here found below = cc
line_case place b bs ts false false (Some one) gap hash here found below =
    let rest : (xs : List Token) × (tokens (place + 1) (one.1 - 1) bs ≡ Some xs) × (token place one (b ∷ bs) ∷ xs ≡ ts) = fronted (token place one (b ∷ bs)) (tokens (place + 1) (one.1 - 1) bs) ts found in
    subst (AreTokens place (b ∷ bs)) rest.2 (token_first place b bs one.0 one.1 rest.0 (token_found b bs one here) (below (one.1 - 1) rest.0 rest.1))

-- what is found is in the grammar
pub tokens_are : (left place : ℕ) (bs : List ℕ) (ts : List Token) → tokens place left bs ≡ Some ts → AreTokens (place + left) (drop left bs) ts
tokens_are zero place [] ts found = subst (AreTokens (place + 0) []) (some_is [] ts found) (end (place + 0))
tokens_are (suc left) place [] ts found = subst (AreTokens (place + suc left) []) (some_is [] ts found) (end (place + suc left))
tokens_are zero place (b ∷ bs) ts found =
    let e : place ≡ place + 0 = omega arith in
    subst (λ p. AreTokens p (b ∷ bs) ts) e (line_case place b bs ts (is_blank b) (eqb b 35) (token_at b bs) refl refl refl found (λ left xs. tokens_are left (place + 1) bs xs))
tokens_are (suc left) place (b ∷ bs) ts found =
    let e : place + 1 + left ≡ place + suc left = omega arith in
    subst (λ p. AreTokens p (drop left bs) ts) e (tokens_are left (place + 1) bs ts found)

-- where one byte passes a test and another doesn't, they are two
told_apart : (p : ℕ → Bool) (b c : ℕ) (v : Bool) → eqb b c ≡ v → p b ≡ true → p c ≡ false → eqb b c ≡ false
told_apart p b c true same passes fails =
    let e : p b ≡ p c = ap p (eqb-true b c same) in
    cc
told_apart p b c false same passes fails = same

no_blank : (p : ℕ → Bool) (b : ℕ) → p b ≡ true → p 32 ≡ false → p 9 ≡ false → is_blank b ≡ false
no_blank p b passes space tab =
    rw (told_apart p b 32 (eqb b 32) refl passes space, told_apart p b 9 (eqb b 9) refl passes tab) refl

run_stops : (rest : List ℕ) → EndsRun rest → prefix_len is_word_part rest ≡ 0
run_stops [] ends = refl
run_stops (b ∷ bs) ends = rw ends refl

-- a run of bytes that end there is as long as it is
run_length : (text rest : List ℕ) → list_all is_word_part text ≡ true → EndsRun rest → prefix_len is_word_part (text ++ rest) ≡ length text
run_length [] rest all ends = run_stops rest ends
run_length (b ∷ bs) rest all ends =
    let here : is_word_part b ≡ true = (and_parts (is_word_part b) (list_all is_word_part bs) all).0 in
    let below : prefix_len is_word_part (bs ++ rest) ≡ length bs = run_length bs rest (and_parts (is_word_part b) (list_all is_word_part bs) all).1 ends in
    let s : 1 + length bs ≡ suc (length bs) = omega arith in
    rw (here, below, s) refl

-- a token that begins with b, of which t is the rest
token_back : (place b : ℕ) (t rest : List ℕ) (kind : Kind) (ts : List Token) → is_blank b ≡ false → eqb b 35 ≡ false → token_at b (t ++ rest) ≡ Some (kind, suc (length t)) → tokens (place + suc (length t)) 0 rest ≡ Some ts → tokens place 0 (b ∷ (t ++ rest)) ≡ Some (record { kind = kind; slice = record { start = place; text = b ∷ t } } ∷ ts)
token_back place b t rest kind ts gap hash here more =
    let e : suc (length t) - 1 ≡ length t = omega arith in
    let next : place + 1 + length t ≡ place + suc (length t) = omega arith in
    let skip : tokens (place + 1) (length t) (t ++ rest) ≡ Some ts = tokens_skip (length t) (place + 1) (t ++ rest) ∙ (λ i. tokens (next i) 0 (drop-append_seam t rest i)) ∙ more in
    rw (gap, hash, here, e, skip, take-append_seam t rest) refl

digit_no_start : (b : ℕ) → is_ascii_digit b ≡ true → is_word_start b ≡ false
digit_no_start b digit = grind (arith, nat_tests)

word_back : (place : ℕ) (text rest : List ℕ) (ts : List Token) → is_word text ≡ true → EndsRun rest → tokens (place + length text) 0 rest ≡ Some ts → tokens place 0 (text ++ rest) ≡ Some (record { kind = Word; slice = record { start = place; text = text } } ∷ ts)
word_back place [] rest ts word ends more = cc
word_back place (b ∷ t) rest ts word ends more =
    let start : is_word_start b ≡ true = (and_parts (is_word_start b) (list_all is_word_part t) word).0 in
    let size : 1 + prefix_len is_word_part (t ++ rest) ≡ suc (length t) = ap (λ n. 1 + n) (run_length t rest (and_parts (is_word_start b) (list_all is_word_part t) word).1 ends) ∙ omega arith in
    token_back place b t rest Word ts (no_blank is_word_start b start refl refl) (told_apart is_word_start b 35 (eqb b 35) refl start refl) (rw (start, size) refl) more

digits_back : (place : ℕ) (text rest : List ℕ) (ts : List Token) → IsDigitRun text → EndsRun rest → tokens (place + length text) 0 rest ≡ Some ts → tokens place 0 (text ++ rest) ≡ Some (record { kind = Number; slice = record { start = place; text = text } } ∷ ts)
digits_back place [] rest ts run ends more = absurd run
digits_back place (b ∷ t) rest ts run ends more =
    let size : 1 + prefix_len is_word_part (t ++ rest) ≡ suc (length t) = ap (λ n. 1 + n) (run_length t rest run.1 ends) ∙ omega arith in
    token_back place b t rest Number ts (no_blank is_ascii_digit b run.0 refl refl) (told_apart is_ascii_digit b 35 (eqb b 35) refl run.0 refl) (rw (digit_no_start b run.0, run.0, size) refl) more

digit_run_parts : (d : ℕ) (bs : List ℕ) → IsDigitRun (d ∷ bs) → list_all is_word_part (d ∷ bs) ≡ true
digit_run_parts d bs run =
    let part : is_word_part d ≡ true = ap (λ v. is_word_start d || v) run.0 ∙ or_true (is_word_start d) in
    rw (part, run.1) refl

minus_back : (place : ℕ) (bs rest : List ℕ) (ts : List Token) → IsDigitRun bs → EndsRun rest → tokens (place + suc (length bs)) 0 rest ≡ Some ts → tokens place 0 (45 ∷ (bs ++ rest)) ≡ Some (record { kind = Number; slice = record { start = place; text = 45 ∷ bs } } ∷ ts)
minus_back place [] rest ts run ends more = absurd run
minus_back place (d ∷ bs) rest ts run ends more =
    let size : 1 + prefix_len is_word_part ((d ∷ bs) ++ rest) ≡ suc (length (d ∷ bs)) = ap (λ n. 1 + n) (run_length (d ∷ bs) rest (digit_run_parts d bs run) ends) ∙ omega arith in
    let here : token_at 45 ((d ∷ bs) ++ rest) ≡ Some (Number, 1 + prefix_len is_word_part ((d ∷ bs) ++ rest)) = ap (λ v. cond v (Some (Number, 1 + prefix_len is_word_part ((d ∷ bs) ++ rest))) None) run.0 in
    token_back place 45 (d ∷ bs) rest Number ts refl refl (here ∙ ap (λ n. Some (Number, n)) size) more

ne-eqb : (b c : ℕ) → b ≢ c → eqb b c ≡ false
ne-eqb b c differs = ne_case b c (eqb b c) refl differs
  where
    ne_case : (b c : ℕ) (v : Bool) → eqb b c ≡ v → b ≢ c → eqb b c ≡ false
    ne_case b c true same differs = absurd (differs (eqb-true b c same))
    ne_case b c false same differs = same

string_back : (bs rest : List ℕ) → IsStringRest bs → string_rest false (bs ++ rest) ≡ Some (length bs)
string_back _ rest last = refl
string_back _ rest (plain b bs quote slash printable more) =
    rw (ne-eqb b 34 quote, ne-eqb b 92 slash, printable, string_back bs rest more) refl
string_back _ rest (escape b bs is more) = rw (is, string_back bs rest more) refl

kind_back : (place : ℕ) (kind : Kind) (text rest : List ℕ) (ts : List Token) → IsText kind text → IsLongest kind rest → tokens (place + length text) 0 rest ≡ Some ts → tokens place 0 (text ++ rest) ≡ Some (record { kind = kind; slice = record { start = place; text = text } } ∷ ts)
kind_back place Word text rest ts is longest more = word_back place text rest ts is longest more
kind_back place Number text rest ts (inl run) longest more = digits_back place text rest ts run longest more
kind_back place Number text rest ts (inr (bs, e, run)) longest more = rw e (minus_back place bs rest ts run longest (rw e at more))
kind_back place Text text rest ts (bs, e, inner) longest more =
    let s : 1 + length bs ≡ suc (length bs) = omega arith in
    rw e (token_back place 34 bs rest Text ts refl refl (rw (string_back bs rest inner, s) refl) (rw e at more))
kind_back place Comma text rest ts e longest more = rw e (token_back place 44 [] rest Comma ts refl refl refl (rw e at more))
kind_back place Open text rest ts e longest more = rw e (token_back place 40 [] rest Open ts refl refl refl (rw e at more))
kind_back place Close text rest ts e longest more = rw e (token_back place 41 [] rest Close ts refl refl refl (rw e at more))
kind_back place Colon text rest ts e longest more = rw e (token_back place 58 [] rest Colon ts refl refl refl (rw e at more))

-- what is in the grammar is found
pub are_tokens : (place : ℕ) (bs : List ℕ) (ts : List Token) → AreTokens place bs ts → tokens place 0 bs ≡ Some ts
are_tokens _ _ _ (end place) = refl
are_tokens _ _ _ (comment place bs) = refl
are_tokens _ _ _ (blank place b bs ts gap more) = rw gap (are_tokens (place + 1) bs ts more)
are_tokens _ _ _ (grammar.token place kind text rest ts is longest more) =
    kind_back place kind text rest ts is longest (are_tokens (place + length text) rest ts more)
