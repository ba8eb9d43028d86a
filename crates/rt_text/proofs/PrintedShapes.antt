-- The statement that a printed name with its operands is.
use Rattle.rt_text.proofs.Common.{◌≡◌, ℕ, ℤ, pos, negsuc, ◌≤ℤ◌, true, ◌+◌, ◌<◌, ◌≤◌, List, [], ◌∷◌, ◌++◌, length, refl, sym, subst, arith, Some, length-append, append_assoc, signed_decimal, list_all, register, letters, form_of, meaning_of, number, labels_of, is_good, Form, Meaning, Operand, Word, Number, Comma, Open, Close, Token}
use Rattle.std.specs.Prelude.{codes}
use Rattle.rt_text.specs.Names.{register_of}
use Rattle.rt_text.specs.Operands.{operands}
use Rattle.rt_text.specs.declared.operands.Operand.TheVariants as operand
use Rattle.rt_token.specs.declared.pieces.Span.{Span}
use Rattle.rt_text.proofs.PrintedNumbers.{number_signed}
use Rattle.rt_text.proofs.PrintedPieces.{register_back, register_piece, letters_piece, signed_piece}
use Rattle.rt_text.proofs.PrintedTokens.{Piece, lex_blank, lex_piece, lex_last, lexed, comma, left, right, Means, Speaks, spoken}

-- a name of this form, whose text is a word of six bytes at most
pub record Names (name : List ℕ) (form : Form) : Type 0 where
  pub piece : Piece Word 6 name
  pub some : 0 < length name
  pub formed : form_of name ≡ Some form

-- a name and tokens that are these operands
fits : (name : List ℕ) (f : Form) (ts : List Token) (os : List Operand) (m : Meaning) → form_of name ≡ Some f → labels_of (lexed Word 0 name ∷ ts) ≡ ([], lexed Word 0 name ∷ ts) → list_all (λ t. is_good t.kind t.slice.text) ts ≡ true → operands ts ≡ Some os → meaning_of f os ≡ Some m → Speaks (lexed Word 0 name ∷ ts) m
fits name f ts os m is_form unlabelled good are mean =
    record {
      statement = record { name = record { start = 0; text = name }; operands = os; meaning = m };
      line = rw (good, unlabelled, is_form, are, mean) refl;
      means = refl;
    }

some_text : (name : List ℕ) (rest : List ℕ) → 0 < length name → 0 < length (name ++ rest)
some_text name rest some = omega (arith, length-append name rest)

-- operands that lie anywhere
abbrev pub word : ℕ → List ℕ → Operand
word place text = operand.Word (record { start = place; text = text })

abbrev pub numeral : ℕ → List ℕ → ℤ → Operand
numeral place text n = operand.Number (record { start = place; text = text }) n

-- ---- tokens with a number, wherever they lie

number_fits : (name : List ℕ) (f : Form) (m : Meaning) (n : List ℕ) (z : ℤ) {p : ℕ} → form_of name ≡ Some f → number n ≡ Some z → ((p : ℕ) → meaning_of f (numeral p n z ∷ []) ≡ Some m) → Speaks (lexed Word 0 name ∷ lexed Number p n ∷ []) m
number_fits name f m n z {p} is value mean =
    fits name f (lexed Number p n ∷ []) (numeral p n z ∷ []) m is refl (rw value refl) (rw value refl) (mean p)

register_number_fits : (name : List ℕ) (f : Form) (m : Meaning) (d n : List ℕ) (z : ℤ) {p q r : ℕ} → form_of name ≡ Some f → number n ≡ Some z → ((p q : ℕ) → meaning_of f (word p d ∷ numeral q n z ∷ []) ≡ Some m) → Speaks (lexed Word 0 name ∷ lexed Word p d ∷ lexed Comma q (44 ∷ []) ∷ lexed Number r n ∷ []) m
register_number_fits name f m d n z {p} {q} {r} is value mean =
    fits name f (lexed Word p d ∷ lexed Comma q (44 ∷ []) ∷ lexed Number r n ∷ []) (word p d ∷ numeral r n z ∷ []) m is refl (rw value refl) (rw value refl) (mean p r)

registers_number_fits : (name : List ℕ) (f : Form) (m : Meaning) (d a n : List ℕ) (z : ℤ) {p q r s t : ℕ} → form_of name ≡ Some f → number n ≡ Some z → ((p q r : ℕ) → meaning_of f (word p d ∷ word q a ∷ numeral r n z ∷ []) ≡ Some m) → Speaks (lexed Word 0 name ∷ lexed Word p d ∷ lexed Comma q (44 ∷ []) ∷ lexed Word r a ∷ lexed Comma s (44 ∷ []) ∷ lexed Number t n ∷ []) m
registers_number_fits name f m d a n z {p} {q} {r} {s} {t} is value mean =
    fits name f (lexed Word p d ∷ lexed Comma q (44 ∷ []) ∷ lexed Word r a ∷ lexed Comma s (44 ∷ []) ∷ lexed Number t n ∷ []) (word p d ∷ word r a ∷ numeral t n z ∷ []) m is refl (rw value refl) (rw value refl) (mean p r t)

memory_fits : (name : List ℕ) (f : Form) (m : Meaning) (d n b : List ℕ) (i : ℤ) (a : ℕ) {p q r s t u : ℕ} → form_of name ≡ Some f → number n ≡ Some i → register_of b ≡ Some a → ((p : ℕ) (span : Span) → meaning_of f (word p d ∷ operand.Memory span (record { offset = i; base = a }) ∷ []) ≡ Some m) → Speaks (lexed Word 0 name ∷ lexed Word p d ∷ lexed Comma q (44 ∷ []) ∷ lexed Number r n ∷ lexed Open s (40 ∷ []) ∷ lexed Word t b ∷ lexed Close u (41 ∷ []) ∷ []) m
memory_fits name f m d n b i a {p} {q} {r} {s} {t} {u} is value base mean =
    let span : Span = record { start = r; end = u + 1 } in
    fits name f (lexed Word p d ∷ lexed Comma q (44 ∷ []) ∷ lexed Number r n ∷ lexed Open s (40 ∷ []) ∷ lexed Word t b ∷ lexed Close u (41 ∷ []) ∷ []) (word p d ∷ operand.Memory span (record { offset = i; base = a }) ∷ []) m is refl (rw value refl) (rw (value, base) refl) (mean p span)

-- ---- texts: 32 is a space, 44 a comma, 40 and 41 are parentheses

abbrev pub pair_text : List ℕ → List ℕ → List ℕ
pair_text a b = codes " " ++ a ++ codes "," ++ b

abbrev pub triple_text : List ℕ → List ℕ → List ℕ → List ℕ
triple_text a b c = codes " " ++ a ++ codes "," ++ b ++ codes "," ++ c

abbrev pub memory_text : List ℕ → List ℕ → List ℕ → List ℕ
memory_text r i a = codes " " ++ r ++ codes "," ++ i ++ codes "(" ++ a ++ codes ")"

pair_is : (a b : List ℕ) → pair_text a b ≡ 32 ∷ (a ++ 44 ∷ b)
pair_is a b = simp append_assoc

triple_is : (a b c : List ℕ) → triple_text a b c ≡ 32 ∷ (a ++ 44 ∷ (b ++ 44 ∷ c))
triple_is a b c = simp append_assoc

memory_is : (r i a : List ℕ) → memory_text r i a ≡ 32 ∷ (r ++ 44 ∷ (i ++ 40 ∷ (a ++ 41 ∷ [])))
memory_is r i a = simp append_assoc

pub none_read : (name : List ℕ) (f : Form) (m : Meaning) → Names name f → meaning_of f [] ≡ Some m → Means name m
none_read name f m is mean =
    spoken name (lex_last name is.piece) (fits name f [] [] m is.formed refl refl refl mean) is.some (omega arith)

pub number_read : (name : List ℕ) (f : Form) (m : Meaning) (limit : ℕ) (n : List ℕ) (z : ℤ) → Names name f → Piece Number limit n → number n ≡ Some z → limit ≤ 16 → ((p : ℕ) → meaning_of f (numeral p n z ∷ []) ≡ Some m) → Means (name ++ 32 ∷ n) m
number_read name f m limit n z is piece value small mean =
    spoken (name ++ 32 ∷ n)
    (lex_piece name is.piece (lex_blank (lex_last n piece)) refl)
    (number_fits name f m n z is.formed value mean)
    (some_text name (32 ∷ n) is.some)
    (omega arith)

pub register_number_read : (name : List ℕ) (f : Form) (m : Meaning) (d limit : ℕ) (n : List ℕ) (z : ℤ) → Names name f → d < 32 → Piece Number limit n → number n ≡ Some z → limit ≤ 16 → ((p q : ℕ) → meaning_of f (word p (register d) ∷ numeral q n z ∷ []) ≡ Some m) → Means (name ++ pair_text (register d) n) m
register_number_read name f m d limit n z is is_d piece value small mean =
    subst (λ t. Means (name ++ t) m) (sym (pair_is (register d) n))
    (spoken (name ++ 32 ∷ (register d ++ 44 ∷ n))
    (lex_piece name is.piece (lex_blank (lex_piece (register d) (register_piece d is_d) (lex_piece (44 ∷ []) comma (lex_last n piece) tt) refl)) refl)
    (register_number_fits name f m (register d) n z is.formed value mean)
    (some_text name (32 ∷ (register d ++ 44 ∷ n)) is.some)
    (omega arith))

pub registers_number_read : (name : List ℕ) (f : Form) (m : Meaning) (d a limit : ℕ) (n : List ℕ) (z : ℤ) → Names name f → d < 32 → a < 32 → Piece Number limit n → number n ≡ Some z → limit ≤ 16 → ((p q r : ℕ) → meaning_of f (word p (register d) ∷ word q (register a) ∷ numeral r n z ∷ []) ≡ Some m) → Means (name ++ triple_text (register d) (register a) n) m
registers_number_read name f m d a limit n z is is_d is_a piece value small mean =
    subst (λ t. Means (name ++ t) m) (sym (triple_is (register d) (register a) n))
    (spoken (name ++ 32 ∷ (register d ++ 44 ∷ (register a ++ 44 ∷ n)))
    (lex_piece name is.piece (lex_blank (lex_piece (register d) (register_piece d is_d) (lex_piece (44 ∷ []) comma (lex_piece (register a) (register_piece a is_a) (lex_piece (44 ∷ []) comma (lex_last n piece) tt) refl) tt) refl)) refl)
    (registers_number_fits name f m (register d) (register a) n z is.formed value mean)
    (some_text name (32 ∷ (register d ++ 44 ∷ (register a ++ 44 ∷ n))) is.some)
    (omega arith))

pub registers_read : (name : List ℕ) (f : Form) (m : Meaning) (d a b : ℕ) → Names name f → d < 32 → a < 32 → b < 32 → ((p q r : ℕ) → meaning_of f (word p (register d) ∷ word q (register a) ∷ word r (register b) ∷ []) ≡ Some m) → Means (name ++ triple_text (register d) (register a) (register b)) m
registers_read name f m d a b is is_d is_a is_b mean =
    subst (λ t. Means (name ++ t) m) (sym (triple_is (register d) (register a) (register b)))
    (spoken (name ++ 32 ∷ (register d ++ 44 ∷ (register a ++ 44 ∷ register b)))
    (lex_piece name is.piece (lex_blank (lex_piece (register d) (register_piece d is_d) (lex_piece (44 ∷ []) comma (lex_piece (register a) (register_piece a is_a) (lex_piece (44 ∷ []) comma (lex_last (register b) (register_piece b is_b)) tt) refl) tt) refl)) refl)
    (fits name f _ _ m is.formed refl refl refl (mean _ _ _))
    (some_text name (32 ∷ (register d ++ 44 ∷ (register a ++ 44 ∷ register b))) is.some)
    (omega arith))

pub sets_read : (name : List ℕ) (f : Form) (m : Meaning) (before after : ℕ) → Names name f → 0 < before → before < 16 → 0 < after → after < 16 → ((p q : ℕ) → meaning_of f (word p (letters before) ∷ word q (letters after) ∷ []) ≡ Some m) → Means (name ++ pair_text (letters before) (letters after)) m
sets_read name f m before after is some_before is_before some_after is_after mean =
    subst (λ t. Means (name ++ t) m) (sym (pair_is (letters before) (letters after)))
    (spoken (name ++ 32 ∷ (letters before ++ 44 ∷ letters after))
    (lex_piece name is.piece (lex_blank (lex_piece (letters before) (letters_piece before some_before is_before) (lex_piece (44 ∷ []) comma (lex_last (letters after) (letters_piece after some_after is_after)) tt) refl)) refl)
    (fits name f _ (word _ (letters before) ∷ word _ (letters after) ∷ []) m is.formed refl refl refl (mean _ _))
    (some_text name (32 ∷ (letters before ++ 44 ∷ letters after)) is.some)
    (omega arith))

pub memory_read : (name : List ℕ) (f : Form) (m : Meaning) (r a : ℕ) (i : ℤ) → Names name f → r < 32 → a < 32 → negsuc 2047 ≤ℤ i → i ≤ℤ pos 2047 → ((p : ℕ) (span : Span) → meaning_of f (word p (register r) ∷ operand.Memory span (record { offset = i; base = a }) ∷ []) ≡ Some m) → Means (name ++ memory_text (register r) (signed_decimal i) (register a)) m
memory_read name f m r a i is is_r is_a low high mean =
    let value : number (signed_decimal i) ≡ Some i = number_signed i low high in
    subst (λ t. Means (name ++ t) m) (sym (memory_is (register r) (signed_decimal i) (register a)))
    (spoken (name ++ 32 ∷ (register r ++ 44 ∷ (signed_decimal i ++ 40 ∷ (register a ++ 41 ∷ []))))
    (lex_piece name is.piece (lex_blank (lex_piece (register r) (register_piece r is_r) (lex_piece (44 ∷ []) comma (lex_piece (signed_decimal i) (signed_piece i low high) (lex_piece (40 ∷ []) left (lex_piece (register a) (register_piece a is_a) (lex_last (41 ∷ []) right) refl) tt) refl) tt) refl)) refl)
    (memory_fits name f m (register r) (signed_decimal i) (register a) i a is.formed value (register_back a is_a) mean)
    (some_text name (32 ∷ (register r ++ 44 ∷ (signed_decimal i ++ 40 ∷ (register a ++ 41 ∷ [])))) is.some)
    (omega arith))
