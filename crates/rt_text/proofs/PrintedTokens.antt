-- The tokens of a printed text, and the line that they are.
use Rattle.rt_text.proofs.Common.{◌≡◌, ℕ, suc, Bool, true, false, ◌+◌, ◌<◌, ◌≤◌, List, [], ◌∷◌, ◌++◌, length, refl, ap, ◌∙◌, arith, eqb, ltb, Some, Ok, length-append, append-nil, is_ascii, list_all, slice_split, and_parts, nat_tests, IsText, AreTokens, end, blank, SourceLine, SourceStatement, line_of, line_at, source_lines, text_lines, is_printable, tokens, Meaning, Kind, Word, Number, Text, Comma, Open, Close, Colon, Token}
use Rattle.std.proofs.lemmas.List.Folds.{list_all-append}
use Rattle.rt_token.specs.Grammar.{IsLongest}
use Rattle.rt_token.specs.Grammar as grammar
use Rattle.rt_token.specs.SourceLines.{lines_of_parts}
use Rattle.rt_token.proofs.GrammarLemmas.{are_tokens}

-- the bytes of a token of this kind, of this many bytes at most
pub record Piece (kind : Kind) (limit : ℕ) (text : List ℕ) : Type 0 where
  pub is_text : IsText kind text
  pub shown : list_all is_printable text ≡ true
  pub short : length text ≤ limit

-- bytes, of which the first lies at place, with their tokens; there are this many bytes at most
pub record Lexes (place : ℕ) (text : List ℕ) (most : ℕ) (ts : List Token) : Type 0 where
  pub are : AreTokens place text ts
  pub shown : list_all is_printable text ≡ true
  pub short : length text ≤ most

pub lex_end : (place : ℕ) → Lexes place [] 0 []
lex_end place = record { are = end place; shown = refl; short = omega arith }

pub lex_blank : {place most : ℕ} {rest : List ℕ} {ts : List Token} → Lexes (place + 1) rest most ts → Lexes place (32 ∷ rest) (suc most) ts
lex_blank {place} {most} {rest} {ts} more =
    record { are = blank place 32 rest ts refl more.are; shown = more.shown; short = omega (arith, more.short) }

abbrev pub lexed : Kind → ℕ → List ℕ → Token
lexed kind place text = record { kind = kind; slice = record { start = place; text = text } }

pub lex_piece : {place most limit : ℕ} {kind : Kind} (text : List ℕ) {rest : List ℕ} {ts : List Token} → Piece kind limit text → Lexes (place + length text) rest most ts → IsLongest kind rest → Lexes place (text ++ rest) (limit + most) (lexed kind place text ∷ ts)
lex_piece {place} {most} {limit} {kind} text {rest} {ts} piece more longest =
    record {
      are = grammar.token place kind text rest ts piece.is_text longest more.are;
      shown = list_all-append is_printable text rest ∙ rw (piece.shown, more.shown) refl;
      short = omega (arith, length-append text rest, piece.short, more.short);
    }

last_is_longest : (kind : Kind) → IsLongest kind []
last_is_longest Word = tt
last_is_longest Number = tt
last_is_longest Text = tt
last_is_longest Comma = tt
last_is_longest Open = tt
last_is_longest Close = tt
last_is_longest Colon = tt

pub lex_last : {place limit : ℕ} {kind : Kind} (text : List ℕ) → Piece kind limit text → Lexes place text limit (lexed kind place text ∷ [])
lex_last {place} {limit} {kind} text piece =
    let all = lex_piece text piece (lex_end (place + length text)) (last_is_longest kind) in
    record {
      are = rw append-nil at all.are;
      shown = piece.shown;
      short = piece.short;
    }

pub comma : Piece Comma 1 (44 ∷ [])
comma = record { is_text = refl; shown = refl; short = omega arith }

pub left : Piece Open 1 (40 ∷ [])
left = record { is_text = refl; shown = refl; short = omega arith }

pub right : Piece Close 1 (41 ∷ [])
right = record { is_text = refl; shown = refl; short = omega arith }

-- ---- one line

pub weaker : (p q : ℕ → Bool) → ((b : ℕ) → p b ≡ true → q b ≡ true) → (bs : List ℕ) → list_all p bs ≡ true → list_all q bs ≡ true
weaker p q each [] all = refl
weaker p q each (b ∷ bs) all =
    let parts = and_parts (p b) (list_all p bs) all in
    rw (each b parts.0, weaker p q each bs parts.1) refl

printable_ascii : (b : ℕ) → is_printable b ≡ true → is_ascii b ≡ true
printable_ascii b printable = grind (arith, nat_tests)

printable_no_end : (b : ℕ) → is_printable b ≡ true → eqb b 10 ≡ false
printable_no_end b printable = grind (arith, nat_tests)

one_part : (text : List ℕ) → list_all is_printable text ≡ true → slice_split (λ b. eqb b 10) text ≡ text ∷ []
one_part [] all = refl
one_part (b ∷ bs) all =
    let parts = and_parts (is_printable b) (list_all is_printable bs) all in
    rw (printable_no_end b parts.0, one_part bs parts.1) refl

alone : (text : List ℕ) → 0 < length text → lines_of_parts 0 (text ∷ []) ≡ (0, text) ∷ []
alone [] some = absurd (omega arith)
alone (b ∷ bs) some = grind arith

-- a text of one line without labels, whose statement has this meaning
pub record Means (text : List ℕ) (meaning : Meaning) : Type 0 where
  pub line : SourceLine
  pub statement : SourceStatement
  pub read : text_lines text ≡ Ok (line ∷ [])
  pub unlabelled : line.labels ≡ []
  pub stated : line.statement ≡ Some statement
  pub means : statement.meaning ≡ meaning

-- tokens of such a line
pub record Speaks (ts : List Token) (meaning : Meaning) : Type 0 where
  pub statement : SourceStatement
  pub line : line_of (Some ts) ≡ Ok (record { labels = []; statement = Some statement })
  pub means : statement.meaning ≡ meaning

pub spoken : (text : List ℕ) {most : ℕ} {ts : List Token} {meaning : Meaning} → Lexes 0 text most ts → Speaks ts meaning → 0 < length text → most ≤ 512 → Means text meaning
spoken text {most} {ts} {meaning} lexes speaks some short =
    let line : SourceLine = record { labels = []; statement = Some speaks.statement } in
    let within : ltb 512 (length text) ≡ false = below (omega (arith, lexes.short)) in
    let ascii : list_all is_ascii text ≡ true = weaker is_printable is_ascii printable_ascii text lexes.shown in
    let found : tokens 0 0 text ≡ Some ts = are_tokens 0 text ts lexes.are in
    let here : line_at 0 text ≡ Ok line = rw (within, ascii, found) speaks.line in
    let lines : source_lines 0 text ≡ (0, text) ∷ [] = ap (lines_of_parts 0) (one_part text lexes.shown) ∙ alone text some in
    record {
      line = line;
      statement = speaks.statement;
      read = rw (lines, here) refl;
      unlabelled = refl;
      stated = refl;
      means = speaks.means;
    }
  where
    below : {n : ℕ} → n ≤ 512 → ltb 512 n ≡ false
    below {n} small = grind (arith, nat_tests)
