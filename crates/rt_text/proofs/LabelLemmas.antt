-- The labels of a line are names of labels.
use Rattle.rt_text.proofs.Common.{◌≡◌, ℕ, Bool, true, false, cond, ◌+◌, ◌≤◌, List, [], ◌∷◌, ◌++◌, length, refl, arith, subst, Some, AreTokens, end, blank, Slice, is_label, labels_of, tokens, is_word, Kind, Word, Number, Text, Comma, Open, Close, Colon, Token, tokens_are}
use Rattle.std.proofs.lemmas.List.{length-append}
use Rattle.rt_token.specs.Grammar.{comment}
use Rattle.rt_token.specs.Grammar as grammar
use Rattle.rt_text.specs.LabelName.{AreLabelNames}

-- a token that is a word has a word's text, and none has more than 512 bytes
record IsShort (t : Token) : Type 0 where
  word : t.kind ≡ Word → is_word t.slice.text ≡ true
  short : length t.slice.text ≤ 512

abbrev AreShort : List Token → Type 0
AreShort [] = Unit {0}
AreShort (t ∷ ts) = IsShort t × AreShort ts

kind_word : (kind : Kind) (text : List ℕ) → grammar.IsText kind text → kind ≡ Word → is_word text ≡ true
kind_word kind text is e = rw e at is

-- the tokens of a line are no longer than the line
are_short : (place : ℕ) (bs : List ℕ) (ts : List Token) → AreTokens place bs ts → length bs ≤ 512 → AreShort ts
are_short _ _ _ (end place) low = tt
are_short _ _ _ (comment place bs) low = tt
are_short _ _ _ (blank place b bs ts is rest) low = are_short (place + 1) bs ts rest (omega arith)
are_short _ _ _ (grammar.token place kind text rest ts is longest more) low =
    let size : length (text ++ rest) ≡ length text + length rest = length-append text rest in
    (record { word = kind_word kind text is; short = omega arith }, are_short (place + length text) rest ts more (omega arith))

false_true : false ≡ true → ⊥
false_true e = cc

label_word : (first second : Kind) → is_label first second ≡ true → first ≡ Word
label_word Word second e = refl
label_word Number second e = absurd (false_true e)
label_word Text second e = absurd (false_true e)
label_word Comma second e = absurd (false_true e)
label_word Open second e = absurd (false_true e)
label_word Close second e = absurd (false_true e)
label_word Colon second e = absurd (false_true e)

label_step : (t u : Token) (ts : List Token) (v : Bool) → is_label t.kind u.kind ≡ v → IsShort t → AreLabelNames (labels_of ts).0 → AreLabelNames (cond {A = List Slice × List Token} v (t.slice ∷ (labels_of ts).0, (labels_of ts).1) ([], t ∷ u ∷ ts)).0
label_step t u ts true e is rest = (record { word = is.word (label_word t.kind u.kind e); short = is.short }, rest)
label_step t u ts false e is rest = tt

label_names : (ts : List Token) → AreShort ts → AreLabelNames (labels_of ts).0
label_names [] is = tt
label_names (t ∷ []) is = tt
label_names (t ∷ u ∷ ts) is = label_step t u ts (is_label t.kind u.kind) refl is.0 (label_names ts is.1.1)

-- the labels at the front of a line of at most 512 bytes
pub line_label_names : (place : ℕ) (bs : List ℕ) (ts : List Token) (labels : List Slice) → tokens place 0 bs ≡ Some ts → length bs ≤ 512 → (labels_of ts).0 ≡ labels → AreLabelNames labels
line_label_names place bs ts labels found low is =
    let e : place + 0 ≡ place = omega arith in
    subst AreLabelNames is (label_names ts (are_short place bs ts (subst (λ p. AreTokens p bs ts) e (tokens_are 0 place bs ts found)) low))
