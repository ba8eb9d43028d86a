-- The pieces of a source lie in its text, line by line.
use Rattle.rt_text.proofs.Common.{◌≡◌, ℕ, suc, Bool, true, false, cond, ◌+◌, ◌-◌, ◌≤◌, List, [], ◌∷◌, ◌++◌, length, drop, take, refl, arith, sym, ◌∙◌, ap, subst, Option, Some, None, Result, Ok, Err, append_assoc, append-nil, length-append, is_ascii, list_all, slice_split, option_map, option_and_then, form_of, AreTokens, SourceStatement, SourceLine, meaning_of, operands_of, Slice, is_label, labels_of, fits_or_fails, formed, named, statement_of, with_labels, is_good, line_of, line_at, source_lines, text_lines, tokens, TextKind, Form, Meaning, Operand, Kind, Word, Number, Text, Comma, Open, Close, Colon, Token, tokens_are}
use Rattle.std.proofs.Common.{length-drop}
use Rattle.std.specs.Prelude.{map, nat_lt, not, slice_index, ◌==◌}
use Rattle.std.proofs.lemmas.List.{take-append-drop, drop-drop}
use Rattle.std.proofs.lemmas.List.Splits.{join_with_byte-slice_split}
use Rattle.std.proofs.Math.Seq.{drop-append_seam, take-length}
use Rattle.std.specs.List.{join_with_byte}
use Rattle.std.specs.Str.Lines.{strip_carriage_return}
use Rattle.rt_text.specs.Operands.{end_of}
use Rattle.rt_text.specs.Pieces.{pieces_in, pieces_of, AreInOrder}
use Rattle.rt_words.specs.Run.{next}
use Rattle.rt_token.specs.SourceLines.{lines_of_parts}
use Rattle.rt_text.specs.Text.{appended, fault_at, read_from}
use Rattle.rt_text.specs.declared.fault.TextKind.TheVariants as faults
use Rattle.rt_text.specs.declared.operands.Operand.TheVariants as operands
use Rattle.rt_text.proofs.PieceLemmas.{Rest, First, first, earlier, rest_low, operands_in_order}

ok_is : {A E : Type 0} (x y : A) → ◌≡◌ {A = Result A E} (Ok x) (Ok y) → x ≡ y
ok_is x y same = cc

-- ---- a statement

-- a statement that a name and the tokens behind it are
record Formed (name : Slice) (ts : List Token) (statement : Option SourceStatement) : Type 0 where
  operands : List Operand
  meaning : Meaning
  are : operands_of ts ≡ Some operands
  is : Some (record { name = name; operands = operands; meaning = meaning }) ≡ statement

meant : (name : Slice) (ts : List Token) (st : Option SourceStatement) (os : List Operand) (m : Option Meaning) → operands_of ts ≡ Some os → fits_or_fails (option_map (λ m. record { name = name; operands = os; meaning = m }) m) ≡ Ok st → Formed name ts st
meant name ts st os None are found = cc
meant name ts st os (Some m) are found = record { operands = os; meaning = m; are = are; is = ok_is _ st found }

fitted_is : (name : Slice) (form : Form) (ts : List Token) (st : Option SourceStatement) (os : Option (List Operand)) → operands_of ts ≡ os → fits_or_fails (option_and_then (λ os. option_map (λ m. record { name = name; operands = os; meaning = m }) (meaning_of form os)) os) ≡ Ok st → Formed name ts st
fitted_is name form ts st None are found = cc
fitted_is name form ts st (Some os) are found = meant name ts st os (meaning_of form os) are found

formed_is : (name : Slice) (form : Option Form) (ts : List Token) (st : Option SourceStatement) → formed name form ts ≡ Ok st → Formed name ts st
formed_is name None ts st found = cc
formed_is name (Some form) ts st found = fitted_is name form ts st (operands_of ts) refl found

named_is : (kind : Kind) (name : Slice) (ts : List Token) (st : Option SourceStatement) → named kind name ts ≡ Ok st → Formed name ts st
named_is Word name ts st found = formed_is name (form_of name.text) ts st found
named_is Number name ts st found = cc
named_is Text name ts st found = cc
named_is Comma name ts st found = cc
named_is Open name ts st found = cc
named_is Close name ts st found = cc
named_is Colon name ts st found = cc

statement_in_order : (text : List ℕ) (limit place : ℕ) (ts : List Token) (st : Option SourceStatement) (after : List Operand) → Rest text limit place ts → statement_of ts ≡ Ok st → AreInOrder text limit after → AreInOrder text place (pieces_in st ++ after)
statement_in_order text limit place [] st after r found behind =
    subst (λ s. AreInOrder text place (pieces_in s ++ after)) (ok_is None st found) (earlier text place limit after (rest_low text limit place [] r) behind)
statement_in_order text limit place (t ∷ ts) st after r found behind =
    let f : First text limit place t ts = first text limit place t ts r in
    let s : Formed t.slice ts st = named_is t.kind t.slice ts st found in
    let rest : AreInOrder text (end_of t.slice) (s.operands ++ after) = operands_in_order text limit (end_of t.slice) ts s.operands after f.rest s.are behind in
    subst (λ s. AreInOrder text place (pieces_in s ++ after)) s.is (f.low, f.filled, f.written, rest)

-- ---- the labels

Labels : List ℕ → ℕ → List Operand → List Slice × List Token → ℕ → Type 0
Labels text limit after found place =
    ((p : ℕ) → Rest text limit p found.1 → AreInOrder text p after) → AreInOrder text place (map operands.Word found.0 ++ after)

label_step : (text : List ℕ) (limit place : ℕ) (t u : Token) (ts : List Token) (after : List Operand) (v : Bool) → is_label t.kind u.kind ≡ v → Rest text limit place (t ∷ u ∷ ts) → ((p : ℕ) → Rest text limit p ts → Labels text limit after (labels_of ts) p) → Labels text limit after (cond {A = List Slice × List Token} v (t.slice ∷ (labels_of ts).0, (labels_of ts).1) ([], t ∷ u ∷ ts)) place
unfolding Labels
label_step text limit place t u ts after true is r below behind =
    let f : First text limit place t (u ∷ ts) = first text limit place t (u ∷ ts) r in
    let g : First text limit (end_of t.slice) u ts = first text limit (end_of t.slice) u ts f.rest in
    let rest : AreInOrder text (end_of u.slice) (map operands.Word (labels_of ts).0 ++ after) = below (end_of u.slice) g.rest behind in
    (f.low, f.filled, f.written, earlier text (end_of t.slice) (end_of u.slice) (map operands.Word (labels_of ts).0 ++ after) (omega (arith, g.low, g.filled)) rest)
label_step text limit place t u ts after false is r below behind = behind place r

labels_in_order : (text : List ℕ) (limit place : ℕ) (ts : List Token) (after : List Operand) → Rest text limit place ts → Labels text limit after (labels_of ts) place
unfolding Labels
labels_in_order text limit place [] after r = λ behind. behind place r
labels_in_order text limit place (t ∷ []) after r = λ behind. behind place r
labels_in_order text limit place (t ∷ u ∷ ts) after r =
    label_step text limit place t u ts after (is_label t.kind u.kind) refl r (λ p rest. labels_in_order text limit p ts after rest)

-- ---- a line

-- a line that is read
record Read (place : ℕ) (bytes : List ℕ) (line : SourceLine) : Type 0 where
  found : List Token
  are : tokens place 0 bytes ≡ Some found
  labels : (labels_of found).0 ≡ line.labels
  statement : statement_of (labels_of found).1 ≡ Ok line.statement

labelled : (place : ℕ) (bytes : List ℕ) (line : SourceLine) (ts : List Token) (st : Result (Option SourceStatement) TextKind) → tokens place 0 bytes ≡ Some ts → statement_of (labels_of ts).1 ≡ st → with_labels (labels_of ts).0 st ≡ Ok line → Read place bytes line
labelled place bytes line ts (Err kind) are is found = cc
labelled place bytes line ts (Ok st) are is found =
    let same : record { labels = (labels_of ts).0; statement = st } ≡ line = ok_is _ line found in
    record { found = ts; are = are; labels = ap (λ (l : SourceLine). l.labels) same; statement = is ∙ ap (λ (l : SourceLine). Ok l.statement) same }

good_line : (place : ℕ) (bytes : List ℕ) (line : SourceLine) (ts : List Token) (good : Bool) → tokens place 0 bytes ≡ Some ts → cond good (with_labels (labels_of ts).0 (statement_of (labels_of ts).1)) (Err faults.BadNumber) ≡ Ok line → Read place bytes line
good_line place bytes line ts false are found = cc
good_line place bytes line ts true are found = labelled place bytes line ts (statement_of (labels_of ts).1) are refl found

token_line : (place : ℕ) (bytes : List ℕ) (line : SourceLine) (ts : Option (List Token)) → tokens place 0 bytes ≡ ts → line_of ts ≡ Ok line → Read place bytes line
token_line place bytes line None are found = cc
token_line place bytes line (Some ts) are found = good_line place bytes line ts (list_all (λ t. is_good t.kind t.slice.text) ts) are found

short_line : (place : ℕ) (bytes : List ℕ) (line : SourceLine) (long other : Bool) → cond long (Err faults.LineTooLong) (cond other (Err faults.NotAscii) (line_of (tokens place 0 bytes))) ≡ Ok line → Read place bytes line
short_line place bytes line true other found = cc
short_line place bytes line false true found = cc
short_line place bytes line false false found = token_line place bytes line (tokens place 0 bytes) refl found

line_in_order : (text : List ℕ) (place : ℕ) (bytes more : List ℕ) (line : SourceLine) (after : List Operand) → drop place text ≡ bytes ++ more → line_at place bytes ≡ Ok line → AreInOrder text (place + length bytes) after → AreInOrder text place (map operands.Word line.labels ++ (pieces_in line.statement ++ after))
unfolding Labels
line_in_order text place bytes more line after here found behind =
    let read : Read place bytes line = short_line place bytes line (nat_lt 512 (length bytes)) (not (list_all is_ascii bytes)) found in
    let e : place + 0 ≡ place = omega arith in
    let are : AreTokens place bytes read.found = subst (λ p. AreTokens p bytes read.found) e (tokens_are 0 place bytes read.found read.are) in
    let whole : Rest text (place + length bytes) place read.found = record { bytes = bytes; more = more; here = here; are = are; within = omega arith } in
    rw (sym read.labels) (labels_in_order text (place + length bytes) place read.found (pieces_in line.statement ++ after) whole (λ p rest. statement_in_order text (place + length bytes) p (labels_of read.found).1 line.statement after rest read.statement behind))

-- ---- the text

-- lines lie in a text from place on, each behind the one before
LieIn : List ℕ → ℕ → List (ℕ × List ℕ) → Type 0
LieIn text place [] = place ≤ length text
LieIn text place (l ∷ ls) = (place ≤ l.0) × ((more : List ℕ) × (drop l.0 text ≡ l.1 ++ more)) × LieIn text (l.0 + length l.1) ls

lie_earlier : (text : List ℕ) (p q : ℕ) (ls : List (ℕ × List ℕ)) → p ≤ q → LieIn text q ls → LieIn text p ls
unfolding LieIn
lie_earlier text p q [] low lie = omega (arith, lie)
lie_earlier text p q (l ∷ ls) low lie = (omega (arith, lie.0), lie.1, lie.2)

one_part : (text : List ℕ) (place : ℕ) (part : List ℕ) (none : Bool) → drop place text ≡ part → place ≤ length text → LieIn text place (cond none [] ((place, part) ∷ []))
unfolding LieIn
one_part text place part true here within = within
one_part text place part false here within =
    let size : length (drop place text) ≡ length text - place = length-drop place text in
    let same : length (drop place text) ≡ length part = ap length here in
    (omega arith, ([], here ∙ sym (append-nil part)), omega (arith, size, same, within))

-- what a line loses stands at its end
stripped : (part : List ℕ) (v : Bool) → (n : ℕ) × (cond v (take (length part - 1) part) part ≡ take n part)
stripped part true = (length part - 1, refl)
stripped part false = (length part, sym (take-length part))

parts_lie : (text : List ℕ) (place : ℕ) (parts : List (List ℕ)) → drop place text ≡ join_with_byte 10 parts → place ≤ length text → LieIn text place (lines_of_parts place parts)
unfolding LieIn
parts_lie text place [] here within = within
parts_lie text place (part ∷ []) here within = one_part text place part (length part == 0) here within
parts_lie text place (part ∷ another ∷ more) here within =
    let rest : List ℕ = join_with_byte 10 (another ∷ more) in
    let next : drop (place + length part + 1) text ≡ rest = sym (drop-drop 1 (place + length part) text) ∙ ap (drop 1) (sym (drop-drop (length part) place text) ∙ ap (drop (length part)) here ∙ drop-append_seam part (10 ∷ rest)) in
    let size : length (drop place text) ≡ length text - place = length-drop place text in
    let same : length (drop place text) ≡ length part + suc (length rest) = ap length here ∙ length-append part (10 ∷ rest) in
    let cut : (n : ℕ) × (strip_carriage_return part ≡ take n part) = stripped part (slice_index part (length part - 1) == 13) in
    let tail : strip_carriage_return part ++ drop cut.0 part ≡ part = rw cut.1 (take-append-drop cut.0 part) in
    let halves : length (strip_carriage_return part) + length (drop cut.0 part) ≡ length part = sym (length-append (strip_carriage_return part) (drop cut.0 part)) ∙ ap length tail in
    let whole : drop place text ≡ strip_carriage_return part ++ (drop cut.0 part ++ 10 ∷ rest) = here ∙ ap (λ l. l ++ 10 ∷ rest) (sym tail) ∙ append_assoc (strip_carriage_return part) (drop cut.0 part) (10 ∷ rest) in
    let below : LieIn text (place + length part + 1) (lines_of_parts (place + length part + 1) (another ∷ more)) = parts_lie text (place + length part + 1) (another ∷ more) next (omega (arith, size, same, within)) in
    (omega arith, (drop cut.0 part ++ 10 ∷ rest, whole), lie_earlier text (place + length (strip_carriage_return part)) (place + length part + 1) (lines_of_parts (place + length part + 1) (another ∷ more)) (omega (arith, halves)) below)

-- the lines that were read behind those before
record Behind (text : List ℕ) (place : ℕ) (before all : List SourceLine) : Type 0 where
  lines : List SourceLine
  are : before ++ lines ≡ all
  lie : AreInOrder text place (pieces_of lines)

Reads : List ℕ → ℕ → List (ℕ × List ℕ) → Type 0
Reads text place ls = (n : ℕ) (before all : List SourceLine) → read_from n before ls ≡ Ok all → Behind text place before all

line_read : (text : List ℕ) (place n : ℕ) (before all : List SourceLine) (l : ℕ × List ℕ) (ls : List (ℕ × List ℕ)) (line : Result SourceLine TextKind) → line_at l.0 l.1 ≡ line → LieIn text place (l ∷ ls) → Reads text (l.0 + length l.1) ls → next fault_at n (appended before line) (λ t. read_from (n + 1) t ls) ≡ Ok all → Behind text place before all
unfolding LieIn Reads
line_read text place n before all l ls (Err kind) is lie below found = cc
line_read text place n before all l ls (Ok line) is lie below found =
    let rest : Behind text (l.0 + length l.1) (before ++ line ∷ []) all = below (n + 1) (before ++ line ∷ []) all found in
    let pieces : AreInOrder text l.0 (pieces_of (line ∷ rest.lines)) = line_in_order text l.0 l.1 lie.1.0 line (pieces_of rest.lines) lie.1.1 is rest.lie in
    record {
      lines = line ∷ rest.lines;
      are = sym (append_assoc before (line ∷ []) rest.lines) ∙ rest.are;
      lie = earlier text place l.0 (pieces_of (line ∷ rest.lines)) lie.0 pieces;
    }

lines_read : (text : List ℕ) (place : ℕ) (ls : List (ℕ × List ℕ)) → LieIn text place ls → Reads text place ls
unfolding LieIn Reads
lines_read text place [] lie n before all found =
    record { lines = []; are = append-nil before ∙ ok_is before all found; lie = lie }
lines_read text place (l ∷ ls) lie n before all found =
    line_read text place n before all l ls (line_at l.0 l.1) refl lie (lines_read text (l.0 + length l.1) ls lie.2) found

pub text_in_order : (text : List ℕ) (lines : List SourceLine) → text_lines text ≡ Ok lines → AreInOrder text 0 (pieces_of lines)
unfolding Reads
text_in_order text lines found =
    let whole : drop 0 text ≡ join_with_byte 10 (slice_split (λ b. b == 10) text) = sym (join_with_byte-slice_split 10 text) in
    let read : Behind text 0 [] lines = lines_read text 0 (source_lines 0 text) (parts_lie text 0 (slice_split (λ b. b == 10) text) whole (omega arith)) 1 [] lines found in
    subst (λ l. AreInOrder text 0 (pieces_of l)) read.are read.lie
