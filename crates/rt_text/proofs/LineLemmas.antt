-- The lines that are read are those of the grammar.
use Rattle.rt_text.proofs.Common.{◌≡◌, ℕ, ℤ, pos, ◌+◌, ◌≤◌, Bool, true, false, cond, ltb, List, [], ◌∷◌, ◌++◌, length, Option, Some, None, Result, Ok, Err, refl, sym, ap, subst, ◌∙◌, arith, inl, inr, append_assoc, append-nil, nat_tests, is_ascii, list_all, slice_split, option_map, option_and_then, AreTokens, number, Slice, tokens, with_front, tokens_are, form_of, SourceStatement, SourceLine, meaning_of, is_comma, operand, each, operands_of, is_label, labels_of, fits_or_fails, formed, named, statement_of, with_labels, is_good, line_of, line_at, TextKind, Form, Meaning, Operand, Kind, Word, Number, Text, Comma, Open, Close, Colon, Token}
use Rattle.std.proofs.Common.{not, is_some}
use Rattle.std.proofs.lemmas.Bool.{cases_Bool}
use Rattle.std.specs.List.{onto_first}
use Rattle.rt_token.proofs.GrammarLemmas.{are_tokens}
use Rattle.rt_text.specs.LineGrammar.{of_kind, memory_from, IsOperand, AreSeparated, AreOperands, IsStatement, IsLine, SaysLine, word, value, text, at_base, at_offset, last, more, none, some, statement, blank, bare, labelled}
use Rattle.rt_text.specs.Operands.{one_token, base_in, offset_in}
use Rattle.rt_text.specs.Statement.{fitted}
use Rattle.rt_text.specs.declared.fault.TextKind.TheVariants.{BadNumber, LineTooLong, NotAscii}
use Rattle.rt_text.specs.declared.operands.Operand.TheVariants as operands

-- ---- what is in the grammar is read

abbrev all_good : List Token → Bool
all_good ts = list_all (λ t. is_good t.kind t.slice.text) ts

operand_read : (ts : List Token) (o : Operand) → IsOperand ts o → operand ts ≡ Some o
operand_read _ _ (word s) = refl
operand_read _ _ (value s n is) = rw is refl
operand_read _ _ (text s) = refl
operand_read _ _ (at_base left base right r is) = rw is refl
operand_read _ _ (at_offset offset left base right n r of_offset of_base) = rw (of_offset, of_base) refl

last_split : (ts : List Token) (o : Operand) → IsOperand ts o → slice_split is_comma ts ≡ ts ∷ []
last_split _ _ (word s) = refl
last_split _ _ (value s n is) = refl
last_split _ _ (text s) = refl
last_split _ _ (at_base left base right r is) = refl
last_split _ _ (at_offset offset left base right n r of_offset of_base) = refl

more_split : (ts : List Token) (o : Operand) (comma : Slice) (rest : List Token) → IsOperand ts o → slice_split is_comma (ts ++ of_kind Comma comma ∷ rest) ≡ ts ∷ slice_split is_comma rest
more_split _ _ comma rest (word s) = refl
more_split _ _ comma rest (value s n is) = refl
more_split _ _ comma rest (text s) = refl
more_split _ _ comma rest (at_base left base right r is) = refl
more_split _ _ comma rest (at_offset offset left base right n r of_offset of_base) = refl

separated_read : (ts : List Token) (os : List Operand) → AreSeparated ts os → each operand (slice_split is_comma ts) ≡ Some os
separated_read _ _ (last ts o is) = rw (last_split ts o is, operand_read ts o is) refl
separated_read _ _ (more ts comma rest o os is others) =
    rw (more_split ts o comma rest is, operand_read ts o is, separated_read rest os others) refl

operands_read : (ts : List Token) (os : List Operand) → AreOperands ts os → operands_of ts ≡ Some os
operands_read _ _ none = refl
operands_read _ _ (some ts os are) = filled ts os (separated_read ts os are)
  where
    filled : (ts : List Token) (os : List Operand) → each operand (slice_split is_comma ts) ≡ Some os → operands_of ts ≡ Some os
    filled [] os is = absurd cc
    filled (t ∷ ts) os is = is

-- a statement's operands don't begin with ':'
abbrev IsNoColon : List Token → Type 0
IsNoColon [] = Unit {0}
IsNoColon (t ∷ ts) = is_label Word t.kind ≡ false

separated_begin : (ts : List Token) (os : List Operand) → AreSeparated ts os → IsNoColon ts
separated_begin _ _ (last ts o is) = alone ts o is
  where
    alone : (ts : List Token) (o : Operand) → IsOperand ts o → IsNoColon ts
    alone _ _ (word s) = refl
    alone _ _ (value s n is) = refl
    alone _ _ (text s) = refl
    alone _ _ (at_base left base right r is) = refl
    alone _ _ (at_offset offset left base right n r of_offset of_base) = refl
separated_begin _ _ (more ts comma rest o os is others) = followed ts o (of_kind Comma comma ∷ rest) is
  where
    followed : (ts : List Token) (o : Operand) (rest : List Token) → IsOperand ts o → IsNoColon (ts ++ rest)
    followed _ _ rest (word s) = refl
    followed _ _ rest (value s n is) = refl
    followed _ _ rest (text s) = refl
    followed _ _ rest (at_base left base right r is) = refl
    followed _ _ rest (at_offset offset left base right n r of_offset of_base) = refl

operands_begin : (ts : List Token) (os : List Operand) → AreOperands ts os → IsNoColon ts
operands_begin _ _ none = tt
operands_begin _ _ (some ts os are) = separated_begin ts os are

-- its numbers are good
good_before : (ts : List Token) (o : Operand) (rest : List Token) → IsOperand ts o → all_good rest ≡ true → all_good (ts ++ rest) ≡ true
good_before _ _ rest (word s) good = good
good_before _ _ rest (value s n is) good = rw is good
good_before _ _ rest (text s) good = good
good_before _ _ rest (at_base left base right r is) good = good
good_before _ _ rest (at_offset offset left base right n r of_offset of_base) good = rw of_offset good

good_separated : (ts : List Token) (os : List Operand) → AreSeparated ts os → all_good ts ≡ true
good_separated _ _ (last ts o is) = subst (λ us. all_good us ≡ true) (append-nil ts) (good_before ts o [] is refl)
good_separated _ _ (more ts comma rest o os is others) = good_before ts o (of_kind Comma comma ∷ rest) is (good_separated rest os others)

good_operands : (ts : List Token) (os : List Operand) → AreOperands ts os → all_good ts ≡ true
good_operands _ _ none = refl
good_operands _ _ (some ts os are) = good_separated ts os are

record IsRead (ts : List Token) (labels : List Slice) (s : Option SourceStatement) : Type 0 where
  front : (labels_of ts).0 ≡ labels
  back : statement_of (labels_of ts).1 ≡ Ok s
  good : all_good ts ≡ true

no_labels : (name : Slice) (ts : List Token) → IsNoColon ts → labels_of (of_kind Word name ∷ ts) ≡ ([], of_kind Word name ∷ ts)
no_labels name [] is = refl
no_labels name (t ∷ ts) is = rw is refl

statement_read : (ts : List Token) (s : SourceStatement) → IsStatement ts s → IsRead ts [] (Some s)
statement_read _ _ (statement name form ts os meaning is_form are fits) =
    let labels : labels_of (of_kind Word name ∷ ts) ≡ ([], of_kind Word name ∷ ts) = no_labels name ts (operands_begin ts os are) in
    record {
      front = rw labels refl;
      back = rw (labels, is_form, operands_read ts os are, fits) refl;
      good = good_operands ts os are;
    }

line_read : (ts : List Token) (line : SourceLine) → IsLine ts line → IsRead ts line.labels line.statement
line_read _ _ blank = record { front = refl; back = refl; good = refl }
line_read _ _ (bare ts s is) = statement_read ts s is
line_read _ _ (labelled name colon ts labels s is) =
    let r = line_read ts (record { labels = labels; statement = s }) is in
    record { front = ap (λ ls. name ∷ ls) r.front; back = r.back; good = r.good }

pub says_read : (place : ℕ) (bytes : List ℕ) (line : SourceLine) → SaysLine place bytes line → line_at place bytes ≡ Ok line
says_read place bytes line says =
    let found : tokens place 0 bytes ≡ Some says.tokens = are_tokens place bytes says.tokens says.are in
    let r = line_read says.tokens line says.is in
    let short : ltb 512 (length bytes) ≡ false = within (length bytes) says.short in
    rw (short, says.ascii, found, r.good, r.front, r.back) refl
  where
    within : (n : ℕ) → n ≤ 512 → ltb 512 n ≡ false
    within n low = grind (arith, nat_tests)

-- ---- what is read is in the grammar

-- a part put before the first
abbrev onto : List Token → List (List Token) → List (List Token)
onto front [] = front ∷ []
onto front (part ∷ parts) = (front ++ part) ∷ parts

onto_again : (front : List Token) (t : Token) (parts : List (List Token)) → onto front (onto_first t parts) ≡ onto (front ++ t ∷ []) parts
onto_again front t [] = refl
onto_again front t (part ∷ parts) = ap (λ p. p ∷ parts) (sym (append_assoc front (t ∷ []) part))

onto_nothing : (ts : List Token) → onto [] (slice_split is_comma ts) ≡ slice_split is_comma ts
onto_nothing [] = refl
onto_nothing (t ∷ ts) = from (is_comma t) (slice_split is_comma ts)
  where
    from : (v : Bool) (parts : List (List Token)) → onto [] (cond v ([] ∷ parts) (onto_first t parts)) ≡ cond v ([] ∷ parts) (onto_first t parts)
    from true parts = refl
    from false [] = refl
    from false (part ∷ parts) = refl

one_kind : (kind : Kind) (s : Slice) (o : Operand) → one_token kind s ≡ Some o → IsOperand (of_kind kind s ∷ []) o
one_kind Word s o is = subst (IsOperand (of_kind Word s ∷ [])) (some_is _ _ is) (word s)
  where
    some_is : (x y : Operand) → Some x ≡ Some y → x ≡ y
    some_is x y e = cc
one_kind Number s o is = from (number s.text) refl is
  where
    from : (v : Option ℤ) → number s.text ≡ v → option_map (λ n. operands.Number s n) v ≡ Some o → IsOperand (of_kind Number s ∷ []) o
    from None is_none e = absurd cc
    from (Some n) is_some e = let same : operands.Number s n ≡ o = cc in subst (IsOperand (of_kind Number s ∷ [])) same (value s n is_some)
one_kind Text s o is = subst (IsOperand (of_kind Text s ∷ [])) (some_is _ _ is) (text s)
  where
    some_is : (x y : Operand) → Some x ≡ Some y → x ≡ y
    some_is x y e = cc
one_kind Comma s o is = absurd cc
one_kind Open s o is = absurd cc
one_kind Close s o is = absurd cc
one_kind Colon s o is = absurd cc

three_tokens : (left base right : Kind) (ls bs rs : Slice) (r : ℕ) → base_in left base right bs.text ≡ Some r
    → IsOperand (of_kind left ls ∷ of_kind base bs ∷ of_kind right rs ∷ []) (memory_from ls rs (pos 0) r)
three_tokens Open Word Close ls bs rs r is = at_base ls bs rs r is
three_tokens left base right ls bs rs r is = absurd cc

four_tokens : (offset left base right : Kind) (os ls bs rs : Slice) (n : ℤ) (r : ℕ) → offset_in offset os.text ≡ Some n → base_in left base right bs.text ≡ Some r
    → IsOperand (of_kind offset os ∷ of_kind left ls ∷ of_kind base bs ∷ of_kind right rs ∷ []) (memory_from os rs n r)
four_tokens Number Open Word Close os ls bs rs n r of_offset of_base = at_offset os ls bs rs n r of_offset of_base
four_tokens offset left base right os ls bs rs n r of_offset of_base = absurd cc

base_read : (left base right : Token) (o : Operand) (v : Option ℕ) → base_in left.kind base.kind right.kind base.slice.text ≡ v
    → option_map (λ r. memory_from left.slice right.slice (pos 0) r) v ≡ Some o → IsOperand (left ∷ base ∷ right ∷ []) o
base_read left base right o None is_none e = absurd cc
base_read left base right o (Some r) is_some e =
    let same : memory_from left.slice right.slice (pos 0) r ≡ o = cc in
    subst (IsOperand (left ∷ base ∷ right ∷ [])) same (three_tokens left.kind base.kind right.kind left.slice base.slice right.slice r is_some)

offset_read : (offset left base right : Token) (o : Operand) (w : Option ℤ) (v : Option ℕ) → offset_in offset.kind offset.slice.text ≡ w → base_in left.kind base.kind right.kind base.slice.text ≡ v
    → option_and_then (λ n. option_map (λ r. memory_from offset.slice right.slice n r) v) w ≡ Some o → IsOperand (offset ∷ left ∷ base ∷ right ∷ []) o
offset_read offset left base right o None v is_none of_base e = absurd cc
offset_read offset left base right o (Some n) None of_offset is_none e = absurd cc
offset_read offset left base right o (Some n) (Some r) of_offset of_base e =
    let same : memory_from offset.slice right.slice n r ≡ o = cc in
    subst (IsOperand (offset ∷ left ∷ base ∷ right ∷ [])) same
    (four_tokens offset.kind left.kind base.kind right.kind offset.slice left.slice base.slice right.slice n r of_offset of_base)

operand_is : (ts : List Token) (o : Operand) → operand ts ≡ Some o → IsOperand ts o
operand_is [] o is = absurd cc
operand_is (t ∷ []) o is = one_kind t.kind t.slice o is
operand_is (t ∷ u ∷ []) o is = absurd cc
operand_is (left ∷ base ∷ right ∷ []) o is = base_read left base right o (base_in left.kind base.kind right.kind base.slice.text) refl is
operand_is (offset ∷ left ∷ base ∷ right ∷ []) o is =
    offset_read offset left base right o (offset_in offset.kind offset.slice.text) (base_in left.kind base.kind right.kind base.slice.text) refl refl is
operand_is (t ∷ u ∷ v ∷ w ∷ x ∷ ts) o is = absurd cc

-- the first part is an operand, and so are the others
record IsFirst (part : List Token) (parts : List (List Token)) (os : List Operand) : Type 0 where
  front : Operand
  rest : List Operand
  is_front : operand part ≡ Some front
  is_rest : each operand parts ≡ Some rest
  joined : front ∷ rest ≡ os

first_is : (part : List Token) (parts : List (List Token)) (os : List Operand) → each operand (part ∷ parts) ≡ Some os → IsFirst part parts os
first_is part parts os is = from (operand part) (each operand parts) refl refl is
  where
    from : (v : Option Operand) (w : Option (List Operand)) → operand part ≡ v → each operand parts ≡ w → option_and_then (λ y. with_front y w) v ≡ Some os → IsFirst part parts os
    from None w a b e = absurd cc
    from (Some o) None a b e = absurd cc
    from (Some o) (Some rest) a b e = record { front = o; rest = rest; is_front = a; is_rest = b; joined = cc }

comma_is : (t : Token) → is_comma t ≡ true → of_kind Comma t.slice ≡ t
comma_is t held = ap (λ k. of_kind k t.slice) (from t.kind held)
  where
    from : (k : Kind) → is_comma (of_kind k t.slice) ≡ true → Comma ≡ k
    from Comma e = refl
    from k e = absurd cc

part_is : (part : List Token) (os : List Operand) → each operand (part ∷ []) ≡ Some os → AreSeparated part os
part_is part os is =
    let f = first_is part [] os is in
    let alone : [] ≡ f.rest = let e : Some [] ≡ Some f.rest = f.is_rest in cc in
    subst (AreSeparated part) (ap (λ rest. f.front ∷ rest) alone ∙ f.joined) (last part f.front (operand_is part f.front f.is_front))

parts_are : (front ts : List Token) (os : List Operand) → each operand (onto front (slice_split is_comma ts)) ≡ Some os → AreSeparated (front ++ ts) os
parts_are front [] os is = part_is (front ++ []) os is
parts_are front (t ∷ ts) os is =
    elim (cases_Bool (is_comma t)) [
      | inl held ↦
          let here : each operand ((front ++ []) ∷ slice_split is_comma ts) ≡ Some os = rw held at is in
          let f = first_is (front ++ []) (slice_split is_comma ts) os here in
          let others = parts_are [] ts f.rest (ap (each operand) (onto_nothing ts) ∙ f.is_rest) in
          let made = more (front ++ []) t.slice ts f.front f.rest (operand_is (front ++ []) f.front f.is_front) others in
          let whole : (front ++ []) ++ of_kind Comma t.slice ∷ ts ≡ front ++ t ∷ ts = ap (λ us. us ++ of_kind Comma t.slice ∷ ts) (append-nil front) ∙ ap (λ u. front ++ u ∷ ts) (comma_is t held) in
          subst (λ us. AreSeparated us os) whole (subst (AreSeparated ((front ++ []) ++ of_kind Comma t.slice ∷ ts)) f.joined made)
      | inr differs ↦
          let here : each operand (onto front (onto_first t (slice_split is_comma ts))) ≡ Some os = rw differs at is in
          let there : each operand (onto (front ++ t ∷ []) (slice_split is_comma ts)) ≡ Some os = ap (each operand) (sym (onto_again front t (slice_split is_comma ts))) ∙ here in
          subst (λ us. AreSeparated us os) (append_assoc front (t ∷ []) ts) (parts_are (front ++ t ∷ []) ts os there)
    ]

operands_are : (ts : List Token) (os : List Operand) → operands_of ts ≡ Some os → AreOperands ts os
operands_are [] os is = let e : [] ≡ os = cc in subst (AreOperands []) e none
operands_are (t ∷ ts) os is = some (t ∷ ts) os (parts_are [] (t ∷ ts) os (ap (each operand) (onto_nothing (t ∷ ts)) ∙ is))

abbrev IsSome_statement : List Token → Option SourceStatement → Type 0
IsSome_statement ts None = ⊥
IsSome_statement ts (Some s) = IsStatement ts s

fitted_is : (name : Slice) (form : Form) (ts : List Token) (s : SourceStatement) → form_of name.text ≡ Some form → fitted name form ts ≡ Some s → IsStatement (of_kind Word name ∷ ts) s
fitted_is name form ts s is_form is = from (operands_of ts) refl is
  where
    at : (os : List Operand) (m : Option Meaning) → AreOperands ts os → meaning_of form os ≡ m → option_map (λ m. record { name = name; operands = os; meaning = m }) m ≡ Some s → IsStatement (of_kind Word name ∷ ts) s
    at os None are is_none e = absurd cc
    at os (Some m) are fits e =
        let made : SourceStatement = record { name = name; operands = os; meaning = m } in
        let same : made ≡ s = cc in
        subst (IsStatement (of_kind Word name ∷ ts)) same (statement name form ts os m is_form are fits)

    from : (v : Option (List Operand)) → operands_of ts ≡ v → option_and_then (λ os. option_map (λ m. record { name = name; operands = os; meaning = m }) (meaning_of form os)) v ≡ Some s → IsStatement (of_kind Word name ∷ ts) s
    from None is_none e = absurd cc
    from (Some os) are e = at os (meaning_of form os) (operands_are ts os are) refl e

formed_is : (name : Slice) (ts : List Token) (v : Option Form) (o : Option SourceStatement) → form_of name.text ≡ v → formed name v ts ≡ Ok o → IsSome_statement (of_kind Word name ∷ ts) o
formed_is name ts None o is_form is = absurd cc
formed_is name ts (Some form) o is_form is = from (fitted name form ts) refl is
  where
    from : (v : Option SourceStatement) → fitted name form ts ≡ v → fits_or_fails v ≡ Ok o → IsSome_statement (of_kind Word name ∷ ts) o
    from None is_none e = absurd cc
    from (Some s) fits e = let same : Some s ≡ o = cc in subst (IsSome_statement (of_kind Word name ∷ ts)) same (fitted_is name form ts s is_form fits)

named_is : (kind : Kind) (name : Slice) (ts : List Token) (o : Option SourceStatement) → named kind name ts ≡ Ok o → IsSome_statement (of_kind kind name ∷ ts) o
named_is Word name ts o is = formed_is name ts (form_of name.text) o refl is
named_is kind name ts o is = absurd cc

-- a line with no label that begins with this token
bare_is : (t : Token) (ts : List Token) (line : SourceLine) (r : Result (Option SourceStatement) TextKind) → named t.kind t.slice ts ≡ r → with_labels [] r ≡ Ok line → IsLine (t ∷ ts) line
bare_is t ts line (Err kind) is e = absurd cc
bare_is t ts line (Ok None) is e = absurd (named_is t.kind t.slice ts None is)
bare_is t ts line (Ok (Some s)) is e =
    let made : SourceLine = record { labels = []; statement = Some s } in
    let same : made ≡ line = cc in
    subst (IsLine (t ∷ ts)) same (bare (t ∷ ts) s (named_is t.kind t.slice ts (Some s) is))

abbrev reading : List Token → Result SourceLine TextKind
reading ts = with_labels (labels_of ts).0 (statement_of (labels_of ts).1)

label_kinds : (first second : Kind) (name colon : Slice) (ts : List Token) (line : SourceLine) → is_label first second ≡ true
    → IsLine (of_kind Word name ∷ of_kind Colon colon ∷ ts) line → IsLine (of_kind first name ∷ of_kind second colon ∷ ts) line
label_kinds Word Colon name colon ts line held is = is
label_kinds first second name colon ts line held is = absurd cc

line_is : (ts : List Token) (line : SourceLine) → reading ts ≡ Ok line → IsLine ts line
line_is [] line is =
    let made : SourceLine = record { labels = []; statement = None } in
    let same : made ≡ line = cc in
    subst (IsLine []) same blank
line_is (t ∷ []) line is = bare_is t [] line (named t.kind t.slice []) refl is
line_is (t ∷ u ∷ ts) line is =
    elim (cases_Bool (is_label t.kind u.kind)) [
      | inl held ↦
          let here : with_labels (t.slice ∷ (labels_of ts).0) (statement_of (labels_of ts).1) ≡ Ok line = rw held at is in
          labelled_is t u ts line held (statement_of (labels_of ts).1) (λ o e. line_is ts (record { labels = (labels_of ts).0; statement = o }) (ap (with_labels (labels_of ts).0) e)) refl here
      | inr differs ↦
          let here : with_labels [] (named t.kind t.slice (u ∷ ts)) ≡ Ok line = rw differs at is in
          bare_is t (u ∷ ts) line (named t.kind t.slice (u ∷ ts)) refl here
    ]
  where
    labelled_is : (t u : Token) (ts : List Token) (line : SourceLine) → is_label t.kind u.kind ≡ true → (r : Result (Option SourceStatement) TextKind)
        → ((o : Option SourceStatement) → statement_of (labels_of ts).1 ≡ Ok o → IsLine ts (record { labels = (labels_of ts).0; statement = o }))
        → statement_of (labels_of ts).1 ≡ r → with_labels (t.slice ∷ (labels_of ts).0) r ≡ Ok line → IsLine (t ∷ u ∷ ts) line
    labelled_is t u ts line held (Err kind) behind is e = absurd cc
    labelled_is t u ts line held (Ok o) behind is e =
        let made : SourceLine = record { labels = t.slice ∷ (labels_of ts).0; statement = o } in
        let same : made ≡ line = cc in
        subst (IsLine (t ∷ u ∷ ts)) same
        (label_kinds t.kind u.kind t.slice u.slice ts made held (labelled t.slice u.slice ts (labels_of ts).0 o (behind o is)))

pub line_says : (place : ℕ) (bytes : List ℕ) (line : SourceLine) → line_at place bytes ≡ Ok line → SaysLine place bytes line
line_says place bytes line is = sized (ltb 512 (length bytes)) (list_all is_ascii bytes) refl refl is
  where
    zero_more : place + 0 ≡ place
    zero_more = omega arith

    below : (n : ℕ) → ltb 512 n ≡ false → n ≤ 512
    below n high = grind (arith, nat_tests)

    good : (ts : List Token) (v : Bool) → tokens place 0 bytes ≡ Some ts → length bytes ≤ 512 → list_all is_ascii bytes ≡ true → cond v (reading ts) (Err BadNumber) ≡ Ok line → SaysLine place bytes line
    good ts false found short ascii e = absurd cc
    good ts true found short ascii e = record {
      short = short;
      ascii = ascii;
      tokens = ts;
      are = subst (λ p. AreTokens p bytes ts) zero_more (tokens_are 0 place bytes ts found);
      is = line_is ts line e;
    }

    cut : (v : Option (List Token)) → tokens place 0 bytes ≡ v → length bytes ≤ 512 → list_all is_ascii bytes ≡ true → line_of v ≡ Ok line → SaysLine place bytes line
    cut None found short ascii e = absurd cc
    cut (Some ts) found short ascii e = good ts (all_good ts) found short ascii e

    sized : (long ascii : Bool) → ltb 512 (length bytes) ≡ long → list_all is_ascii bytes ≡ ascii → cond long (Err LineTooLong) (cond (not ascii) (Err NotAscii) (line_of (tokens place 0 bytes))) ≡ Ok line → SaysLine place bytes line
    sized true ascii of_long of_ascii e = absurd cc
    sized false false of_long of_ascii e = absurd cc
    sized false true of_long of_ascii e = cut (tokens place 0 bytes) refl (below (length bytes) of_long) of_ascii e
