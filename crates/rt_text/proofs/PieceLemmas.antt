-- The pieces of a line lie in its text, in order.
use Rattle.rt_text.proofs.Common.{◌≡◌, ℕ, ℤ, pos, zero, suc, true, ◌+◌, ◌-◌, ◌<◌, ◌≤◌, List, [], ◌∷◌, ◌++◌, length, drop, take, refl, arith, sym, ◌∙◌, ap, subst, inl, inr, Option, Some, None, append_assoc, length-append, position_or_len, slice_split, option_map, option_and_then, AreTokens, end, blank, IsText, number, is_comma, operand, each, operands_of, Slice, with_front, is_word, Operand, Kind, Word, Number, Text, Comma, Open, Close, Colon, Token}
use Rattle.std.proofs.lemmas.List.{take-append-le, take-append-drop, drop-drop}
use Rattle.std.proofs.Math.Seq.{take-append-add, take-append_seam, drop-append_seam}
use Rattle.rt_token.specs.Grammar.{comment, EndsRun, IsLongest}
use Rattle.rt_token.specs.Grammar as grammar
use Rattle.rt_text.specs.Operands.{end_of, span_at, span_of, one_token, base_in, offset_in, memory}
use Rattle.rt_text.specs.Pieces.{bytes_in, IsWrittenIn, AreInOrder}
use Rattle.rt_text.specs.declared.operands.Memory.{Memory}
use Rattle.rt_text.specs.declared.operands.Operand.TheVariants as operands
use Rattle.rt_token.specs.declared.pieces.Span.{Span}
use Rattle.rt_token.proofs.PartLemmas.{first_part, last_part}

-- the bytes of a text from place on, up to limit at most, are these tokens
pub record Rest (text : List ℕ) (limit place : ℕ) (ts : List Token) : Type 0 where
  pub bytes : List ℕ
  pub more : List ℕ
  pub here : drop place text ≡ bytes ++ more
  pub are : AreTokens place bytes ts
  pub within : place + length bytes ≤ limit

-- the first of them, and those behind it
pub record First (text : List ℕ) (limit place : ℕ) (t : Token) (ts : List Token) : Type 0 where
  pub low : place ≤ t.slice.start
  pub filled : t.slice.start < end_of t.slice
  pub written : t.slice.text ≡ bytes_in text (span_at t.slice)
  pub rest : Rest text limit (end_of t.slice) ts

abbrev FirstOf : List ℕ → ℕ → ℕ → List Token → Type 0
FirstOf text limit place [] = Unit {0}
FirstOf text limit place (t ∷ ts) = First text limit place t ts

first_earlier : (text : List ℕ) (limit place : ℕ) (ts : List Token) → FirstOf text limit (place + 1) ts → FirstOf text limit place ts
first_earlier text limit place [] is = tt
first_earlier text limit place (t ∷ ts) is = record { low = omega (arith, is.low); filled = is.filled; written = is.written; rest = is.rest }

-- no token is empty
filled_run : (text : List ℕ) → grammar.IsDigitRun text → 0 < length text
filled_run [] run = absurd run
filled_run (b ∷ bs) run = omega arith

filled_word : (text : List ℕ) → is_word text ≡ true → 0 < length text
filled_word [] word = cc
filled_word (b ∷ bs) word = omega arith

filled_number : (text : List ℕ) → grammar.IsNumberText text → 0 < length text
filled_number text (inl run) = filled_run text run
filled_number text (inr (bs, e, run)) = rw e (omega arith)

filled_text : (kind : Kind) (text : List ℕ) → IsText kind text → 0 < length text
filled_text Word text is = filled_word text is
filled_text Number text is = filled_number text is
filled_text Text text (bs, e, inner) = rw e (omega arith)
filled_text Comma text e = rw e (omega arith)
filled_text Open text e = rw e (omega arith)
filled_text Close text e = rw e (omega arith)
filled_text Colon text e = rw e (omega arith)

first_of : (text more : List ℕ) (limit place : ℕ) (bs : List ℕ) (ts : List Token) → drop place text ≡ bs ++ more → AreTokens place bs ts → place + length bs ≤ limit → FirstOf text limit place ts
first_of text more limit _ _ _ here (end place) within = tt
first_of text more limit _ _ _ here (comment place bs) within = tt
first_of text more limit _ _ _ here (blank place b bs ts gap rest) within =
    let next : drop (place + 1) text ≡ bs ++ more = sym (drop-drop 1 place text) ∙ ap (drop 1) here in
    first_earlier text limit place ts (first_of text more limit (place + 1) bs ts next rest (omega arith))
first_of text more limit _ _ _ here (grammar.token place kind front rest ts is longest after) within =
    let some : 0 < length front = filled_text kind front is in
    let size : length (front ++ rest) ≡ length front + length rest = length-append front rest in
    let cut : drop place text ≡ front ++ (rest ++ more) = here ∙ append_assoc front rest more in
    let e : (place + length front) - place ≡ length front = omega arith in
    record {
      low = omega arith;
      filled = omega arith;
      written = rw (e, cut, take-append_seam front (rest ++ more)) refl;
      rest = record {
        bytes = rest;
        more = more;
        here = sym (drop-drop (length front) place text) ∙ ap (drop (length front)) cut ∙ drop-append_seam front (rest ++ more);
        are = after;
        within = omega arith;
      };
    }

pub first : (text : List ℕ) (limit place : ℕ) (t : Token) (ts : List Token) → Rest text limit place (t ∷ ts) → First text limit place t ts
first text limit place t ts r = first_of text r.more limit place r.bytes (t ∷ ts) r.here r.are r.within

-- where the last of some tokens ends; place where there is none
end_after : ℕ → List Token → ℕ
end_after place [] = place
end_after place (t ∷ ts) = end_after (end_of t.slice) ts

-- some tokens at the front of a line are those of the bytes up to their end
record Front (place : ℕ) (bs : List ℕ) (ts : List Token) : Type 0 where
  size : ℕ
  within : size ≤ length bs
  are : AreTokens place (take size bs) ts
  is_end : place + size ≡ end_after place ts

run_cut : (n : ℕ) (bs : List ℕ) → EndsRun bs → EndsRun (take n bs)
run_cut zero bs ends = tt
run_cut (suc n) [] ends = tt
run_cut (suc n) (b ∷ bs) ends = ends

longest_cut : (kind : Kind) (n : ℕ) (bs : List ℕ) → IsLongest kind bs → IsLongest kind (take n bs)
longest_cut Word n bs longest = run_cut n bs longest
longest_cut Number n bs longest = run_cut n bs longest
longest_cut Text n bs longest = tt
longest_cut Comma n bs longest = tt
longest_cut Open n bs longest = tt
longest_cut Close n bs longest = tt
longest_cut Colon n bs longest = tt

no_front : (place : ℕ) (bs : List ℕ) → Front place bs []
unfolding end_after
no_front place bs = record { size = 0; within = omega arith; are = end place; is_end = omega arith }

head_is : {X : Type 0} (x y : X) (xs ys : List X) → x ∷ xs ≡ y ∷ ys → x ≡ y
head_is x y xs ys e = cc

tail_is : {X : Type 0} (x y : X) (xs ys : List X) → x ∷ xs ≡ y ∷ ys → xs ≡ ys
tail_is x y xs ys e = cc

front_of : (place : ℕ) (bs : List ℕ) (all xs ys : List Token) → all ≡ xs ++ ys → AreTokens place bs all → Front place bs xs
unfolding end_after
front_of place bs all [] ys e are = no_front place bs
front_of _ _ _ (x ∷ xs) ys e (end place) = cc
front_of _ _ _ (x ∷ xs) ys e (comment place bs) = cc
front_of _ _ _ (x ∷ xs) ys e (blank place b bs ts gap rest) =
    let f : Front (place + 1) bs (x ∷ xs) = front_of (place + 1) bs ts (x ∷ xs) ys e rest in
    let is_end : place + 1 + f.size ≡ end_after (end_of x.slice) xs = f.is_end in
    let s : place + suc f.size ≡ place + 1 + f.size = omega arith in
    record { size = suc f.size; within = omega (arith, f.within); are = blank place b (take f.size bs) (x ∷ xs) gap f.are; is_end = s ∙ is_end }
front_of _ _ _ (x ∷ xs) ys e (grammar.token place kind text rest ts is longest after) =
    let t : Token = record { kind = kind; slice = record { start = place; text = text } } in
    let f : Front (place + length text) rest xs = front_of (place + length text) rest ts xs ys (tail_is t x ts (xs ++ ys) e) after in
    let size : length (text ++ rest) ≡ length text + length rest = length-append text rest in
    let is_end : place + length text + f.size ≡ end_after (place + length text) xs = f.is_end in
    let s : place + (length text + f.size) ≡ place + length text + f.size = omega arith in
    subst (λ u. Front place (text ++ rest) (u ∷ xs)) (head_is t x ts (xs ++ ys) e) (record {
      size = length text + f.size;
      within = omega (arith, f.within);
      are = rw (take-append-add text rest f.size) (grammar.token place kind text (take f.size rest) xs is (longest_cut kind f.size rest longest) f.are);
      is_end = s ∙ is_end;
    })

-- the bytes from the first of some tokens to the end of their last are they and nothing else
abbrev Whole : List ℕ → Token → List Token → Type 0
Whole text x xs = AreTokens x.slice.start (bytes_in text (record { start = x.slice.start; end = end_after (end_of x.slice) xs })) (x ∷ xs)

whole_of : (text more : List ℕ) (place : ℕ) (bs : List ℕ) (all : List Token) (x : Token) (xs ys : List Token) → all ≡ x ∷ (xs ++ ys) → drop place text ≡ bs ++ more → AreTokens place bs all → Whole text x xs
unfolding end_after
whole_of text more _ _ _ x xs ys e here (end place) = cc
whole_of text more _ _ _ x xs ys e here (comment place bs) = cc
whole_of text more _ _ _ x xs ys e here (blank place b bs ts gap rest) =
    let next : drop (place + 1) text ≡ bs ++ more = sym (drop-drop 1 place text) ∙ ap (drop 1) here in
    whole_of text more (place + 1) bs ts x xs ys e next rest
whole_of text more _ _ _ x xs ys e here (grammar.token place kind front rest ts is longest after) =
    let t : Token = record { kind = kind; slice = record { start = place; text = front } } in
    let f : Front place (front ++ rest) (t ∷ xs) = front_of place (front ++ rest) (t ∷ ts) (t ∷ xs) ys (ap (λ l. t ∷ l) (tail_is t x ts (xs ++ ys) e)) (grammar.token place kind front rest ts is longest after) in
    let is_end : place + f.size ≡ end_after (place + length front) xs = f.is_end in
    let size : end_after (place + length front) xs - place ≡ f.size = omega arith in
    let same : bytes_in text (record { start = place; end = end_after (place + length front) xs }) ≡ take f.size (front ++ rest) = rw (size, here) (take-append-le f.size (front ++ rest) more f.within) in
    subst (λ u. Whole text u xs) (head_is t x ts (xs ++ ys) e) (subst (λ l. AreTokens place l (t ∷ xs)) (sym same) f.are)

whole : (text : List ℕ) (limit place : ℕ) (x : Token) (xs ys : List Token) → Rest text limit place (x ∷ (xs ++ ys)) → Whole text x xs
whole text limit place x xs ys r = whole_of text r.more place r.bytes (x ∷ (xs ++ ys)) x xs ys refl r.here r.are

-- an operand that is written from place on, and the tokens behind it
record Written (text : List ℕ) (limit place : ℕ) (o : Operand) (ts : List Token) : Type 0 where
  low : place ≤ (span_of o).start
  filled : (span_of o).start < (span_of o).end
  written : IsWrittenIn text o
  rest : Rest text limit (span_of o).end ts

some_is : {A : Type 0} (x y : A) → Some x ≡ Some y → x ≡ y
some_is x y same = cc

numbered : (text : List ℕ) (limit place : ℕ) (t : Token) (ts : List Token) (o : Operand) (value : Option ℤ) → First text limit place t ts → option_map (λ n. operands.Number t.slice n) value ≡ Some o → Written text limit place o ts
numbered text limit place t ts o None f found = cc
numbered text limit place t ts o (Some n) f found =
    subst (λ a. Written text limit place a ts) (some_is (operands.Number t.slice n) o found) (record { low = f.low; filled = f.filled; written = f.written; rest = f.rest })

one_written : (text : List ℕ) (limit place : ℕ) (t : Token) (ts : List Token) (o : Operand) (kind : Kind) → First text limit place t ts → one_token kind t.slice ≡ Some o → Written text limit place o ts
one_written text limit place t ts o Word f found =
    subst (λ a. Written text limit place a ts) (some_is (operands.Word t.slice) o found) (record { low = f.low; filled = f.filled; written = f.written; rest = f.rest })
one_written text limit place t ts o Number f found = numbered text limit place t ts o (number t.slice.text) f found
one_written text limit place t ts o Text f found =
    subst (λ a. Written text limit place a ts) (some_is (operands.Text t.slice) o found) (record { low = f.low; filled = f.filled; written = f.written; rest = f.rest })
one_written text limit place t ts o Comma f found = cc
one_written text limit place t ts o Open f found = cc
one_written text limit place t ts o Close f found = cc
one_written text limit place t ts o Colon f found = cc

-- a memory operand from the start of first to the end of right
IsMemory : Slice → Token → Operand → Type 0
IsMemory first right o = (m : Memory) × (operands.Memory (record { start = first.start; end = end_of right.slice }) m ≡ o)

is_memory : (first : Slice) (offset : ℤ) (right : Token) (base : Option ℕ) (o : Operand) → option_map (λ r. operands.Memory (record { start = first.start; end = end_of right.slice }) (record { offset = offset; base = r })) base ≡ Some o → IsMemory first right o
unfolding IsMemory
is_memory first offset right None o found = cc
is_memory first offset right (Some r) o found = (record { offset = offset; base = r }, some_is _ o found)

is_offset : (text : List ℕ) (left base right : Token) (offset : Slice) (value : Option ℤ) (o : Operand) → option_and_then (λ n. memory offset n left base right) value ≡ Some o → IsMemory offset right o
is_offset text left base right offset None o found = cc
is_offset text left base right offset (Some n) o found = is_memory offset n right (base_in left.kind base.kind right.kind base.slice.text) o found

-- the operand that the tokens of one part are
memory_written : (text : List ℕ) (limit place : ℕ) (x right : Token) (xs ys : List Token) (o : Operand) → IsMemory x.slice right o → end_after (end_of x.slice) xs ≡ end_of right.slice → operand (x ∷ xs) ≡ Some o → place ≤ x.slice.start → x.slice.start < end_of right.slice → Whole text x xs → Rest text limit (end_of right.slice) ys → Written text limit place o ys
unfolding IsMemory
memory_written text limit place x right xs ys o (m, is) is_end found low filled whole rest =
    let span : Span = record { start = x.slice.start; end = end_of right.slice } in
    let are : AreTokens x.slice.start (bytes_in text span) (x ∷ xs) = rw is_end at whole in
    subst (λ a. Written text limit place a ys) is (record { low = low; filled = filled; written = (x ∷ xs, are, found ∙ ap Some (sym is)); rest = rest })

operand_written : (text : List ℕ) (limit place : ℕ) (part ys : List Token) (o : Operand) → Rest text limit place (part ++ ys) → operand part ≡ Some o → Written text limit place o ys
unfolding end_after
operand_written text limit place [] ys o r found = cc
operand_written text limit place (t ∷ []) ys o r found = one_written text limit place t ys o t.kind (first text limit place t ys r) found
operand_written text limit place (t ∷ u ∷ []) ys o r found = cc
operand_written text limit place (left ∷ base ∷ right ∷ []) ys o r found =
    let f : First text limit place left (base ∷ right ∷ ys) = first text limit place left (base ∷ right ∷ ys) r in
    let g : First text limit (end_of left.slice) base (right ∷ ys) = first text limit (end_of left.slice) base (right ∷ ys) f.rest in
    let h : First text limit (end_of base.slice) right ys = first text limit (end_of base.slice) right ys g.rest in
    let low : left.slice.start < end_of right.slice = omega (arith, f.filled, g.low, g.filled, h.low, h.filled) in
    memory_written text limit place left right (base ∷ right ∷ []) ys o (is_memory left.slice (pos 0) right (base_in left.kind base.kind right.kind base.slice.text) o found) refl found f.low low (whole text limit place left (base ∷ right ∷ []) ys r) h.rest
operand_written text limit place (offset ∷ left ∷ base ∷ right ∷ []) ys o r found =
    let e : First text limit place offset (left ∷ base ∷ right ∷ ys) = first text limit place offset (left ∷ base ∷ right ∷ ys) r in
    let f : First text limit (end_of offset.slice) left (base ∷ right ∷ ys) = first text limit (end_of offset.slice) left (base ∷ right ∷ ys) e.rest in
    let g : First text limit (end_of left.slice) base (right ∷ ys) = first text limit (end_of left.slice) base (right ∷ ys) f.rest in
    let h : First text limit (end_of base.slice) right ys = first text limit (end_of base.slice) right ys g.rest in
    let low : offset.slice.start < end_of right.slice = omega (arith, e.filled, f.low, f.filled, g.low, g.filled, h.low, h.filled) in
    memory_written text limit place offset right (left ∷ base ∷ right ∷ []) ys o (is_offset text left base right offset.slice (offset_in offset.kind offset.slice.text) o found) refl found e.low low (whole text limit place offset (left ∷ base ∷ right ∷ []) ys r) h.rest
operand_written text limit place (a ∷ b ∷ c ∷ d ∷ e ∷ more) ys o r found = cc

-- ---- the operands of a statement

pub earlier : (text : List ℕ) (p q : ℕ) (os : List Operand) → p ≤ q → AreInOrder text q os → AreInOrder text p os
earlier text p q [] low is = omega (arith, is)
earlier text p q (o ∷ os) low is = (omega (arith, is.0), is.1, is.2, is.3)

pub rest_low : (text : List ℕ) (limit place : ℕ) (ts : List Token) → Rest text limit place ts → place ≤ limit
rest_low text limit place ts r = omega (arith, r.within)

each_front : (part : List Token) (parts : List (List Token)) (os : List Operand) (one : Option Operand) (more : Option (List Operand)) → operand part ≡ one → each operand parts ≡ more → option_and_then (λ y. with_front y more) one ≡ Some os → (o : Operand) × (rest : List Operand) × (operand part ≡ Some o) × (each operand parts ≡ Some rest) × (o ∷ rest ≡ os)
each_front part parts os None more is are found = cc
each_front part parts os (Some o) None is are found = cc
each_front part parts os (Some o) (Some rest) is are found = (o, rest, is, are, some_is (o ∷ rest) os found)

-- an operand in its place, and what follows
after_operand : (text : List ℕ) (limit place : ℕ) (o : Operand) (ts : List Token) (os : List Operand) → Written text limit place o ts → AreInOrder text (span_of o).end os → AreInOrder text place (o ∷ os)
after_operand text limit place o ts os w rest = (w.low, w.filled, w.written, rest)

Operands : List ℕ → ℕ → ℕ → List Token → List Operand → Type 0
Operands text limit place ts after =
    (os : List Operand) → Rest text limit place ts → each operand (slice_split is_comma ts) ≡ Some os → AreInOrder text limit after → AreInOrder text place (os ++ after)

operands_cut : (text : List ℕ) (limit place : ℕ) (ts left : List Token) (after : List Operand) → drop (position_or_len is_comma ts) ts ≡ left → ((p : ℕ) (ys : List Token) → length ys < length ts → Operands text limit p ys after) → Operands text limit place ts after
unfolding Operands
operands_cut text limit place ts [] after is_left below os r found behind =
    let part : List Token = take (position_or_len is_comma ts) ts in
    let parts : slice_split is_comma ts ≡ part ∷ [] = last_part is_comma ts is_left in
    let one = each_front part [] os (operand part) (Some []) refl refl (rw parts at found) in
    let joined : part ++ [] ≡ ts = rw is_left at (take-append-drop (position_or_len is_comma ts) ts) in
    let w : Written text limit place one.0 [] = operand_written text limit place part [] one.0 (subst (Rest text limit place) (sym joined) r) one.2 in
    let nothing : [] ≡ one.1 = some_is [] one.1 one.3 in
    let rest : AreInOrder text (span_of one.0).end (one.1 ++ after) = rw (sym nothing) (earlier text (span_of one.0).end limit after (rest_low text limit (span_of one.0).end [] w.rest) behind) in
    subst (λ l. AreInOrder text place (l ++ after)) one.4 (after_operand text limit place one.0 [] (one.1 ++ after) w rest)
operands_cut text limit place ts (y ∷ ys) after is_left below os r found behind =
    let part : List Token = take (position_or_len is_comma ts) ts in
    let parts : slice_split is_comma ts ≡ part ∷ slice_split is_comma ys = first_part is_comma ts y ys is_left in
    let one = each_front part (slice_split is_comma ys) os (operand part) (each operand (slice_split is_comma ys)) refl refl (rw parts at found) in
    let joined : part ++ (y ∷ ys) ≡ ts = rw is_left at (take-append-drop (position_or_len is_comma ts) ts) in
    let w : Written text limit place one.0 (y ∷ ys) = operand_written text limit place part (y ∷ ys) one.0 (subst (Rest text limit place) (sym joined) r) one.2 in
    let f : First text limit (span_of one.0).end y ys = first text limit (span_of one.0).end y ys w.rest in
    let size : length part + length (y ∷ ys) ≡ length ts = sym (length-append part (y ∷ ys)) ∙ ap length joined in
    let less : length ys < length ts = omega (arith, size) in
    let behind_y : AreInOrder text (end_of y.slice) (one.1 ++ after) = below (end_of y.slice) ys less one.1 f.rest one.3 behind in
    let rest : AreInOrder text (span_of one.0).end (one.1 ++ after) = earlier text (span_of one.0).end (end_of y.slice) (one.1 ++ after) (omega (arith, f.low, f.filled)) behind_y in
    subst (λ l. AreInOrder text place (l ++ after)) one.4 (after_operand text limit place one.0 (y ∷ ys) (one.1 ++ after) w rest)

operands_up_to : (n : ℕ) (text : List ℕ) (limit place : ℕ) (ts : List Token) (after : List Operand) → length ts < n → Operands text limit place ts after
operands_up_to zero text limit place ts after small = absurd (omega (arith, small))
operands_up_to (suc n) text limit place ts after small =
    operands_cut text limit place ts (drop (position_or_len is_comma ts) ts) after refl (λ p ys less. operands_up_to n text limit p ys after (omega (arith, less, small)))

pub operands_in_order : (text : List ℕ) (limit place : ℕ) (ts : List Token) (os after : List Operand) → Rest text limit place ts → operands_of ts ≡ Some os → AreInOrder text limit after → AreInOrder text place (os ++ after)
unfolding Operands
operands_in_order text limit place [] os after r found behind =
    rw (sym (some_is [] os found)) (earlier text place limit after (rest_low text limit place [] r) behind)
operands_in_order text limit place (t ∷ ts) os after r found behind =
    operands_up_to (suc (length (t ∷ ts))) text limit place (t ∷ ts) after (omega arith) os r found behind
