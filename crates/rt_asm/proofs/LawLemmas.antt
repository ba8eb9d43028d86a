-- The laws of assembly.
use Rattle.rt_asm.proofs.Common.{◌≡◌, ℕ, ◌+◌, ◌≤◌, Bool, true, false, List, [], ◌∷◌, ◌++◌, length, Option, Some, Result, Ok, Err, refl, sym, ap, subst, ◌∙◌, append_assoc, arith, length-append, ◌≢◌, is_some, if◌then◌else◌, All, ok_or, bytes_eq, append-nil, bytes_eq-Decides, little_bytes, Ins, Label, SourceLine, SourceStatement, next, Slice, Code, Instructions, Data, statement_code, IsCode, code_size, address_in, labels_at, Layout, with_labels, within_limits, layout, layout_from, fault_at, base, ArePlaced, AreApart, Agrees, statement_size, end_from, assembled, ◌>>=◌, mapped, AsmKind, DuplicateLabel, AsmFault}
use Rattle.std.proofs.Common.{codes, nat_lt}
use Rattle.std.specs.Prelude.{◌||◌}
use Rattle.std.proofs.lemmas.Bool.{le-ltb}
use Rattle.std.proofs.lemmas.List.Elements.{All-head, All-tail}
use Rattle.rt_isa.proofs.Words.{one_word}
use Rattle.rt_asm.specs.Code.{AreWords}
use Rattle.rt_asm.specs.Source.{entry_of}
use Rattle.rt_asm.specs.declared.fault.AsmKind.TheVariants.{TooLarge, NoEntry}
use Rattle.rt_asm.proofs.SizeLemmas.{statement_len, code_bytes}

-- the size of a statement is the number of its bytes
pub size_is : (known : List Label) (place : ℕ) (s : Option SourceStatement) (code : Code) (here : List ℕ) → statement_code known place s ≡ Ok code → IsCode code here → statement_size place s ≡ Ok (length here)
size_is known place s code here f i = statement_len known place s code f ∙ ap Ok (sym (code_bytes code here i))

-- One placement: labels first, since no label changes a size.
record Same (L M : List Label) (a b : List ℕ) : Type 0 where
  labels : L ≡ M
  size : length a ≡ length b

same : (j k : List Label) (place : ℕ) (lines : List SourceLine) (L M : List Label) (a b : List ℕ) → ArePlaced j place lines L a → ArePlaced k place lines M b → Same L M a b
same j k place [] L M a b p q = record { labels = p.0 ∙ sym q.0; size = ap length (p.1 ∙ sym q.1) }
same j k place (l ∷ ls) L M a b p q =
    let sizes : Ok (length p.1) ≡ Ok (length q.1) = sym (size_is j place l.statement p.0 p.1 p.4 p.5) ∙ size_is k place l.statement q.0 q.1 q.4 q.5 in
    let size : length p.1 ≡ length q.1 = cc in
    let rest : Same p.2 q.2 p.3 q.3 = same j k (place + length q.1) ls p.2 q.2 p.3 q.3 (subst (λ (n : ℕ). ArePlaced j (place + n) ls p.2 p.3) size p.8) q.8 in
    record {
      labels = p.6 ∙ ap (λ (x : List Label). labels_at place l.labels ++ x) rest.labels ∙ sym q.6;
      size = omega (arith, ap length p.7, length-append p.1 p.3, ap length q.7, length-append q.1 q.3, size, rest.size);
    }

same_words : (xs : List Ins) (a b : List ℕ) → AreWords xs a → AreWords xs b → a ≡ b
same_words [] a b p q = p ∙ sym q
same_words (x ∷ xs) a b p q =
    p.4 ∙ ap (λ (w : ℕ). little_bytes 4 w ++ p.1) (one_word p.0 q.0 x p.2 q.2 p.3 q.3) ∙ ap (λ (r : List ℕ). little_bytes 4 q.0 ++ r) (same_words xs p.1 q.1 p.5 q.5) ∙ sym q.4

same_code : (code : Code) (a b : List ℕ) → IsCode code a → IsCode code b → a ≡ b
same_code (Instructions xs) a b p q = same_words xs a b p q
same_code (Data ds) a b p q = p ∙ sym q

same_bytes : (known : List Label) (place : ℕ) (lines : List SourceLine) (L M : List Label) (a b : List ℕ) → ArePlaced known place lines L a → ArePlaced known place lines M b → a ≡ b
same_bytes known place [] L M a b p q = p.1 ∙ sym q.1
same_bytes known place (l ∷ ls) L M a b p q =
    let codes : Ok p.0 ≡ Ok q.0 = sym p.4 ∙ q.4 in
    let code : p.0 ≡ q.0 = cc in
    let here : p.1 ≡ q.1 = same_code q.0 p.1 q.1 (subst (λ (c : Code). IsCode c p.1) code p.5) q.5 in
    p.7 ∙ ap (λ (h : List ℕ). h ++ p.3) here
    ∙ ap (λ (r : List ℕ). q.1 ++ r) (same_bytes known (place + length q.1) ls p.2 q.2 p.3 q.3 (subst (λ (h : List ℕ). ArePlaced known (place + length h) ls p.2 p.3) here p.8) q.8)
    ∙ sym q.7

pub one_placement : (lines : List SourceLine) (L M : List Label) (a b : List ℕ) → Agrees lines L a → Agrees lines M b → (L ≡ M) × (a ≡ b)
one_placement lines L M a b p q =
    let e : L ≡ M = (same L M base lines L M a b p.placed q.placed).labels in
    (e, same_bytes L base lines L L a b p.placed (subst (λ (x : List Label). ArePlaced x base lines x b) (sym e) q.placed))

-- Where lines, labels and bytes agree, the layout finds these labels.
at_place : (P : Label → Type 0) (ls after : List Label) (l : Label) → All P (ls ++ l ∷ after) → P l
at_place P [] after l h = All-head P l after h
at_place P (m ∷ ms) after l h = at_place P ms after l (All-tail P m (ms ++ l ∷ after) h)

not_there : (ls after : List Label) (l : Label) → AreApart (ls ++ l ∷ after) → is_some (address_in ls l.name) ≡ false
not_there [] after l h = refl
not_there (m ∷ ms) after l h = by (bytes_eq l.name m.name) refl (not_there ms after l h.1)
  where
    by : (b : Bool) → bytes_eq l.name m.name ≡ b → is_some (address_in ms l.name) ≡ false → is_some (if b then Some m.address else address_in ms l.name) ≡ false
    by true q e = absurd (at_place (λ n. m.name ≢ n.name) ms after l h.0 (sym ((bytes_eq-Decides l.name m.name).0 q)))
    by false q e = e

names_added : (place : ℕ) (ls : List Label) (names : List Slice) (after : List Label) → AreApart (ls ++ (labels_at place names ++ after)) → with_labels place ls names ≡ Ok (ls ++ labels_at place names)
names_added place ls [] after h = ap Ok (sym (append-nil ls))
names_added place ls (s ∷ ss) after h =
    let l : Label = record { name = s.text; address = place } in
    ap (λ (b : Bool). ◌>>=◌ (if b then Err DuplicateLabel else Ok (ls ++ l ∷ [])) (λ more. with_labels place more ss)) (not_there ls (labels_at place ss ++ after) l h)
    ∙ names_added place (ls ++ l ∷ []) ss after (subst AreApart (sym (append_assoc ls (l ∷ []) (labels_at place ss ++ after))) h)
    ∙ ap Ok (append_assoc ls (l ∷ []) (labels_at place ss))

laid_out : (known : List Label) (n place : ℕ) (lines : List SourceLine) (sofar later : List Label) (bytes : List ℕ) → ArePlaced known place lines later bytes → AreApart (sofar ++ later)
    → place + length bytes ≤ 0x80100000 → length (sofar ++ later) ≤ 65536
    → layout_from n (record { place = place; labels = sofar }) lines ≡ Ok (record { place = place + length bytes; labels = sofar ++ later })
laid_out known n place [] sofar later bytes p apart low few =
    let size : place ≡ place + length bytes = omega (arith, ap length p.1) in
    let names : sofar ≡ sofar ++ later = sym (append-nil sofar) ∙ ap (λ (x : List Label). sofar ++ x) (sym p.0) in
    ap (λ (k : ℕ). Ok (record { place = k; labels = sofar })) size ∙ ap (λ (x : List Label). Ok (record { place = place + length bytes; labels = x })) names
laid_out known n place (l ∷ ls) sofar later bytes p apart low few =
    let names : List Label = labels_at place l.labels in
    let more : List Label = sofar ++ names in
    let joined : sofar ++ later ≡ more ++ p.2 = ap (λ (x : List Label). sofar ++ x) p.6 ∙ sym (append_assoc sofar names p.2) in
    let size : length bytes ≡ length p.1 + length p.3 = ap length p.7 ∙ length-append p.1 p.3 in
    let count : length (sofar ++ later) ≡ length more + length p.2 = ap length joined ∙ length-append more p.2 in
    let near : nat_lt 0x80100000 (place + length p.1) ≡ false = le-ltb 0x80100000 (place + length p.1) (omega arith) in
    let listed : nat_lt 65536 (length more) ≡ false = le-ltb 65536 (length more) (omega arith) in
    let onward : Result Layout AsmKind → Result Layout AsmFault = λ r. next fault_at n r (λ t. layout_from (n + 1) t ls) in
    let here : Layout = record { place = place + length p.1; labels = more } in
    ap (λ (r : Result (List Label) AsmKind). onward (◌>>=◌ r (λ labels. ◌>>=◌ (statement_size place l.statement) (λ size. within_limits (place + size) labels))))
    (names_added place sofar l.labels p.2 (subst AreApart (ap (λ (x : List Label). sofar ++ x) p.6) apart))
    ∙ ap (λ (r : Result ℕ AsmKind). onward (◌>>=◌ r (λ size. within_limits (place + size) more))) (size_is known place l.statement p.0 p.1 p.4 p.5)
    ∙ ap (λ (b : Bool). onward (if b || nat_lt 65536 (length more) then Err TooLarge else Ok here)) near
    ∙ ap (λ (b : Bool). onward (if b then Err TooLarge else Ok here)) listed
    ∙ laid_out known (n + 1) (place + length p.1) ls more p.2 p.3 p.8 (subst AreApart joined apart) (omega arith) (omega (arith, length-append more p.2))
    ∙ ap (λ (k : ℕ). Ok (record { place = k; labels = more ++ p.2 })) (omega arith)
    ∙ ap (λ (x : List Label). Ok (record { place = place + length bytes; labels = x })) (sym joined)

-- and the operands have no fault
ends : (known : List Label) (n place : ℕ) (lines : List SourceLine) (later : List Label) (bytes : List ℕ) → ArePlaced known place lines later bytes → end_from known n place lines ≡ Ok (place + length bytes)
ends known n place [] later bytes p = ap Ok (omega (arith, ap length p.1))
ends known n place (l ∷ ls) later bytes p =
    let size : length bytes ≡ length p.1 + length p.3 = ap length p.7 ∙ length-append p.1 p.3 in
    ap (λ (r : Result Code AsmKind). next fault_at n (mapped (λ code. place + code_size code) r) (λ t. end_from known (n + 1) t ls)) p.4
    ∙ ap (λ (k : ℕ). end_from known (n + 1) (place + k) ls) (sym (code_bytes p.0 p.1 p.5))
    ∙ ends known (n + 1) (place + length p.1) ls p.2 p.3 p.8
    ∙ ap Ok (omega arith)

pub assembles : (lines : List SourceLine) (labels : List Label) (bytes : List ℕ) (entry : ℕ) → Agrees lines labels bytes → length bytes ≤ 1048576 → length labels ≤ 65536
    → address_in labels (codes "_start") ≡ Some entry → assembled lines ≡ Ok (entry, labels)
assembles lines labels bytes entry a low few e =
    let laid : layout lines ≡ Ok (record { place = base + length bytes; labels = labels }) = laid_out labels 1 base lines [] labels bytes a.placed a.apart (omega (arith, low)) few in
    ap (λ (r : Result Layout AsmFault). ◌>>=◌ r (λ l. ◌>>=◌ (end_from l.labels 1 base lines) (λ place. mapped (λ entry. (entry, l.labels)) (entry_of l.labels)))) laid
    ∙ ap (λ (r : Result ℕ AsmFault). ◌>>=◌ r (λ place. mapped (λ entry. (entry, labels)) (entry_of labels))) (ends labels 1 base lines labels bytes a.placed)
    ∙ ap (λ (o : Option ℕ). mapped (λ entry. (entry, labels)) (ok_or o (fault_at 0 NoEntry))) e
