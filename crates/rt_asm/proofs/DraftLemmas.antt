-- Drafts: the bytes that are known, and the statements that are left.
use Rattle.rt_asm.proofs.Common.{◌≡◌, ℕ, ◌+◌, ◌-◌, ◌≤◌, ◌<◌, Bool, true, false, List, [], ◌∷◌, ◌++◌, length, get_or, take, drop, Option, Some, None, Result, Ok, Err, refl, sym, ap, subst, ◌∙◌, append_assoc, arith, length-append, if◌then◌else◌, append-nil, option_map, ok_or, bytes_eq, Ins, Label, AreLabelNames, SourceLine, SourceStatement, Reading, NextLine, Meaning, base, ◌>>=◌, mapped, next, Code, Instructions, Data, code_of, code_size, address_in, labels_at, Layout, line_layout, fault_at, statement_size, KeptStatement, AsmKind}
use Rattle.std.specs.Prelude.{map, OnOk}
use Rattle.std.proofs.lemmas.List.{drop_more, take_at, drop_at}
use Rattle.rt_isa.specs.declared.instruction.Ins.TheVariants.{Jal}
use Rattle.rt_text.specs.declared.meaning.Meaning.TheVariants as meaning
use Rattle.rt_text.specs.declared.meaning.Target.{Target}
use Rattle.rt_text.specs.declared.meaning.Target.TheVariants as targets
use Rattle.rt_text.specs.declared.meaning.Transfer.{Transfer}
use Rattle.rt_text.specs.declared.meaning.Transfer.TheVariants as transfer
use Rattle.rt_words.specs.Modular.{difference32}
use Rattle.rt_asm.specs.Data.{data_of}
use Rattle.rt_asm.specs.Labels.{address_of}
use Rattle.rt_asm.specs.Pseudo.{load_address}
use Rattle.rt_asm.specs.Rows.{branch, zero_branch}
use Rattle.rt_asm.specs.Size.{size_of}
use Rattle.rt_asm.specs.Source.{IsRefusal}
use Rattle.rt_asm.specs.Transfers.{distance_to, branch_over, jump_over, jump_to, transfer_code}
use Rattle.rt_asm.specs.Working.Drafts.{Part, Known, Left, statement_of, statements, left_after, known_bytes, left_behind, IsPart, AreParts, IsDraft, IsDrafted, Drafts}
use Rattle.rt_asm.specs.Working.Emission.{AppendsCode, AppendsWords, Fails}
use Rattle.rt_asm.specs.Working.Kept.{kept_of, kept_end, HaveBytes}
use Rattle.rt_asm.specs.Working.StepFaults.{fault_of_line}
use Rattle.rt_asm.specs.declared.kept.LeftStatement.{LeftStatement}
use Rattle.rt_asm.specs.declared.fault.AsmKind.TheVariants.{UndefinedLabel}
use Rattle.rt_asm.specs.Working.StepFaults.{StepFault}
use Rattle.rt_words.specs.declared.or_memory.OrMemory.TheVariants.{Memory, Fault as Kind}
use Rattle.rt_asm.proofs.KeptLemmas.{Ended}
use Rattle.rt_asm.proofs.LayoutLemmas.{names_behind, LineLaid, line_laid}
use Rattle.rt_asm.proofs.SizeLemmas.{code_len, code_bytes}
use Rattle.rt_asm.proofs.TextLemmas.{Laid, all_laid, line_laid as text_line_laid}

-- ---- labels that come later change nothing of what is known

address_more : (labels more : List Label) (name : List ℕ) (a : ℕ) → address_in labels name ≡ Some a → address_in (labels ++ more) name ≡ Some a
address_more [] more name a h = cc
address_more (l ∷ ls) more name a h = by (bytes_eq name l.name) (address_more ls more name a) h
  where
    by : (b : Bool) → (address_in ls name ≡ Some a → address_in (ls ++ more) name ≡ Some a) → (if b then Some l.address else address_in ls name) ≡ Some a
        → (if b then Some l.address else address_in (ls ++ more) name) ≡ Some a
    by true others e = e
    by false others e = others e

label_more : (labels more : List Label) (name : List ℕ) (a : ℕ) (o : Option ℕ) → address_in labels name ≡ o → ok_or o UndefinedLabel ≡ Ok a → ok_or (address_in (labels ++ more) name) UndefinedLabel ≡ Ok a
label_more labels more name a (Some x) e q = ap (λ (o : Option ℕ). ok_or o UndefinedLabel) (address_more labels more name x e) ∙ q
label_more labels more name a None e q = cc

target_more : (labels more : List Label) (t : Target) (a : ℕ) → address_of labels t ≡ Ok a → address_of (labels ++ more) t ≡ Ok a
target_more labels more (targets.Label s) a h = label_more labels more s.text a (address_in labels s.text) refl h
target_more labels more (targets.Number n) a h = h

distance_more : {Y : Type 0} (labels more : List Label) (place : ℕ) (t : Target) (f : ℕ → Result Y AsmKind) (y : Y) → distance_to labels place t >>= f ≡ Ok y → distance_to (labels ++ more) place t >>= f ≡ Ok y
distance_more {Y} labels more place t f y h = by (address_of labels t) refl h
  where
    by : (r : Result ℕ AsmKind) → address_of labels t ≡ r → mapped (λ address. difference32 address place) r >>= f ≡ Ok y
        → mapped (λ address. difference32 address place) (address_of (labels ++ more) t) >>= f ≡ Ok y
    by (Ok a) e q = ap (λ (r : Result ℕ AsmKind). mapped (λ address. difference32 address place) r >>= f) (target_more labels more t a e) ∙ q
    by (Err kind) e q = cc

mapped_more : {Y : Type 0} (labels more : List Label) (place : ℕ) (t : Target) (f : ℕ → Y) (y : Y) → mapped f (distance_to labels place t) ≡ Ok y → mapped f (distance_to (labels ++ more) place t) ≡ Ok y
mapped_more {Y} labels more place t f y h = by (address_of labels t) refl h
  where
    by : (r : Result ℕ AsmKind) → address_of labels t ≡ r → mapped f (mapped (λ address. difference32 address place) r) ≡ Ok y
        → mapped f (mapped (λ address. difference32 address place) (address_of (labels ++ more) t)) ≡ Ok y
    by (Ok a) e q = ap (λ (r : Result ℕ AsmKind). mapped f (mapped (λ address. difference32 address place) r)) (target_more labels more t a e) ∙ q
    by (Err kind) e q = cc

transfer_more : (labels more : List Label) (place : ℕ) (t : Transfer) (xs : List Ins) → transfer_code labels place t ≡ Ok xs → transfer_code (labels ++ more) place t ≡ Ok xs
transfer_more labels more place (transfer.JumpAndLink d t) xs h = distance_more labels more place t (jump_over (λ i. Jal d i)) xs h
transfer_more labels more place (transfer.JumpAndLinkRegister d m) xs h = h
transfer_more labels more place (transfer.Branch op a b t) xs h = distance_more labels more place t (branch_over (λ i. branch op a b i)) xs h
transfer_more labels more place (transfer.ZeroBranch op a t) xs h = distance_more labels more place t (branch_over (λ i. zero_branch op a i)) xs h
transfer_more labels more place (transfer.JumpTo op t) xs h = distance_more labels more place t (jump_to op) xs h
transfer_more labels more place (transfer.JumpRegister op a) xs h = h
transfer_more labels more place (transfer.LoadAddress d t) xs h = mapped_more labels more place t (load_address d) xs h

instructions_more : (labels more : List Label) (place : ℕ) (t : Transfer) (xs : List Ins) (r : Result (List Ins) AsmKind) → transfer_code labels place t ≡ r
    → mapped Instructions r ≡ Ok (Instructions xs) → mapped Instructions (transfer_code (labels ++ more) place t) ≡ Ok (Instructions xs)
instructions_more labels more place t xs (Ok ys) e q = ap (λ (r : Result (List Ins) AsmKind). mapped Instructions r) (transfer_more labels more place t ys e) ∙ q
instructions_more labels more place t xs (Err kind) e q = cc

no_instructions : {A : Type 0} (r : Result (List ℕ) AsmKind) (xs : List Ins) → mapped Data r ≡ Ok (Instructions xs) → A
no_instructions (Ok bytes) xs h = cc
no_instructions (Err kind) xs h = cc

code_more : (labels more : List Label) (place : ℕ) (m : Meaning) (xs : List Ins) → code_of labels place m ≡ Ok (Instructions xs) → code_of (labels ++ more) place m ≡ Ok (Instructions xs)
unfolding code_of
code_more labels more place (meaning.Operation o) xs h = h
code_more labels more place (meaning.Transfer t) xs h = instructions_more labels more place t xs (transfer_code labels place t) refl h
code_more labels more place (meaning.Fence before after) xs h = h
code_more labels more place (meaning.Plain op) xs h = h
code_more labels more place (meaning.Directive d) xs h = no_instructions (data_of labels place d) xs h

part_more : (labels more : List Label) (place : ℕ) (p : Part) → IsPart labels place p → IsPart (labels ++ more) place p
part_more labels more place (Known k bytes) h = (h.0, code_more labels more place k.meaning h.0 h.1, h.2)
part_more labels more place (Left k) h = tt

parts_more : (labels more : List Label) (end place : ℕ) (ps : List Part) → AreParts labels end place ps → AreParts (labels ++ more) end place ps
parts_more labels more end place [] h = h
parts_more labels more end place (p ∷ ps) h = (h.0, h.1, part_more labels more place p h.2, parts_more labels more end (place + h.0) ps h.3)

-- ---- one part more

statements_push : (ps : List Part) (p : Part) → statements (ps ++ p ∷ []) ≡ statements ps ++ statement_of p ∷ []
statements_push [] p = refl
statements_push (q ∷ qs) p = ap (λ (ks : List KeptStatement). statement_of q ∷ ks) (statements_push qs p)

known_push : (ps : List Part) (p : Part) → known_bytes (ps ++ p ∷ []) ≡ known_bytes ps ++ known_bytes (p ∷ [])
known_push [] p = refl
known_push (Known k b ∷ qs) p = ap (λ (bs : List ℕ). b ++ bs) (known_push qs p) ∙ sym (append_assoc b (known_bytes qs) (known_bytes (p ∷ [])))
known_push (Left k ∷ qs) p = known_push qs p

left_push : (n : ℕ) (ps : List Part) (p : Part) → left_behind n (ps ++ p ∷ []) ≡ left_behind n ps ++ left_behind (n + length (known_bytes ps)) (p ∷ [])
left_push n [] p = ap (λ (i : ℕ). left_behind i (p ∷ [])) (omega arith)
left_push n (Known k b ∷ qs) p =
    left_push (n + length b) qs p ∙ ap (λ (i : ℕ). left_behind (n + length b) qs ++ left_behind i (p ∷ [])) (omega (arith, length-append b (known_bytes qs)))
left_push n (Left k ∷ qs) p = ap (λ (ls : List LeftStatement). left_after n k ∷ ls) (left_push n qs p)

parts_push : (labels : List Label) (mid end place : ℕ) (ps : List Part) (p : Part) (size : ℕ) → AreParts labels mid place ps → IsPart labels mid p
    → size_of mid (statement_of p).meaning ≡ Ok size → mid + size ≡ end → AreParts labels end place (ps ++ p ∷ [])
parts_push labels mid end place [] p size h i s e =
    let here : AreParts labels end mid (p ∷ []) = (size, s, i, e) in subst (λ (m : ℕ). AreParts labels end m (p ∷ [])) (sym h) here
parts_push labels mid end place (q ∷ qs) p size h i s e = (h.0, h.1, h.2, parts_push labels mid end (place + h.0) qs p size h.3 i s e)

-- no line is drafted
pub draft_none : IsDraft [] base [] [] []
draft_none = record { parts = []; same = refl; known = refl; rest = refl; placed = refl }

-- one line more
pub draft_more : (before mid : Layout) (line : SourceLine) (n : ℕ) (kept : List KeptStatement) (old new : List ℕ) (left more : List LeftStatement) → line_layout before line ≡ Ok mid
    → IsDraft before.labels before.place kept old left → Drafts mid.labels before.place old new left more (kept_of n (option_map (λ s. s.meaning) line.statement))
    → IsDraft mid.labels mid.place (kept ++ kept_of n (option_map (λ s. s.meaning) line.statement)) new more
draft_more before mid line n kept old new left more h d q = by line.statement refl q
  where
    one : LineLaid before mid line
    one = line_laid before line mid h

    placed : AreParts mid.labels before.place base d.parts
    placed =
        subst (λ (ls : List Label). AreParts ls before.place base d.parts) (sym (names_behind before.place before.labels line.labels mid.labels one.added))
        (parts_more before.labels (labels_at before.place line.labels) before.place base d.parts d.placed)

    by : (s : Option SourceStatement) → line.statement ≡ s → Drafts mid.labels before.place old new left more (kept_of n (option_map (λ s. s.meaning) s))
        → IsDraft mid.labels mid.place (kept ++ kept_of n (option_map (λ s. s.meaning) s)) new more
    by None e q =
        let none : Ok 0 ≡ Ok one.size = sym (ap (statement_size before.place) e) ∙ one.sized in
        let empty : 0 ≡ one.size = cc in
        let at : before.place ≡ mid.place = omega (arith, one.place, empty) in
        record {
          parts = d.parts;
          same = append-nil kept ∙ d.same;
          known = q.0 ∙ d.known;
          rest = q.1 ∙ d.rest;
          placed = subst (λ (m : ℕ). AreParts mid.labels m base d.parts) at placed;
        }
    by (Some s) e q =
        let k : KeptStatement = record { line = n; meaning = s.meaning } in
        let sized : size_of before.place (statement_of q.0).meaning ≡ Ok one.size =
        ap (λ (x : KeptStatement). size_of before.place x.meaning) q.1 ∙ sym (ap (statement_size before.place) e) ∙ one.sized in
        let count : length old ≡ 0 + length (known_bytes d.parts) = omega (arith, ap length d.known) in
        record {
          parts = d.parts ++ q.0 ∷ [];
          same =
              ap (λ (ks : List KeptStatement). ks ++ k ∷ []) d.same ∙ ap (λ (x : KeptStatement). statements d.parts ++ x ∷ []) (sym q.1)
              ∙ sym (statements_push d.parts q.0);
          known = q.3 ∙ ap (λ (bs : List ℕ). bs ++ known_bytes (q.0 ∷ [])) d.known ∙ sym (known_push d.parts q.0);
          rest =
              q.4 ∙ ap (λ (ls : List LeftStatement). ls ++ left_behind (length old) (q.0 ∷ [])) d.rest
              ∙ ap (λ (i : ℕ). left_behind 0 d.parts ++ left_behind i (q.0 ∷ [])) count ∙ sym (left_push 0 d.parts q.0);
          placed = parts_push mid.labels before.place mid.place base d.parts q.0 one.size placed q.2 sized (sym one.place);
        }

-- a statement whose instructions are known
pub drafted_known : {E : Type 0} (r : Result (Unit {0}) E) (labels : List Label) (place : ℕ) (old new : List ℕ) (left : List LeftStatement) (line : SourceLine) (n : ℕ) (xs : List Ins)
    → (s : SourceStatement) × (line.statement ≡ Some s) × (code_of labels place s.meaning ≡ Ok (Instructions xs)) → OnOk r (AppendsWords old new xs)
    → OnOk r (Drafts labels place old new left left (kept_of n (option_map (λ s. s.meaning) line.statement)))
drafted_known (Err e) labels place old new left line n xs found a = tt
drafted_known (Ok u) labels place old new left line n xs found a =
    let k : KeptStatement = record { line = n; meaning = found.0.meaning } in
    let here : Drafts labels place old new left left (k ∷ []) =
    (Known k a.bytes, refl, (xs, found.2, a.words), a.behind ∙ ap (λ (bs : List ℕ). old ++ bs) (sym (append-nil a.bytes)), sym (append-nil left)) in
    subst (λ (o : Option SourceStatement). Drafts labels place old new left left (kept_of n (option_map (λ s. s.meaning) o))) (sym found.1) here

-- a statement that is left, or none
left_by : (labels : List Label) (place : ℕ) (old : List ℕ) (left more : List LeftStatement) (n : ℕ) (meaning : Option Meaning) → more ≡ left ++ map (left_after (length old)) (kept_of n meaning)
    → Drafts labels place old old left more (kept_of n meaning)
left_by labels place old left more n None h = (refl, h ∙ append-nil left)
left_by labels place old left more n (Some m) h = (Left (record { line = n; meaning = m }), refl, tt, sym (append-nil old), h)

pub drafted_left : {E : Type 0} (r : Result (Unit {0}) E) (labels : List Label) (place known : ℕ) (old : List ℕ) (left more : List LeftStatement) (line : SourceLine) (n : ℕ) (meaning : Option Meaning)
    → known ≡ length old → meaning ≡ option_map (λ s. s.meaning) line.statement → OnOk r (more ≡ left ++ map (left_after known) (kept_of n meaning))
    → OnOk r (Drafts labels place old old left more (kept_of n (option_map (λ s. s.meaning) line.statement)))
drafted_left (Err e) labels place known old left more line n meaning count same h = tt
drafted_left (Ok u) labels place known old left more line n meaning count same h =
    subst (λ (m : Option Meaning). Drafts labels place old old left more (kept_of n m)) same
    (left_by labels place old left more n meaning (h ∙ ap (λ (i : ℕ). left ++ map (left_after i) (kept_of n meaning)) count))

-- ---- the bytes of a draft

-- parts up to the first that is left
pub record Cut (labels : List Label) (end place n : ℕ) (ps : List Part) (l : LeftStatement) (ls : List LeftStatement) : Type 0 where
  pub run : List ℕ
  pub others : List Part
  pub at : ℕ
  pub size : ℕ
  pub count : l.before ≡ n + length run
  pub stands : at ≡ place + length run
  pub known : known_bytes ps ≡ run ++ known_bytes others
  pub behind : left_behind l.before others ≡ ls
  pub sized : size_of at l.statement.meaning ≡ Ok size
  pub placed : AreParts labels end (at + size) others
  pub checked : kept_end labels place (statements ps) ≡ kept_end labels at (l.statement ∷ statements others)
  pub bytes : (more : List ℕ) → HaveBytes labels at (l.statement ∷ statements others) more → HaveBytes labels place (statements ps) (run ++ more)

cut : (labels : List Label) (end place n : ℕ) (ps : List Part) (l : LeftStatement) (ls : List LeftStatement) → left_behind n ps ≡ l ∷ ls → AreParts labels end place ps → Cut labels end place n ps l ls
cut labels end place n [] l ls h a = cc
cut labels end place n (Left k ∷ ps) l ls h a =
    let here : left_after n k ≡ l = cc in
    let later : left_behind n ps ≡ ls = cc in
    subst (λ (x : LeftStatement). Cut labels end place n (Left k ∷ ps) x ls) here (record {
      run = [];
      others = ps;
      at = place;
      size = a.0;
      count = omega arith;
      stands = omega arith;
      known = refl;
      behind = later;
      sized = a.1;
      placed = a.3;
      checked = refl;
      bytes = λ more q. q;
    })
cut labels end place n (Known k b ∷ ps) l ls h a =
    let code : Code = Instructions a.2.0 in
    let sizes : Ok a.0 ≡ Ok (code_size code) = sym a.1 ∙ code_len labels place k.meaning code a.2.1 in
    let size : a.0 ≡ code_size code = cc in
    let long : length b ≡ code_size code = code_bytes code b a.2.2 in
    let c : Cut labels end (place + a.0) (n + length b) ps l ls = cut labels end (place + a.0) (n + length b) ps l ls h a.3 in
    record {
      run = b ++ c.run;
      others = c.others;
      at = c.at;
      size = c.size;
      count = omega (arith, c.count, length-append b c.run);
      stands = omega (arith, c.stands, length-append b c.run, size, long);
      known = ap (λ (bs : List ℕ). b ++ bs) c.known ∙ sym (append_assoc b c.run (known_bytes c.others));
      behind = c.behind;
      sized = c.sized;
      placed = c.placed;
      checked =
          ap (λ (r : Result Code AsmKind). next fault_at k.line (mapped (λ code. place + code_size code) r) (λ t. kept_end labels t (statements ps))) a.2.1
          ∙ ap (λ (i : ℕ). kept_end labels (place + i) (statements ps)) (sym size) ∙ c.checked;
      bytes = λ more q. (
        code,
        b,
        c.run ++ more,
        a.2.1,
        a.2.2,
        append_assoc b c.run more,
        subst (λ (i : ℕ). HaveBytes labels (place + i) (statements ps) (c.run ++ more)) (size ∙ sym long) (c.bytes more q),
      );
    }

-- parts of which none is left
pub record AllKnown (labels : List Label) (end place : ℕ) (ps : List Part) : Type 0 where
  pub bytes : HaveBytes labels place (statements ps) (known_bytes ps)
  pub checked : kept_end labels place (statements ps) ≡ Ok (place + length (known_bytes ps))
  pub size : place + length (known_bytes ps) ≡ end

all_known : (labels : List Label) (end place n : ℕ) (ps : List Part) → left_behind n ps ≡ [] → AreParts labels end place ps → AllKnown labels end place ps
all_known labels end place n [] h a = record { bytes = refl; checked = ap Ok (omega arith); size = omega (arith, a) }
all_known labels end place n (Left k ∷ ps) h a = cc
all_known labels end place n (Known k b ∷ ps) h a =
    let code : Code = Instructions a.2.0 in
    let sizes : Ok a.0 ≡ Ok (code_size code) = sym a.1 ∙ code_len labels place k.meaning code a.2.1 in
    let size : a.0 ≡ code_size code = cc in
    let long : length b ≡ code_size code = code_bytes code b a.2.2 in
    let c : AllKnown labels end (place + a.0) ps = all_known labels end (place + a.0) (n + length b) ps h a.3 in
    record {
      bytes = (code, b, known_bytes ps, a.2.1, a.2.2, refl, subst (λ (i : ℕ). HaveBytes labels (place + i) (statements ps) (known_bytes ps)) (size ∙ sym long) c.bytes);
      checked =
          ap (λ (r : Result Code AsmKind). next fault_at k.line (mapped (λ code. place + code_size code) r) (λ t. kept_end labels t (statements ps))) a.2.1
          ∙ ap (λ (i : ℕ). kept_end labels (place + i) (statements ps)) (sym size) ∙ c.checked ∙ ap Ok (omega (arith, length-append b (known_bytes ps), size, long));
      size = omega (arith, length-append b (known_bytes ps), size, long, c.size);
    }

-- parts end no earlier than they begin
parts_low : (labels : List Label) (end place : ℕ) (ps : List Part) → AreParts labels end place ps → place ≤ end
parts_low labels end place [] h = omega (arith, h)
parts_low labels end place (p ∷ ps) h = omega (arith, parts_low labels end (place + h.0) ps h.3)

pub draft_low : (labels : List Label) (end : ℕ) (kept : List KeptStatement) (bytes : List ℕ) (left : List LeftStatement) → IsDraft labels end kept bytes left → base ≤ end
draft_low labels end kept bytes left d = parts_low labels end base d.parts d.placed

-- a draft without statements that are left
pub draft_whole : (labels : List Label) (end : ℕ) (kept : List KeptStatement) (bytes : List ℕ) (left : List LeftStatement) → IsDraft labels end kept bytes left → left ≡ [] → Ended labels end kept bytes
draft_whole labels end kept bytes left d none =
    let a : AllKnown labels end base d.parts = all_known labels end base 0 d.parts (sym d.rest ∙ none) d.placed in
    let known : Ended labels end (statements d.parts) (known_bytes d.parts) = record { bytes = a.bytes; checked = a.checked; size = a.size } in
    subst (λ (ks : List KeptStatement). Ended labels end ks bytes) (sym d.same) (subst (λ (bs : List ℕ). Ended labels end (statements d.parts) bs) (sym d.known) known)

-- a draft of which so many of the statements that are left have their bytes in out, and rest is not yet there
pub record Filled (labels : List Label) (end : ℕ) (kept : List KeptStatement) (left : List LeftStatement) (index taken : ℕ) (rest out : List ℕ) : Type 0 where
  pub parts : List Part
  pub known : rest ≡ known_bytes parts
  pub behind : drop index left ≡ left_behind taken parts
  pub placed : AreParts labels end (base + length out) parts
  pub checked : kept_end labels base kept ≡ kept_end labels (base + length out) (statements parts)
  pub bytes : (more : List ℕ) → HaveBytes labels (base + length out) (statements parts) more → HaveBytes labels base kept (out ++ more)

pub fill_none : (labels : List Label) (end : ℕ) (kept : List KeptStatement) (known : List ℕ) (left : List LeftStatement) → IsDraft labels end kept known left → Filled labels end kept left 0 0 known []
fill_none labels end kept known left d = record {
  parts = d.parts;
  known = d.known;
  behind = d.rest;
  placed = d.placed;
  checked = ap (kept_end labels base) d.same;
  bytes = λ more q. subst (λ (ks : List KeptStatement). HaveBytes labels base ks more) (sym d.same) q;
}

-- the next that is left
pub fill_cut : (labels : List Label) (end : ℕ) (kept : List KeptStatement) (left : List LeftStatement) (index taken : ℕ) (rest out : List ℕ) (l : LeftStatement) → index < length left
    → l ≡ get_or left index l → (f : Filled labels end kept left index taken rest out) → Cut labels end (base + length out) taken f.parts l (drop (index + 1) left)
fill_cut labels end kept left index taken rest out l h is f =
    cut labels end (base + length out) taken f.parts l (drop (index + 1) left)
    (sym f.behind ∙ drop_more left index l h ∙ ap (λ (x : LeftStatement). x ∷ drop (index + 1) left) (sym is)) f.placed

-- what is known before it is there, and it stands within the image
pub record Room (end taken before : ℕ) (rest out : List ℕ) : Type 0 where
  pub forward : taken ≤ before
  pub within : before - taken ≤ length rest
  pub low : base + length out + (before - taken) ≤ end

pub fill_room : (labels : List Label) (end : ℕ) (kept : List KeptStatement) (left : List LeftStatement) (index taken : ℕ) (rest out : List ℕ) (l : LeftStatement) → index < length left
    → l ≡ get_or left index l → Filled labels end kept left index taken rest out → Room end taken l.before rest out
fill_room labels end kept left index taken rest out l h is f =
    let c : Cut labels end (base + length out) taken f.parts l (drop (index + 1) left) = fill_cut labels end kept left index taken rest out l h is f in
    let long : length rest ≡ length c.run + length (known_bytes c.others) = ap length (f.known ∙ c.known) ∙ length-append c.run (known_bytes c.others) in
    let low : c.at + c.size ≤ end = parts_low labels end (c.at + c.size) c.others c.placed in
    record { forward = omega (arith, c.count); within = omega (arith, c.count, long); low = omega (arith, c.count, c.stands, low) }

-- where it stands
abbrev HasRun : {labels : List Label} {end place n : ℕ} {ps : List Part} {l : LeftStatement} {ls : List LeftStatement} → Cut labels end place n ps l ls → List ℕ → List ℕ → List ℕ → Type 0
HasRun c front after rest = (front ≡ c.run) × (after ≡ known_bytes c.others)

fill_run : (labels : List Label) (end : ℕ) (kept : List KeptStatement) (left : List LeftStatement) (index taken : ℕ) (rest out front after : List ℕ) (l : LeftStatement)
    → (f : Filled labels end kept left index taken rest out) → (c : Cut labels end (base + length out) taken f.parts l (drop (index + 1) left))
    → front ≡ take (l.before - taken) rest → after ≡ drop (l.before - taken) rest → HasRun c front after rest
fill_run labels end kept left index taken rest out front after l f c p q =
    let count : length c.run ≡ l.before - taken = omega (arith, c.count) in
    let whole : rest ≡ c.run ++ known_bytes c.others = f.known ∙ c.known in (
      p ∙ ap (take (l.before - taken)) whole ∙ take_at c.run (known_bytes c.others) (l.before - taken) count,
      q ∙ ap (drop (l.before - taken)) whole ∙ drop_at c.run (known_bytes c.others) (l.before - taken) count,
    )

-- its bytes go behind what is known before it
pub fill_more : (labels known : List Label) (end n : ℕ) (kept : List KeptStatement) (left : List LeftStatement) (index taken : ℕ) (rest out front after mid new : List ℕ) (l : LeftStatement)
    → index < length left → l ≡ get_or left index l → known ≡ labels → front ≡ take (l.before - taken) rest → after ≡ drop (l.before - taken) rest → mid ≡ out ++ front → n ≡ length mid
    → AppendsCode mid new (code_of known (base + n) l.statement.meaning) → Filled labels end kept left index taken rest out
    → Filled labels end kept left (index + 1) l.before after new
fill_more labels known end n kept left index taken rest out front after mid new l h is same p q m count app f =
    let c : Cut labels end (base + length out) taken f.parts l (drop (index + 1) left) = fill_cut labels end kept left index taken rest out l h is f in
    let r : HasRun c front after rest = fill_run labels end kept left index taken rest out front after l f c p q in
    let joined : mid ≡ out ++ c.run = m ∙ ap (λ (bs : List ℕ). out ++ bs) r.0 in
    let at : base + n ≡ c.at = omega (arith, count, c.stands, ap length joined, length-append out c.run) in
    let a : AppendsCode mid new (code_of labels c.at l.statement.meaning) =
    subst (λ (i : ℕ). AppendsCode mid new (code_of labels i l.statement.meaning)) at
    (subst (λ (ls : List Label). AppendsCode mid new (code_of ls (base + n) l.statement.meaning)) same app) in
    let sizes : Ok c.size ≡ Ok (code_size a.code) = sym c.sized ∙ code_len labels c.at l.statement.meaning a.code a.found in
    let size : c.size ≡ code_size a.code = cc in
    let long : length a.bytes ≡ code_size a.code = code_bytes a.code a.bytes a.spelled in
    let grown : length new ≡ length mid + length a.bytes = ap length a.behind ∙ length-append mid a.bytes in
    let ends : c.at + c.size ≡ base + length new = omega (arith, at, count, grown, size, long) in
    let here : c.at + code_size a.code ≡ base + length new = omega (arith, ends, size) in
    let there : base + length new ≡ c.at + length a.bytes = omega (arith, here, long) in
    record {
      parts = c.others;
      known = r.1;
      behind = sym c.behind;
      placed = subst (λ (i : ℕ). AreParts labels end i c.others) ends c.placed;
      checked =
          f.checked ∙ c.checked
          ∙ ap (λ (x : Result Code AsmKind). next fault_at l.statement.line (mapped (λ code. c.at + code_size code) x) (λ t. kept_end labels t (statements c.others))) a.found
          ∙ ap (λ (i : ℕ). kept_end labels i (statements c.others)) here;
      bytes = λ more w.
          let v : HaveBytes labels c.at (l.statement ∷ statements c.others) (a.bytes ++ more) =
          (a.code, a.bytes, more, a.found, a.spelled, refl, subst (λ (i : ℕ). HaveBytes labels i (statements c.others) more) there w) in
          let u : HaveBytes labels base kept (out ++ (c.run ++ (a.bytes ++ more))) = f.bytes (c.run ++ (a.bytes ++ more)) (c.bytes (a.bytes ++ more) v) in
          subst (HaveBytes labels base kept)
          (sym (append_assoc out c.run (a.bytes ++ more)) ∙ ap (λ (bs : List ℕ). bs ++ (a.bytes ++ more)) (sym joined) ∙ sym (append_assoc mid a.bytes more)
          ∙ ap (λ (bs : List ℕ). bs ++ more) (sym a.behind)) u;
    }

-- it has a fault
pub fill_refused : (labels known : List Label) (end n : ℕ) (kept : List KeptStatement) (left : List LeftStatement) (index taken : ℕ) (rest out front after mid : List ℕ) (l : LeftStatement) (fault : StepFault)
    → index < length left → l ≡ get_or left index l → known ≡ labels → front ≡ take (l.before - taken) rest → after ≡ drop (l.before - taken) rest → mid ≡ out ++ front → n ≡ length mid
    → Fails fault (code_of known (base + n) l.statement.meaning) → Filled labels end kept left index taken rest out
    → IsRefusal (fault_of_line l.statement.line fault) (kept_end labels base kept)
fill_refused labels known end n kept left index taken rest out front after mid l Memory h is same p q m count wrong f = tt
fill_refused labels known end n kept left index taken rest out front after mid l (Kind kind) h is same p q m count wrong f =
    let c : Cut labels end (base + length out) taken f.parts l (drop (index + 1) left) = fill_cut labels end kept left index taken rest out l h is f in
    let r : HasRun c front after rest = fill_run labels end kept left index taken rest out front after l f c p q in
    let joined : mid ≡ out ++ c.run = m ∙ ap (λ (bs : List ℕ). out ++ bs) r.0 in
    let at : base + n ≡ c.at = omega (arith, count, c.stands, ap length joined, length-append out c.run) in
    let found : code_of labels c.at l.statement.meaning ≡ Err kind =
    ap (λ (i : ℕ). code_of labels i l.statement.meaning) (sym at) ∙ ap (λ (ls : List Label). code_of ls (base + n) l.statement.meaning) (sym same) ∙ wrong in
    f.checked ∙ c.checked
    ∙ ap (λ (x : Result Code AsmKind). next fault_at l.statement.line (mapped (λ code. c.at + code_size code) x) (λ t. kept_end labels t (statements c.others))) found

-- none is left
pub fill_all : (labels : List Label) (end : ℕ) (kept : List KeptStatement) (left : List LeftStatement) (index taken : ℕ) (rest out new : List ℕ) → drop index left ≡ [] → new ≡ out ++ rest
    → Filled labels end kept left index taken rest out → Ended labels end kept new
fill_all labels end kept left index taken rest out new none last f =
    let a : AllKnown labels end (base + length out) f.parts = all_known labels end (base + length out) taken f.parts (sym f.behind ∙ none) f.placed in
    let joined : new ≡ out ++ known_bytes f.parts = last ∙ ap (λ (bs : List ℕ). out ++ bs) f.known in
    let long : base + length out + length (known_bytes f.parts) ≡ base + length new = omega (arith, ap length joined, length-append out (known_bytes f.parts)) in
    record {
      bytes = subst (HaveBytes labels base kept) (sym joined) (f.bytes (known_bytes f.parts) a.bytes);
      checked = f.checked ∙ a.checked ∙ ap Ok long;
      size = sym long ∙ a.size;
    }

-- ---- the lines of a text

-- a text of which some lines are read, laid out, and drafted
pub record Drafting (text : List ℕ) (r : Reading) (plan : Layout) (bytes : List ℕ) (left : List LeftStatement) : Type 0 where
  pub kept : List KeptStatement
  pub laid : Laid text r plan kept
  pub draft : IsDraft plan.labels plan.place kept bytes left

pub line_drafted : (text : List ℕ) (r s : Reading) (plan new : Layout) (known : List Label) (place : ℕ) (old bytes : List ℕ) (left more : List LeftStatement) (line : SourceLine) (n : ℕ)
    → NextLine r (Ok (Some line)) s → AreLabelNames line.labels → line_layout plan line ≡ Ok new → n ≡ r.number → place ≡ plan.place → known ≡ new.labels
    → Drafts known place old bytes left more (kept_of n (option_map (λ s. s.meaning) line.statement)) → Drafting text r plan old left → Drafting text s new bytes more
line_drafted text r s plan new known place old bytes left more line n step names h number at same q d =
    let more_kept : List KeptStatement = kept_of n (option_map (λ s. s.meaning) line.statement) in
    record {
      kept = d.kept ++ more_kept;
      laid = text_line_laid text r s plan new d.kept (d.kept ++ more_kept) line n (option_map (λ s. s.meaning) line.statement) step names h number refl refl d.laid;
      draft =
          draft_more plan new line n d.kept old bytes left more h d.draft
          (subst (λ (i : ℕ). Drafts new.labels i old bytes left more more_kept) at (subst (λ (ls : List Label). Drafts ls place old bytes left more more_kept) same q));
    }

pub all_drafted : (text : List ℕ) (r s : Reading) (plan : Layout) (bytes : List ℕ) (left : List LeftStatement) → NextLine r (Ok None) s → Drafting text r plan bytes left → IsDrafted text plan bytes left
all_drafted text r s plan bytes left step d = record { kept = d.kept; laid = all_laid text r s plan d.kept step d.laid; draft = d.draft }
