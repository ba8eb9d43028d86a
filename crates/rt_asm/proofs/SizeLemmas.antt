-- The code of a statement takes as many bytes as its size says.
use Rattle.rt_asm.proofs.Common.{◌≡◌, ℕ, suc, ℤ, ◌+◌, ◌-◌, ◌*◌, ◌%◌, ◌^◌, ◌≤◌, List, [], ◌∷◌, ◌++◌, length, Result, Ok, Err, Bool, true, false, Option, Some, None, refl, sym, ap, ◌∙◌, arith, length-append, if◌then◌else◌, ints, little_bytes, signed, Ins, Label, SourceStatement, Meaning, Code, Instructions, Data, code_of, statement_code, IsCode, code_size, statement_size, ◌>>=◌, mapped, AsmKind}
use Rattle.std.proofs.Common.{zero, ◌/◌, IfOk}
use Rattle.std.specs.Prelude.{min, replicate, ◌==◌}
use Rattle.std.specs.List.{flat_map}
use Rattle.std.proofs.lemmas.List.{length-replicate}
use Rattle.rt_isa.specs.declared.instruction.Ins.TheVariants.{Jal}
use Rattle.rt_text.specs.declared.meaning.Meaning.TheVariants as meaning
use Rattle.rt_text.specs.declared.meaning.Operation.{Operation}
use Rattle.rt_text.specs.declared.meaning.Operation.TheVariants as operation
use Rattle.rt_text.specs.declared.meaning.Transfer.{Transfer}
use Rattle.rt_text.specs.declared.meaning.Transfer.TheVariants as transfer
use Rattle.rt_text.specs.declared.meaning.Directive.{Directive}
use Rattle.rt_text.specs.declared.meaning.Directive.TheVariants as directive
use Rattle.rt_text.specs.declared.operations.JumpOp.{JumpOp}
use Rattle.rt_text.specs.declared.operations.JumpOp.TheVariants as jumps
use Rattle.rt_asm.specs.Code.{AreWords}
use Rattle.rt_asm.specs.Data.{each_item, byte_item, half_item, word_item, gap, padding, zero_count, alignment, end_of_text, data_of}
use Rattle.rt_asm.specs.Labels.{address_of}
use Rattle.rt_asm.specs.Ranges.{within, branches, jumps as jump_range, bytes as byte_range, halves}
use Rattle.rt_asm.specs.declared.ranges.Range.{Range}
use Rattle.rt_asm.specs.Operations.{operation_code}
use Rattle.rt_asm.specs.Rows.{branch, zero_branch}
use Rattle.rt_asm.specs.Size.{operation_size, jump_size, transfer_size, directive_size, size_of}
use Rattle.rt_asm.specs.Transfers.{distance_to, over, branch_over, jump_over, jump_to, transfer_code}
use Rattle.rt_asm.specs.declared.fault.AsmKind.TheVariants.{OddTarget}

-- what was found, with no fault
abbrev found : {X : Type 0} → X → Result X AsmKind
found x = Ok x

one_of : (x : Ins) (xs : List Ins) → found (x ∷ []) ≡ Ok xs → 4 ≡ 4 * length xs
one_of x xs h = let e : x ∷ [] ≡ xs = cc in ap (λ (l : List Ins). 4 * length l) e

one_each : {A : Type 0} (f : A → Ins) (r : Result A AsmKind) (xs : List Ins) → mapped (λ i. f i ∷ []) r ≡ Ok xs → 4 ≡ 4 * length xs
one_each f (Ok i) xs h = one_of (f i) xs h
one_each f (Err k) xs h = cc

two_of : (x y : Ins) (xs : List Ins) → found (x ∷ y ∷ []) ≡ Ok xs → 8 ≡ 4 * length xs
two_of x y xs h = let e : x ∷ y ∷ [] ≡ xs = cc in ap (λ (l : List Ins). 4 * length l) e

two_each : {A : Type 0} (f g : A → Ins) (r : Result A AsmKind) (xs : List Ins) → mapped (λ i. f i ∷ g i ∷ []) r ≡ Ok xs → 8 ≡ 4 * length xs
two_each f g (Ok i) xs h = two_of (f i) (g i) xs h
two_each f g (Err k) xs h = cc

-- an instruction of one row, or of more: what its size says
operation_len : (o : Operation) (xs : List Ins) → operation_code o ≡ Ok xs → operation_size o ≡ 4 * length xs
operation_len (operation.Upper op d n) xs h = one_each _ _ xs h
operation_len (operation.LoadNumber d n) xs h = cc
operation_len (operation.Immediate op d a n) xs h = one_each _ _ xs h
operation_len (operation.Shift op d a n) xs h = one_each _ _ xs h
operation_len (operation.Register op d a b) xs h = one_of _ xs h
operation_len (operation.Unary op d a) xs h = one_of _ xs h
operation_len (operation.Load op d m) xs h = one_each _ _ xs h
operation_len (operation.Store op b m) xs h = one_each _ _ xs h

over_len : (range : Range) (make : ℤ → Ins) (n : ℕ) (xs : List Ins) → over range make n ≡ Ok xs → 4 ≡ 4 * length xs
over_len range make n xs h = by (within range (signed 32 n)) (n % 2 == 0) h
  where
    by : (r : Result ℤ AsmKind) (b : Bool) → ◌>>=◌ r (λ i. if b then Ok (make i ∷ []) else Err OddTarget) ≡ Ok xs → 4 ≡ 4 * length xs
    by (Ok i) true e = one_of (make i) xs e
    by (Ok i) false e = cc
    by (Err k) b e = cc

-- what follows a distance
after_distance : (r : Result ℕ AsmKind) (f : ℕ → Result (List Ins) AsmKind) (size : ℕ) (xs : List Ins) → ((n : ℕ) → f n ≡ Ok xs → size ≡ 4 * length xs)
    → ◌>>=◌ r f ≡ Ok xs → size ≡ 4 * length xs
after_distance (Ok n) f size xs each h = each n h
after_distance (Err k) f size xs each h = cc

jump_len : (op : JumpOp) (n : ℕ) (xs : List Ins) → jump_to op n ≡ Ok xs → jump_size op ≡ 4 * length xs
jump_len jumps.J n xs h = over_len jump_range (λ i. Jal 0 i) n xs h
jump_len jumps.Jal n xs h = over_len jump_range (λ i. Jal 1 i) n xs h
jump_len jumps.Call n xs h = two_of _ _ xs h
jump_len jumps.Tail n xs h = two_of _ _ xs h

transfer_len : (labels : List Label) (place : ℕ) (t : Transfer) (xs : List Ins) → transfer_code labels place t ≡ Ok xs → transfer_size t ≡ 4 * length xs
transfer_len labels place (transfer.JumpAndLink d t) xs h = after_distance (distance_to labels place t) (jump_over (λ i. Jal d i)) 4 xs (λ n e. over_len jump_range (λ i. Jal d i) n xs e) h
transfer_len labels place (transfer.JumpAndLinkRegister d m) xs h = one_each _ _ xs h
transfer_len labels place (transfer.Branch op a b t) xs h = after_distance (distance_to labels place t) (branch_over (λ i. branch op a b i)) 4 xs (λ n e. over_len branches (λ i. branch op a b i) n xs e) h
transfer_len labels place (transfer.ZeroBranch op a t) xs h = after_distance (distance_to labels place t) (branch_over (λ i. zero_branch op a i)) 4 xs (λ n e. over_len branches (λ i. zero_branch op a i) n xs e) h
transfer_len labels place (transfer.JumpTo op t) xs h = after_distance (distance_to labels place t) _ (jump_size op) xs (λ n e. jump_len op n xs e) h
transfer_len labels place (transfer.JumpRegister op a) xs h = one_of _ xs h
transfer_len labels place (transfer.LoadAddress d t) xs h = two_each _ _ (distance_to labels place t) xs h

-- up to the next multiple: as many bytes as that is away
gap_len : (power place : ℕ) → power ≤ 12 → min (gap 4 place) (gap (2 ^ power) place) + 4 * ((gap (2 ^ power) place - gap 4 place) / 4) ≡ gap (2 ^ power) place
gap_len zero place h = omega arith
gap_len (suc zero) place h = omega arith
gap_len (suc (suc zero)) place h = omega arith
gap_len (suc (suc (suc zero))) place h = omega arith
gap_len (suc (suc (suc (suc zero)))) place h = omega arith
gap_len (suc (suc (suc (suc (suc zero))))) place h = omega arith
gap_len (suc (suc (suc (suc (suc (suc zero)))))) place h = omega arith
gap_len (suc (suc (suc (suc (suc (suc (suc zero))))))) place h = omega arith
gap_len (suc (suc (suc (suc (suc (suc (suc (suc zero)))))))) place h = omega arith
gap_len (suc (suc (suc (suc (suc (suc (suc (suc (suc zero))))))))) place h = omega arith
gap_len (suc (suc (suc (suc (suc (suc (suc (suc (suc (suc zero)))))))))) place h = omega arith
gap_len (suc (suc (suc (suc (suc (suc (suc (suc (suc (suc (suc zero))))))))))) place h = omega arith
gap_len (suc (suc (suc (suc (suc (suc (suc (suc (suc (suc (suc (suc zero)))))))))))) place h = omega arith
gap_len (suc (suc (suc (suc (suc (suc (suc (suc (suc (suc (suc (suc (suc n))))))))))))) place h = absurd (omega arith)

nops_len : (n : ℕ) → length (flat_map (little_bytes 4) (replicate n 0x13)) ≡ 4 * n
nops_len zero = refl
nops_len (suc n) = omega (arith, nops_len n)

padding_len : (power place : ℕ) → power ≤ 12 → length (padding power place) ≡ gap (2 ^ power) place
padding_len power place h =
    length-append (replicate (min (gap 4 place) (gap (2 ^ power) place)) 0) _
    ∙ (omega (arith, length-replicate {A = ℕ} (min (gap 4 place) (gap (2 ^ power) place)) 0, nops_len ((gap (2 ^ power) place - gap 4 place) / 4), gap_len power place h))

-- items of k bytes each
items_len : {A : Type 0} (k : ℕ) (f : A → Result (List ℕ) AsmKind) → ((x : A) (bytes : List ℕ) → f x ≡ Ok bytes → length bytes ≡ k)
    → (xs : List A) (bytes : List ℕ) → each_item f xs ≡ Ok bytes → k * length xs ≡ length bytes
items_len k f one [] bytes h = let e : [] ≡ bytes = cc in omega (arith, ap length e)
items_len k f one (x ∷ xs) bytes h = by (f x) (each_item f xs) refl (λ rest e. items_len k f one xs rest e) h
  where
    by : (r : Result (List ℕ) AsmKind) (s : Result (List ℕ) AsmKind) → f x ≡ r → ((rest : List ℕ) → s ≡ Ok rest → k * length xs ≡ length rest)
        → ◌>>=◌ r (λ here. mapped (λ rest. here ++ rest) s) ≡ Ok bytes → k * suc (length xs) ≡ length bytes
    by (Ok here) (Ok rest) a b e =
        let q : here ++ rest ≡ bytes = cc in
        omega (arith, ap length q, length-append here rest, one x here a, b rest refl)
    by (Ok here) (Err i) a b e = cc
    by (Err i) s a b e = cc

number_len : {A : Type 0} (k : ℕ) (f : A → List ℕ) → ((x : A) → length (f x) ≡ k) → (r : Result A AsmKind) (bytes : List ℕ) → mapped f r ≡ Ok bytes → length bytes ≡ k
number_len k f each (Ok x) bytes h = let e : bytes ≡ f x = cc in ap length e ∙ each x
number_len k f each (Err i) bytes h = cc

-- a power of 2 is at most 12
alignment_low : (n : ℤ) → IfOk (alignment n) (λ power. power ≤ 12)
alignment_low n = grind (arith, ints)

zero_len : (r : Result ℕ AsmKind) (bytes : List ℕ) → mapped (λ count. replicate count 0) r ≡ Ok bytes → r ≡ Ok (length bytes)
zero_len (Ok count) bytes h = let e : replicate count 0 ≡ bytes = cc in ap Ok (sym (length-replicate count 0) ∙ ap length e)
zero_len (Err i) bytes h = cc

align_len : (n : ℤ) (place : ℕ) (bytes : List ℕ) → mapped (λ power. padding power place) (alignment n) ≡ Ok bytes → mapped (λ power. gap (2 ^ power) place) (alignment n) ≡ Ok (length bytes)
align_len n place bytes h = by (alignment n) (alignment_low n) h
  where
    by : (r : Result ℕ AsmKind) → IfOk r (λ power. power ≤ 12) → mapped (λ power. padding power place) r ≡ Ok bytes → mapped (λ power. gap (2 ^ power) place) r ≡ Ok (length bytes)
    by (Ok power) low e = let q : padding power place ≡ bytes = cc in ap Ok (sym (padding_len power place low) ∙ ap length q)
    by (Err i) low e = cc

directive_len : (labels : List Label) (place : ℕ) (d : Directive) (bytes : List ℕ) → data_of labels place d ≡ Ok bytes → directive_size place d ≡ Ok (length bytes)
directive_len labels place directive.Nothing bytes h = let e : [] ≡ bytes = cc in ap (λ (l : List ℕ). Ok (length l)) e
directive_len labels place (directive.Bytes ns) bytes h =
    ap Ok (omega (arith, items_len 1 byte_item (λ n b e. number_len 1 _ (λ i. refl) (within byte_range n) b e) ns bytes h))
directive_len labels place (directive.Halves ns) bytes h =
    ap Ok (items_len 2 half_item (λ n b e. number_len 2 _ (λ i. refl) (within halves n) b e) ns bytes h)
directive_len labels place (directive.Words ts) bytes h =
    ap Ok (items_len 4 (word_item labels) (λ t b e. number_len 4 _ (λ i. refl) (address_of labels t) b e) ts bytes h)
directive_len labels place (directive.Zero n) bytes h = zero_len (zero_count n) bytes h
directive_len labels place (directive.Align n) bytes h = align_len n place bytes h
directive_len labels place (directive.Text op text) bytes h =
    let e : text ++ end_of_text op ≡ bytes = cc in ap Ok (sym (length-append text (end_of_text op)) ∙ ap length e)

-- what comes of instructions, and of data
instructions_size : (r : Result (List Ins) AsmKind) (size : ℕ) → ((xs : List Ins) → r ≡ Ok xs → size ≡ 4 * length xs) → (code : Code) → mapped Instructions r ≡ Ok code → found size ≡ Ok (code_size code)
instructions_size (Ok xs) size each code h = let e : Instructions xs ≡ code = cc in ap Ok (each xs refl ∙ ap code_size e)
instructions_size (Err k) size each code h = cc

data_size : (r : Result (List ℕ) AsmKind) (size : Result ℕ AsmKind) → ((bytes : List ℕ) → r ≡ Ok bytes → size ≡ Ok (length bytes)) → (code : Code) → mapped Data r ≡ Ok code → size ≡ Ok (code_size code)
data_size (Ok bytes) size each code h = let e : Data bytes ≡ code = cc in each bytes refl ∙ ap (λ (c : Code). Ok (code_size c)) e
data_size (Err k) size each code h = cc

plain_size : (x : Ins) (code : Code) → found (Instructions (x ∷ [])) ≡ Ok code → found 4 ≡ Ok (code_size code)
plain_size x code h = let e : Instructions (x ∷ []) ≡ code = cc in ap (λ (c : Code). Ok (code_size c)) e

pub code_len : (labels : List Label) (place : ℕ) (m : Meaning) (code : Code) → code_of labels place m ≡ Ok code → size_of place m ≡ Ok (code_size code)
unfolding code_of
code_len labels place (meaning.Operation o) code h = instructions_size (operation_code o) _ (operation_len o) code h
code_len labels place (meaning.Transfer t) code h = instructions_size (transfer_code labels place t) _ (transfer_len labels place t) code h
code_len labels place (meaning.Fence before after) code h = plain_size _ code h
code_len labels place (meaning.Plain op) code h = plain_size _ code h
code_len labels place (meaning.Directive d) code h = data_size (data_of labels place d) _ (directive_len labels place d) code h

-- the size of a statement is that of its code
pub statement_len : (labels : List Label) (place : ℕ) (s : Option SourceStatement) (code : Code) → statement_code labels place s ≡ Ok code → statement_size place s ≡ Ok (code_size code)
statement_len labels place None code h = let e : Data [] ≡ code = cc in ap (λ (c : Code). Ok (code_size c)) e
statement_len labels place (Some s) code h = code_len labels place s.meaning code h

words_len : (xs : List Ins) (bytes : List ℕ) → AreWords xs bytes → length bytes ≡ 4 * length xs
words_len [] bytes h = ap length h
words_len (x ∷ xs) bytes h = omega (arith, ap length h.4, length-append (little_bytes 4 h.0) h.1, words_len xs h.1 h.5)

-- and that of its bytes
pub code_bytes : (code : Code) (bytes : List ℕ) → IsCode code bytes → length bytes ≡ code_size code
code_bytes (Instructions xs) bytes h = words_len xs bytes h
code_bytes (Data ds) bytes h = ap length h
