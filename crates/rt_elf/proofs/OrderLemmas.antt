-- What the bytes and the size of an image depend on.
use Rattle.rt_elf.proofs.Common.{◌≡◌, ℕ, zero, suc, ◌-◌, ◌+◌, ◌≤◌, ◌<◌, ◌&&◌, not, Bool, true, false, List, [], ◌∷◌, length, get_or, None, inl, inr, refl, sym, ap, subst, ◌∙◌, arith, true≢false, ltb-true, lt-ltb, ◌⊎◌, Contains, cond, max, slice_index, if◌then◌else◌, nat_lt, nat_le, filter, flat_map, list_any, same_lists, places, and_parts, and_left, or_parts, both_true, base, ProgramHeader, numbered, program_headers, is_segment, is_load, load_end, has_bytes, loads, share, overlap, reach, greatest_reach, byte_for, image_size, first, kind_rows, program_rows, table_rows, header_rows, image_rows, refusal}
use Rattle.std.specs.Prelude.{slice_range}
use Rattle.std.proofs.lemmas.Bool.{or_left, or_right, leb-true}
use Rattle.rt_elf.specs.declared.fault.ElfFault.TheVariants.{Empty, Overlap}
use Rattle.rt_elf.specs.SameHeaders.{segment_bytes, AreReordered}
use Rattle.std.specs.List.Sorted.{IsPermutation}
use Rattle.std.proofs.lemmas.List.Sorted.{Contains-permutation, IsPermutation-sym}
use Rattle.rt_elf.specs.LoadedImage.{loaded}
use Rattle.rt_elf.specs.OneSegment.{IsFlat}
use Rattle.rt_elf.proofs.ImageLemmas.{length-numbered, get_or-numbered, both_none, header_fits, loads_in, read_part, row_parts}
use Rattle.rt_elf.proofs.RefusalLemmas.{at_kind, from_program, from_table, from_headers, from_image, from_sections}
use Rattle.rt_elf.proofs.ToldLemmas.{later, first_one, first_or_later, none_there}

-- a file that isn't refused has no row of a header that applies
pub headers_none : (file : List ℕ) → refusal file ≡ None → first (flat_map (header_rows file) (program_headers file)) ≡ None
headers_none file none =
    let one = both_none (kind_rows file) (from_program file) (sym (at_kind file) ∙ none) in
    let two = both_none (program_rows file) (from_table file) one.1 in
    let three = both_none (table_rows file) (from_headers file) two.1 in
    (both_none (flat_map (header_rows file) (program_headers file)) (from_image file) three.1).0

-- what is no segment has no part in the image
no_reach : (h : ProgramHeader) → is_segment h ≡ false → reach h ≡ 0
no_reach h none = rw none refl

segments_reach : (hs : List ProgramHeader) → greatest_reach hs ≡ greatest_reach (filter is_segment hs)
segments_reach [] = refl
segments_reach (h ∷ hs) = by (is_segment h) refl (segments_reach hs)
  where
    by : (b : Bool) → is_segment h ≡ b → greatest_reach hs ≡ greatest_reach (filter is_segment hs) → greatest_reach (h ∷ hs) ≡ greatest_reach (cond b (h ∷ filter is_segment hs) (filter is_segment hs))
    by true is again = ap (max (reach h)) again
    by false is again = (let none = no_reach h is in omega arith)

not_loaded : (h : ProgramHeader) (a : ℕ) → is_segment h ≡ false → loads h a ≡ false
not_loaded h a none = and_left (has_bytes h && nat_le h.paddr a) (nat_lt a (load_end h)) (and_left (has_bytes h) (nat_le h.paddr a) (and_left (is_segment h) (nat_lt 0 h.filesz) none))

segments_bytes : (file : List ℕ) (hs : List ProgramHeader) (a : ℕ) → byte_for file hs a ≡ byte_for file (filter is_segment hs) a
segments_bytes file [] a = refl
segments_bytes file (h ∷ hs) a = by (is_segment h) refl (segments_bytes file hs a)
  where
    by : (b : Bool) → is_segment h ≡ b → byte_for file hs a ≡ byte_for file (filter is_segment hs) a → byte_for file (h ∷ hs) a ≡ byte_for file (cond b (h ∷ filter is_segment hs) (filter is_segment hs)) a
    by true is again = ap (λ (b : ℕ). if loads h a then slice_index file (h.offset + (a - h.paddr)) else b) again
    by false is again = rw (not_loaded h a is) again

-- the rows of a segment are among those of all headers
segment_rows : (file : List ℕ) (hs : List ProgramHeader) (h : ProgramHeader) (rest : List ProgramHeader) → filter is_segment hs ≡ h ∷ rest → first (flat_map (header_rows file) hs) ≡ None → (first (header_rows file h) ≡ None) × (is_segment h ≡ true)
segment_rows file [] h rest is none = absurd cc
segment_rows file (g ∷ hs) h rest is none = by (is_segment g) refl is (both_none (header_rows file g) (flat_map (header_rows file) hs) none) (segment_rows file hs h rest)
  where
    by : (b : Bool) → is_segment g ≡ b → cond b (g ∷ filter is_segment hs) (filter is_segment hs) ≡ h ∷ rest → (first (header_rows file g) ≡ None) × (first (flat_map (header_rows file) hs) ≡ None)
        → (filter is_segment hs ≡ h ∷ rest → first (flat_map (header_rows file) hs) ≡ None → (first (header_rows file h) ≡ None) × (is_segment h ≡ true)) → (first (header_rows file h) ≡ None) × (is_segment h ≡ true)
    by true seg is parts again = (let same : g ≡ h = cc in subst (λ (x : ProgramHeader). (first (header_rows file x) ≡ None) × (is_segment x ≡ true)) same (parts.0, seg))
    by false seg is parts again = again is parts.1

some_bytes : (h : ProgramHeader) → is_segment h ≡ true → h.filesz ≡ h.memsz → has_bytes h ≡ true
some_bytes h seg whole = (let some = (and_parts (is_load h) (nat_lt 0 h.memsz) seg).1 in both_true seg (ap (nat_lt 0) whole ∙ some))

flat_reach : (h : ProgramHeader) → has_bytes h ≡ true → is_segment h ≡ true → h.paddr ≡ base → h.vaddr ≡ base → h.filesz ≡ h.memsz → max (reach h) 0 - base ≡ h.filesz
flat_reach h some seg load run whole = rw (some, seg) (omega arith)

flat_size : (file : List ℕ) (h : ProgramHeader) → IsFlat file h → is_segment h ≡ true → image_size file ≡ h.filesz
flat_size file h flat seg =
    ap (λ (n : ℕ). n - base) (segments_reach (program_headers file) ∙ ap greatest_reach flat.alone)
    ∙ flat_reach h (some_bytes h seg flat.whole) seg flat.loaded flat.runs flat.whole

part_byte : (file : List ℕ) (at size j k : ℕ) (d : ℕ) → at + size ≤ length file → j < size → k ≡ at + j → slice_index file k ≡ get_or (slice_range file at (at + size)) j d
part_byte file at size j k d whole low same = grind (arith, places)

part_length : (file : List ℕ) (at size : ℕ) → at + size ≤ length file → length (slice_range file at (at + size)) ≡ size
part_length file at size whole = grind (arith, places)

flat_byte : (file : List ℕ) (h : ProgramHeader) (j d : ℕ) → has_bytes h ≡ true → h.paddr ≡ base → h.offset + h.filesz ≤ length file → j < h.filesz
    → byte_for file (h ∷ []) (base + j) ≡ get_or (slice_range file h.offset (h.offset + h.filesz)) j d
flat_byte file h j d some load whole low =
    rw (loads_in h (base + j) some (omega arith) (omega arith)) (part_byte file h.offset h.filesz j (h.offset + (base + j - h.paddr)) d whole low (omega arith))

pub flat_image : (file : List ℕ) (h : ProgramHeader) → refusal file ≡ None → IsFlat file h → loaded file ≡ slice_range file h.offset (h.offset + h.filesz)
flat_image file h none flat =
    let rows = segment_rows file (program_headers file) h [] flat.alone (headers_none file none) in
    let some = some_bytes h rows.1 flat.whole in
    let placed = header_fits file h rows.0 some in
    let sized = flat_size file h flat rows.1 in
    let len = length-numbered (byte_for file (program_headers file)) base (image_size file) in
    same_lists (loaded file) (slice_range file h.offset (h.offset + h.filesz)) (len ∙ sized ∙ sym (part_length file h.offset h.filesz placed.whole))
    (λ j d low.
    let here : j < h.filesz = omega (arith, len, sized) in
    get_or-numbered (byte_for file (program_headers file)) base (image_size file) j d (omega (arith, sized))
    ∙ segments_bytes file (program_headers file) (base + j) ∙ ap (λ hs. byte_for file hs (base + j)) flat.alone
    ∙ flat_byte file h j d some flat.loaded placed.whole here)

-- the headers of a file that isn't refused share no address
apart_headers : (file : List ℕ) → refusal file ≡ None → overlap (program_headers file) ≡ false
apart_headers file none =
    let one = both_none (kind_rows file) (from_program file) (sym (at_kind file) ∙ none) in
    let two = both_none (program_rows file) (from_table file) one.1 in
    let three = both_none (table_rows file) (from_headers file) two.1 in
    let four = both_none (flat_map (header_rows file) (program_headers file)) (from_image file) three.1 in
    let five = both_none (image_rows (program_headers file)) (from_sections file) four.1 in
    let six = row_parts (not (list_any has_bytes (program_headers file)), Empty) ((overlap (program_headers file), Overlap) ∷ []) five.0 in
    (row_parts (overlap (program_headers file), Overlap) [] six.1).0

any_there : {X : Type 0} → (p : X → Bool) (xs : List X) (x : X) → Contains xs x → p x ≡ true → list_any p xs ≡ true
any_there p [] x c passes = absurd (none_there x c)
any_there p (y ∷ xs) x c passes = elim (first_or_later y xs x c) [
  | inl same ↦ or_left (p y) (list_any p xs) (ap p same ∙ passes)
  | inr behind ↦ or_right (p y) (list_any p xs) (any_there p xs x behind passes)
]

share_one : (g h : ProgramHeader) (a : ℕ) → loads g a ≡ true → loads h a ≡ true → share g h ≡ true
share_one g h a one two =
    let x = and_parts (has_bytes g && nat_le g.paddr a) (nat_lt a (load_end g)) one in
    let y = and_parts (has_bytes h && nat_le h.paddr a) (nat_lt a (load_end h)) two in
    let p = and_parts (has_bytes g) (nat_le g.paddr a) x.0 in
    let q = and_parts (has_bytes h) (nat_le h.paddr a) y.0 in
    let gl = leb-true g.paddr a p.1 in
    let hl = leb-true h.paddr a q.1 in
    let ge = ltb-true a (load_end g) x.1 in
    let he = ltb-true a (load_end h) y.1 in
    both_true (both_true (both_true p.0 q.0) (lt-ltb g.paddr (load_end h) (omega arith))) (lt-ltb h.paddr (load_end g) (omega arith))

-- the one segment that is loaded to an address has its byte
one_byte : (file : List ℕ) (hs : List ProgramHeader) (h : ProgramHeader) (a : ℕ) → overlap hs ≡ false → Contains hs h → loads h a ≡ true → byte_for file hs a ≡ slice_index file (h.offset + (a - h.paddr))
one_byte file [] h a apart c here = absurd (none_there h c)
one_byte file (g ∷ hs) h a apart c here = by (loads g a) refl (first_or_later g hs h c) (or_parts (list_any (share g) hs) (overlap hs) apart) (λ behind others. one_byte file hs h a others behind here)
  where
    by : (b : Bool) → loads g a ≡ b → (g ≡ h) ⊎ Contains hs h → (list_any (share g) hs ≡ false) × (overlap hs ≡ false)
        → (Contains hs h → overlap hs ≡ false → byte_for file hs a ≡ slice_index file (h.offset + (a - h.paddr)))
        → (if b then slice_index file (g.offset + (a - g.paddr)) else byte_for file hs a) ≡ slice_index file (h.offset + (a - h.paddr))
    by true is (inl same) parts again = ap (λ (x : ProgramHeader). slice_index file (x.offset + (a - x.paddr))) same
    by true is (inr behind) parts again = absurd (true≢false (sym (any_there (share g) hs h behind (share_one g h a is here)) ∙ parts.0))
    by false is (inl same) parts again = absurd (true≢false (sym here ∙ sym (ap (λ (x : ProgramHeader). loads x a) same) ∙ is))
    by false is (inr behind) parts again = again behind parts.1

no_byte : (file : List ℕ) (hs : List ProgramHeader) (a : ℕ) → ((h : ProgramHeader) → Contains hs h → loads h a ≡ false) → byte_for file hs a ≡ 0
no_byte file [] a none = refl
no_byte file (h ∷ hs) a none = rw (none h (first_one h hs)) (no_byte file hs a (λ g c. none g (later h hs g c)))

loads_or_not : (hs : List ProgramHeader) (a : ℕ) → ((h : ProgramHeader) × Contains hs h × (loads h a ≡ true)) ⊎ ((h : ProgramHeader) → Contains hs h → loads h a ≡ false)
loads_or_not [] a = inr (λ h c. absurd (none_there h c))
loads_or_not (g ∷ hs) a = by (loads g a) refl (loads_or_not hs a)
  where
    by : (b : Bool) → loads g a ≡ b → ((h : ProgramHeader) × Contains hs h × (loads h a ≡ true)) ⊎ ((h : ProgramHeader) → Contains hs h → loads h a ≡ false)
        → ((h : ProgramHeader) × Contains (g ∷ hs) h × (loads h a ≡ true)) ⊎ ((h : ProgramHeader) → Contains (g ∷ hs) h → loads h a ≡ false)
    by true is others = inl (g, first_one g hs, is)
    by false is (inl found) = inl (found.0, later g hs found.0 found.1, found.2)
    by false is (inr none) = inr (λ h c. elim (first_or_later g hs h c) [
      | inl same ↦ subst (λ (x : ProgramHeader). loads x a ≡ false) same is
      | inr behind ↦ none h behind
    ])

reach_there : (hs : List ProgramHeader) (h : ProgramHeader) → Contains hs h → reach h ≤ greatest_reach hs
reach_there [] h c = absurd (none_there h c)
reach_there (g ∷ hs) h c = elim (first_or_later g hs h c) [
  | inl same ↦ subst (λ (x : ProgramHeader). reach x ≤ greatest_reach (g ∷ hs)) same (omega arith)
  | inr behind ↦ (let again = reach_there hs h behind in omega arith)
]

reach_bound : (hs : List ProgramHeader) (m : ℕ) → ((h : ProgramHeader) → Contains hs h → reach h ≤ m) → greatest_reach hs ≤ m
reach_bound [] m all = omega arith
reach_bound (h ∷ hs) m all =
    let one = all h (first_one h hs) in
    let others = reach_bound hs m (λ g c. all g (later h hs g c)) in
    omega arith

same_reach : (hs gs : List ProgramHeader) → IsPermutation hs gs → greatest_reach hs ≡ greatest_reach gs
same_reach hs gs p =
    let one = reach_bound hs (greatest_reach gs) (λ h c. reach_there gs h (Contains-permutation hs gs h p c)) in
    let two = reach_bound gs (greatest_reach hs) (λ h c. reach_there hs h (Contains-permutation gs hs h (IsPermutation-sym hs gs p) c)) in
    omega arith

loaded_part : (f g : List ℕ) (h : ProgramHeader) (a : ℕ) → segment_bytes f h ≡ segment_bytes g h → loads h a ≡ true → slice_index f (h.offset + (a - h.paddr)) ≡ slice_index g (h.offset + (a - h.paddr))
loaded_part f g h a same here =
    let x = and_parts (has_bytes h && nat_le h.paddr a) (nat_lt a (load_end h)) here in
    let p = and_parts (has_bytes h) (nat_le h.paddr a) x.0 in
    let low = leb-true h.paddr a p.1 in
    let high = ltb-true a (load_end h) x.1 in
    let inside : a - h.paddr < h.filesz = omega arith in
    sym (read_part f h.offset h.filesz (a - h.paddr) (a - h.paddr) refl inside) ∙ ap (λ (bs : List ℕ). get_or bs (a - h.paddr) 0) same ∙ read_part g h.offset h.filesz (a - h.paddr) (a - h.paddr) refl inside

same_byte : (f g : List ℕ) (a : ℕ) → AreReordered f g → refusal f ≡ None → refusal g ≡ None → byte_for f (program_headers f) a ≡ byte_for g (program_headers g) a
same_byte f g a re one two = elim (loads_or_not (program_headers f) a) [
  | inl found ↦
      one_byte f (program_headers f) found.0 a (apart_headers f one) found.1 found.2
      ∙ loaded_part f g found.0 a (re.bytes found.0 found.1 (and_parts (has_bytes found.0) (nat_le found.0.paddr a) (and_parts (has_bytes found.0 && nat_le found.0.paddr a) (nat_lt a (load_end found.0)) found.2).0).0) found.2
      ∙ sym (one_byte g (program_headers g) found.0 a (apart_headers g two) (Contains-permutation (program_headers f) (program_headers g) found.0 re.headers found.1) found.2)
  | inr none ↦ no_byte f (program_headers f) a none
      ∙ sym (no_byte g (program_headers g) a (λ h c. none h (Contains-permutation (program_headers g) (program_headers f) h (IsPermutation-sym (program_headers f) (program_headers g) re.headers) c)))
]

pub numbered_same : {X : Type 0} → (p q : ℕ → X) (k n : ℕ) → ((j : ℕ) → k ≤ j → j < k + n → p j ≡ q j) → numbered p k n ≡ numbered q k n
numbered_same p q k zero same = refl
numbered_same p q k (suc n) same =
    ap (λ x. x ∷ numbered p (k + 1) n) (same k (omega arith) (omega arith)) ∙ ap (λ xs. q k ∷ xs) (numbered_same p q (k + 1) n (λ j low high. same j (omega arith) (omega arith)))

pub any_order : (f g : List ℕ) → AreReordered f g → refusal f ≡ None → refusal g ≡ None → loaded f ≡ loaded g
any_order f g re one two =
    numbered_same (byte_for f (program_headers f)) (byte_for g (program_headers g)) base (image_size f) (λ a low high. same_byte f g a re one two)
    ∙ ap (λ (n : ℕ). numbered (byte_for g (program_headers g)) base (n - base)) (same_reach (program_headers f) (program_headers g) re.headers)
