-- How an image is made of the segments of a file, from the last to the first.
use Rattle.rt_elf.proofs.Common.{◌≡◌, ℕ, zero, suc, ◌-◌, ◌+◌, ◌≤◌, ◌<◌, ◌&&◌, not, Bool, true, false, List, [], ◌∷◌, ◌++◌, length, get_or, None, inl, inr, subst, ltb-true, lt-ltb, refl, sym, ap, ◌∙◌, arith, true≢false, max, slice_index, if◌then◌else◌, nat_lt, nat_le, flat_map, same_lists, places, nat_tests, and_parts, and_right, both_true, base, ProgramHeader, numbered, e_phnum, program_header, program_headers, is_segment, is_load, load_end, has_bytes, loads, reach, greatest_reach, byte_for, image_size, Row, first, header_rows}
use Rattle.std.specs.Prelude.{replicate, slice_range}
use Rattle.std.proofs.lemmas.List.{get_or_default}
use Rattle.std.proofs.lemmas.Bool.{le-leb, cases_lt}
use borrow.Rule.Slice.PartMut.{put_mid}
use Rattle.std.proofs.Math.Nat.{eq-or-lt_of_le}
use Rattle.rt_words.specs.Limits.{ram_limit}
use Rattle.rt_elf.specs.declared.fault.ElfFault.TheVariants.{Dynamic, BadSegment, Truncated, OutsideRam}
use Rattle.rt_elf.specs.ProgramHeaders.{is_dynamic}
use Rattle.rt_elf.specs.Spans.{lies_in_ram}
use Rattle.rt_elf.specs.Working.Checks.{Lays}
use Rattle.rt_elf.proofs.NumberedLemmas.{numbered_first}

pub length-numbered : {X : Type 0} → (f : ℕ → X) (k n : ℕ) → length (numbered f k n) ≡ n
length-numbered f k zero = refl
length-numbered f k (suc n) = ap suc (length-numbered f (k + 1) n)

pub get_or-numbered : {X : Type 0} → (f : ℕ → X) (k n j : ℕ) (d : X) → j < n → get_or (numbered f k n) j d ≡ f (k + j)
get_or-numbered f k zero j d low = absurd (omega arith)
get_or-numbered f k (suc n) zero d low =
    let s : k ≡ k + 0 = omega arith in
    ap f s
get_or-numbered f k (suc n) (suc j) d low =
    let s : k + 1 + j ≡ k + suc j = omega arith in
    get_or-numbered f (k + 1) n j d (omega arith) ∙ ap f s

-- without segments
pub zeros : (file : List ℕ) (k n : ℕ) → replicate n 0 ≡ numbered (byte_for file []) k n
zeros file k zero = refl
zeros file k (suc n) = ap (λ (bs : List ℕ). 0 ∷ bs) (zeros file (k + 1) n)

-- one more segment
pub layer : (file : List ℕ) (h : ProgramHeader) (hs : List ProgramHeader) (n : ℕ) (old new : List ℕ) → Lays file h old new
    → old ≡ numbered (byte_for file hs) base n → new ≡ numbered (byte_for file (h ∷ hs)) base n
layer file h hs n old new lays was =
    let sized : length old ≡ n = ap length was ∙ length-numbered (byte_for file hs) base n in
    same_lists new (numbered (byte_for file (h ∷ hs)) base n) (lays.len ∙ sized ∙ sym (length-numbered (byte_for file (h ∷ hs)) base n))
    (λ j d low.
    let here : j < n = omega (arith, lays.len) in
    let before : get_or old j 0 ≡ byte_for file hs (base + j) = ap (λ (bs : List ℕ). get_or bs j 0) was ∙ get_or-numbered (byte_for file hs) base n j 0 here in
    get_or_default new j d 0 low ∙ lays.bytes j (omega (arith, lays.len))
    ∙ ap (λ (b : ℕ). if loads h (base + j) then slice_index file (h.offset + (base + j - h.paddr)) else b) before
    ∙ sym (get_or-numbered (byte_for file (h ∷ hs)) base n j d here))

pub layer_more : (file : List ℕ) (f : ℕ → ProgramHeader) (k m n : ℕ) (old new : List ℕ) → k < m → Lays file (f k) old new
    → old ≡ numbered (byte_for file (numbered f (k + 1) (m - (k + 1)))) base n → new ≡ numbered (byte_for file (numbered f k (m - k))) base n
layer_more file f k m n old new low lays was =
    layer file (f k) (numbered f (k + 1) (m - (k + 1))) n old new lays was ∙ ap (λ hs. numbered (byte_for file hs) base n) (sym (numbered_first f k m low))

-- a row that doesn't apply, and those behind it
pub row_parts : (row : Row) (rows : List Row) → first (row ∷ rows) ≡ None → (row.0 ≡ false) × (first rows ≡ None)
row_parts (true, fault) rows none = absurd cc
row_parts (false, fault) rows none = (refl, none)

pub both_none : (rows others : List Row) → first (rows ++ others) ≡ None → (first rows ≡ None) × (first others ≡ None)
both_none [] others none = (refl, none)
both_none ((true, fault) ∷ rows) others none = absurd cc
both_none ((false, fault) ∷ rows) others none = both_none rows others none

pub each_none : {X : Type 0} → (rows : X → List Row) (f : ℕ → X) (k n j : ℕ) → first (flat_map rows (numbered f k n)) ≡ None → k ≤ j → j < k + n → first (rows (f j)) ≡ None
each_none rows f k zero j none low high = absurd (omega arith)
each_none rows f k (suc n) j none low high =
    let parts = both_none (rows (f k)) (flat_map rows (numbered f (k + 1) n)) none in
    elim (eq-or-lt_of_le low) [
      | inl same ↦ subst (λ (i : ℕ). first (rows (f i)) ≡ None) same parts.0
      | inr later ↦ each_none rows f (k + 1) n j parts.1 (omega arith) (omega arith)
    ]

-- what the rows of a header leave
four_rows : (a b c d : Bool) → first ((a, Dynamic) ∷ (b, BadSegment) ∷ (c, Truncated) ∷ (d, OutsideRam) ∷ []) ≡ None → (c ≡ false) × (d ≡ false)
four_rows true b c d none = absurd cc
four_rows false true c d none = absurd cc
four_rows false false true d none = absurd cc
four_rows false false false true none = absurd cc
four_rows false false false false none = (refl, refl)

-- where a segment with bytes is loaded
pub record Placed (file : List ℕ) (h : ProgramHeader) : Type 0 where
  pub low : base ≤ h.paddr
  pub high : load_end h ≤ base + ram_limit
  pub whole : h.offset + h.filesz ≤ length file

not_cut : (some : Bool) (len end : ℕ) → some ≡ true → (some && nat_lt len end) ≡ false → end ≤ len
not_cut some len end there none = grind (arith, nat_tests)

within : (some load run : Bool) → some ≡ true → (some && not (load && run)) ≡ false → (load ≡ true) × (run ≡ true)
within true true true there none = (refl, refl)
within true true false there none = absurd (true≢false none)
within true false run there none = absurd (true≢false none)
within false load run there none = absurd (true≢false (sym there))

lies : (first size : ℕ) → lies_in_ram first size ≡ true → 0 < size → (base ≤ first) × (first + size ≤ base + ram_limit)
lies first size h some = (grind (arith, nat_tests), grind (arith, nat_tests))

pub header_fits : (file : List ℕ) (h : ProgramHeader) → first (header_rows file h) ≡ None → has_bytes h ≡ true → Placed file h
header_fits file h none some =
    let left = four_rows (is_dynamic h) (is_load h && nat_lt h.memsz h.filesz) (has_bytes h && nat_lt (length file) (h.offset + h.filesz)) (is_segment h && not (lies_in_ram h.paddr h.filesz && lies_in_ram h.vaddr h.memsz)) none in
    let parts = and_parts (is_segment h) (nat_lt 0 h.filesz) some in
    let inside = within (is_segment h) (lies_in_ram h.paddr h.filesz) (lies_in_ram h.vaddr h.memsz) parts.0 left.1 in
    let placed = lies h.paddr h.filesz inside.0 (ltb-true 0 h.filesz parts.1) in
    record { low = placed.0; high = placed.1; whole = not_cut (has_bytes h) (length file) (h.offset + h.filesz) some left.0 }

-- it ends within the image
reach_within : (h : ProgramHeader) → has_bytes h ≡ true → load_end h ≤ reach h
reach_within h some = rw some (omega arith)

pub reach_below : (f : ℕ → ProgramHeader) (k n j : ℕ) → k ≤ j → j < k + n → reach (f j) ≤ greatest_reach (numbered f k n)
reach_below f k zero j low high = absurd (omega arith)
reach_below f k (suc n) j low high =
    elim (eq-or-lt_of_le low) [
      | inl same ↦ subst (λ (i : ℕ). reach (f i) ≤ greatest_reach (numbered f k (suc n))) same (omega arith)
      | inr later ↦ (let again = reach_below f (k + 1) n j (omega arith) (omega arith) in omega arith)
    ]

pub header_ends : (file : List ℕ) (j : ℕ) → j < e_phnum file → has_bytes (program_header file j) ≡ true → base ≤ (program_header file j).paddr → load_end (program_header file j) ≤ base + image_size file
header_ends file j low some above =
    let here = reach_within (program_header file j) some in
    let below = reach_below (program_header file) 0 (e_phnum file) j (omega arith) (omega arith) in
    omega arith

-- one more reach
pub reach_more : (f : ℕ → ProgramHeader) (k n end all : ℕ) → k < n → all ≡ max end (greatest_reach (numbered f k (n - k))) → all ≡ max (max end (reach (f k))) (greatest_reach (numbered f (k + 1) (n - (k + 1))))
reach_more f k n end all low so_far =
    let one = so_far ∙ ap (λ hs. max end (greatest_reach hs)) (numbered_first f k n low) in
    omega (arith, one)

-- bytes that were copied into a part of an image
apart : (a k j : ℕ) (xs ys : List ℕ) → a + k ≤ length xs → length ys ≡ k → j < a → get_or (put_mid a k xs ys) j 0 ≡ get_or xs j 0
apart a k j xs ys room len low = grind (arith, places)

behind : (a k j : ℕ) (xs ys : List ℕ) → a + k ≤ length xs → length ys ≡ k → a + k ≤ j → get_or (put_mid a k xs ys) j 0 ≡ get_or xs j 0
behind a k j xs ys room len high = grind (arith, places)

inside : (a k j : ℕ) (xs ys : List ℕ) → a + k ≤ length xs → length ys ≡ k → a ≤ j → j < a + k → get_or (put_mid a k xs ys) j 0 ≡ get_or ys (j - a) 0
inside a k j xs ys room len low high = grind (arith, places)

pub read_part : (file : List ℕ) (at size i j : ℕ) → i ≡ j → i < size → get_or (slice_range file at (at + size)) i 0 ≡ get_or file (at + j) 0
read_part file at size i j same low = grind (arith, places)

put_len : (a k : ℕ) (xs ys : List ℕ) → a + k ≤ length xs → length ys ≡ k → length (put_mid a k xs ys) ≡ length xs
put_len a k xs ys room len = grind (arith, places)

loads_not : (some low high : Bool) → low ≡ false → (some && low && high) ≡ false
loads_not true low high e = rw e refl
loads_not false low high e = refl

loads_below : (h : ProgramHeader) (address : ℕ) → address < h.paddr → loads h address ≡ false
loads_below h address low = loads_not (has_bytes h) (nat_le h.paddr address) (nat_lt address (load_end h)) (grind (arith, nat_tests))

loads_behind : (h : ProgramHeader) (address : ℕ) → load_end h ≤ address → loads h address ≡ false
loads_behind h address high = and_right (has_bytes h && nat_le h.paddr address) (nat_lt address (load_end h)) (grind (arith, nat_tests))

pub loads_in : (h : ProgramHeader) (address : ℕ) → has_bytes h ≡ true → h.paddr ≤ address → address < load_end h → loads h address ≡ true
loads_in h address some low high = both_true (both_true some (le-leb h.paddr address low)) (lt-ltb address (load_end h) high)

laid_byte : (file : List ℕ) (h : ProgramHeader) (old part : List ℕ) (a k j : ℕ) → has_bytes h ≡ true → base + a ≡ h.paddr → k ≡ h.filesz → a + k ≤ length old → h.offset + h.filesz ≤ length file
    → part ≡ slice_range file h.offset (h.offset + h.filesz) → j < length old
    → get_or (put_mid a k old part) j 0 ≡ (if loads h (base + j) then get_or file (h.offset + (base + j - h.paddr)) 0 else get_or old j 0)
laid_byte file h old part a k j some at size room whole copied low =
    let len : length part ≡ k = ap length copied ∙ grind (arith, places) in
    elim (cases_lt j a) [
      | inl before ↦ rw (loads_below h (base + j) (omega arith)) (apart a k j old part room len before)
      | inr from ↦ elim (cases_lt j (a + k)) [
        | inl within ↦ rw (loads_in h (base + j) some (omega arith) (omega arith))
            (inside a k j old part room len from within ∙ ap (λ (bs : List ℕ). get_or bs (j - a) 0) copied ∙ read_part file h.offset h.filesz (j - a) (base + j - h.paddr) (omega arith) (omega arith))
        | inr after ↦ rw (loads_behind h (base + j) (omega arith)) (behind a k j old part room len after)
      ]
    ]

pub laid : (file : List ℕ) (h : ProgramHeader) (old part : List ℕ) → has_bytes h ≡ true → base ≤ h.paddr → load_end h ≤ base + length old → h.offset + h.filesz ≤ length file
    → part ≡ slice_range file h.offset (h.offset + h.filesz) → Lays file h old (put_mid (h.paddr - base) (h.paddr - base + h.filesz - (h.paddr - base)) old part)
laid file h old part some low high whole copied =
    let k : h.paddr - base + h.filesz - (h.paddr - base) ≡ h.filesz = omega arith in
    let len : length part ≡ h.filesz = ap length copied ∙ grind (arith, places) in
    rw k (record {
      len = put_len (h.paddr - base) h.filesz old part (omega arith) len;
      bytes = λ j inside. laid_byte file h old part (h.paddr - base) h.filesz j some (omega arith) refl (omega arith) whole copied inside;
    })

-- an image lies in the greatest RAM
span_ends : (first size : ℕ) → lies_in_ram first size ≡ true → 0 < size → first + size ≤ base + ram_limit
span_ends first size h some = (lies first size h some).1

loads_low : (a k b m : ℕ) → lies_in_ram a k ≡ true → lies_in_ram b m ≡ true → 0 < m → max (if nat_lt 0 k then a + k else 0) (b + m) ≤ base + ram_limit
loads_low a k b m one two some = by (nat_lt 0 k) refl (span_ends b m two some)
  where
    by : (t : Bool) → nat_lt 0 k ≡ t → b + m ≤ base + ram_limit → max (if t then a + k else 0) (b + m) ≤ base + ram_limit
    by true is run = (let load = span_ends a k one (ltb-true 0 k is) in omega arith)
    by false is run = omega arith

reach_fits : (file : List ℕ) (h : ProgramHeader) → first (header_rows file h) ≡ None → reach h ≤ base + ram_limit
reach_fits file h none =
    let left = four_rows (is_dynamic h) (is_load h && nat_lt h.memsz h.filesz) (has_bytes h && nat_lt (length file) (h.offset + h.filesz)) (is_segment h && not (lies_in_ram h.paddr h.filesz && lies_in_ram h.vaddr h.memsz)) none in
    by (is_segment h) refl left.1
  where
    by : (b : Bool) → is_segment h ≡ b → (b && not (lies_in_ram h.paddr h.filesz && lies_in_ram h.vaddr h.memsz)) ≡ false → reach h ≤ base + ram_limit
    by true is none =
        let inside = within true (lies_in_ram h.paddr h.filesz) (lies_in_ram h.vaddr h.memsz) refl none in
        rw is (loads_low h.paddr h.filesz h.vaddr h.memsz inside.0 inside.1 (ltb-true 0 h.memsz (and_parts (is_load h) (nat_lt 0 h.memsz) is).1))
    by false is none = rw is (omega arith)

all_fit : (file : List ℕ) (f : ℕ → ProgramHeader) (k n : ℕ) → first (flat_map (header_rows file) (numbered f k n)) ≡ None → greatest_reach (numbered f k n) ≤ base + ram_limit
all_fit file f k zero none = omega arith
all_fit file f k (suc n) none =
    let parts = both_none (header_rows file (f k)) (flat_map (header_rows file) (numbered f (k + 1) n)) none in
    let one = reach_fits file (f k) parts.0 in
    let others = all_fit file f (k + 1) n parts.1 in
    omega arith

pub small_image : (file : List ℕ) → first (flat_map (header_rows file) (program_headers file)) ≡ None → image_size file ≤ ram_limit
small_image file none =
    let all = all_fit file (program_header file) 0 (e_phnum file) none in
    omega arith
