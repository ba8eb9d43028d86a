-- What doesn't change with a byte that is never looked at.
use Rattle.rt_elf.proofs.Common.{◌≡◌, ℕ, zero, suc, ◌-◌, ◌+◌, ◌≤◌, ◌<◌, ◌&&◌, ◌||◌, not, Bool, true, false, List, [], ◌∷◌, ◌++◌, length, take, drop, get_or, Option, None, Some, inl, inr, refl, sym, ap, ◌∙◌, arith, ltb-true, Contains, slice_index, if◌then◌else◌, nat_lt, nat_le, ◌==◌, flat_map, list_any, find, fold, same_lists, places, length-take, and_parts, and_left, and_right, Named, base, ElfFault, ProgramHeader, SectionHeader, Entry, numbered, e_phnum, e_shnum, program_header, program_headers, is_load, is_segment, has_bytes, loads, load_end, greatest_reach, byte_for, image_size, section_header, is_symbol_table, symbol_table, contents, names_of, entry, entries, entry_count, kept_names, keep, Row, first, refusal, kind_rows, program_rows, table_rows, header_rows, image_rows, section_rows, symbol_rows, symbols_rows, kept_rows, lacks_name}
use Rattle.std.proofs.Common.{◌*◌, ◌/◌, ◌%◌}
use Rattle.std.specs.Prelude.{slice_set, nat_eq, min}
use Rattle.std.specs.List.{starts_with}
use Rattle.std.proofs.lemmas.List.{get_or_default, length-set, take-set-le, length-drop, get_or-take}
use Rattle.std.proofs.lemmas.Bool.{leb-true}
use Rattle.byteorder.specs.Endian.{little_from}
use Rattle.rt_elf.specs.declared.fault.ElfFault.TheVariants.{TooLarge, BadMagic, Truncated, Not32Bit, NotLittleEndian, NotRiscV, Relocatable, Shared, NotExecutable, Compressed, FloatAbi, OtherAbi, BadHeader, Dynamic, BadSegment, OutsideRam, BadSymbols, TooManySymbols}
use Rattle.rt_elf.specs.Fields.{number, class, byte_order, e_machine, e_entry, e_phoff, e_phentsize, e_shoff, e_shentsize}
use Rattle.rt_elf.specs.ProgramHeaders.{header_at, is_dynamic}
use Rattle.rt_elf.specs.Spans.{lies_in_ram}
use Rattle.rt_elf.specs.LoadedImage.{loaded}
use Rattle.rt_elf.specs.SymbolTable.{section_headers, has_sections, is_string_table, string_table}
use Rattle.rt_elf.specs.KeptNames.{kept_of, kept_of_table, nothing_kept}
use Rattle.rt_elf.specs.Telling.{all_told}
use Rattle.rt_elf.specs.flat.ElfMagic.{magic}
use Rattle.rt_elf.specs.Refusals.{file_limit, header_limit, entry_limit, is_unended}
use Rattle.rt_elf.specs.ElfObject.{object_of}
use Rattle.rt_elf.specs.Unread.{Outside, IsOutsideSection, IsOutsideEntry, IsOutsideSymbols, IsUnread}
use Rattle.rt_elf.proofs.OrderLemmas.{numbered_same}
use Rattle.rt_elf.proofs.ImageLemmas.{both_none}
use Rattle.rt_elf.proofs.RefusalLemmas.{at_kind, from_program, from_table, from_headers, from_image, from_sections, from_symbols, has_symbols}
use Rattle.rt_elf.proofs.ToldLemmas.{later, first_one}

byte_stays : (file : List ℕ) (place b at j : ℕ) → Outside place at (suc j) → get_or (drop at (slice_set file place b)) j 0 ≡ get_or (drop at file) j 0
byte_stays file place b at j (inl before) = grind (arith, places)
byte_stays file place b at j (inr behind) = grind (arith, places)

little_same : (xs ys : List ℕ) (i n : ℕ) → ((j : ℕ) → i ≤ j → j < i + n → slice_index xs j ≡ slice_index ys j) → little_from i n xs ≡ little_from i n ys
little_same xs ys i zero same = refl
little_same xs ys i (suc n) same =
    ap (λ (x : ℕ). x + 256 * little_from (suc i) n xs) (same i (omega arith) (omega arith))
    ∙ ap (λ (x : ℕ). slice_index ys i + 256 * x) (little_same xs ys (suc i) n (λ j low high. same j (omega arith) (omega arith)))

part_of : (place at n a m : ℕ) → Outside place a m → a ≤ at → at + n ≤ a + m → Outside place at n
part_of place at n a m (inl before) low high = inl (omega arith)
part_of place at n a m (inr behind) low high = inr (omega arith)

stays : (file : List ℕ) (place b at n : ℕ) → Outside place at n → number (slice_set file place b) at n ≡ number file at n
unfolding number
stays file place b at n out = little_same (drop at (slice_set file place b)) (drop at file) 0 n (λ j low high. byte_stays file place b at j (part_of place at (suc j) at n out (omega arith) (omega arith)))

stays_in : (file : List ℕ) (place b a m at n : ℕ) → Outside place a m → a ≤ at → at + n ≤ a + m → number (slice_set file place b) at n ≡ number file at n
stays_in file place b a m at n out low high = stays file place b at n (part_of place at n a m out low high)

-- a part of the file
part_len : (file : List ℕ) (place b at n : ℕ) → length (take n (drop at (slice_set file place b))) ≡ length (take n (drop at file))
part_len file place b at n =
    let same : length (drop at (slice_set file place b)) ≡ length (drop at file) = length-drop at (slice_set file place b) ∙ ap (λ (m : ℕ). m - at) (length-set file place b) ∙ sym (length-drop at file) in
    length-take n (drop at (slice_set file place b)) ∙ ap (min n) same ∙ sym (length-take n (drop at file))

part_byte_stays : (file : List ℕ) (place b at n j d : ℕ) → Outside place at n → j < n → j < length (take n (drop at (slice_set file place b))) → j < length (take n (drop at file))
    → get_or (take n (drop at (slice_set file place b))) j d ≡ get_or (take n (drop at file)) j d
part_byte_stays file place b at n j d out low one two =
    get_or_default (take n (drop at (slice_set file place b))) j d 0 one ∙ get_or-take n (drop at (slice_set file place b)) j 0 low
    ∙ byte_stays file place b at j (part_of place at (suc j) at n out (omega arith) (omega arith))
    ∙ sym (get_or-take n (drop at file) j 0 low) ∙ get_or_default (take n (drop at file)) j 0 d two

part_stays : (file : List ℕ) (place b at n : ℕ) → Outside place at n → take n (drop at (slice_set file place b)) ≡ take n (drop at file)
part_stays file place b at n out = same_lists (take n (drop at (slice_set file place b))) (take n (drop at file)) (part_len file place b at n)
    (λ j d low. part_byte_stays file place b at n j d out (omega (arith, length-take n (drop at (slice_set file place b)))) low (omega (arith, part_len file place b at n)))

-- the fields of the header
phoff_stays : (file : List ℕ) (place b : ℕ) → IsUnread file place → e_phoff (slice_set file place b) ≡ e_phoff file
phoff_stays file place b u = stays_in file place b 24 16 28 4 u.fields (omega arith) (omega arith)

phnum_stays : (file : List ℕ) (place b : ℕ) → IsUnread file place → e_phnum (slice_set file place b) ≡ e_phnum file
phnum_stays file place b u = stays_in file place b 42 8 44 2 u.sizes (omega arith) (omega arith)

shoff_stays : (file : List ℕ) (place b : ℕ) → IsUnread file place → e_shoff (slice_set file place b) ≡ e_shoff file
shoff_stays file place b u = stays_in file place b 24 16 32 4 u.fields (omega arith) (omega arith)

shnum_stays : (file : List ℕ) (place b : ℕ) → IsUnread file place → e_shnum (slice_set file place b) ≡ e_shnum file
shnum_stays file place b u = stays_in file place b 42 8 48 2 u.sizes (omega arith) (omega arith)

-- program headers
header_stays : (file : List ℕ) (place b at : ℕ) → Outside place at 24 → header_at (slice_set file place b) at ≡ header_at file at
unfolding header_at
header_stays file place b at out =
    rw (
      stays_in file place b at 24 at 4 out (omega arith) (omega arith),
      stays_in file place b at 24 (at + 4) 4 out (omega arith) (omega arith),
      stays_in file place b at 24 (at + 8) 4 out (omega arith) (omega arith),
      stays_in file place b at 24 (at + 12) 4 out (omega arith) (omega arith),
      stays_in file place b at 24 (at + 16) 4 out (omega arith) (omega arith),
      stays_in file place b at 24 (at + 20) 4 out (omega arith) (omega arith),
    ) refl

headers_stay : (file : List ℕ) (place b : ℕ) → IsUnread file place → program_headers (slice_set file place b) ≡ program_headers file
headers_stay file place b u =
    ap (numbered (program_header (slice_set file place b)) 0) (phnum_stays file place b u)
    ∙ numbered_same (program_header (slice_set file place b)) (program_header file) 0 (e_phnum file)
    (λ k low high. ap (λ (at : ℕ). header_at (slice_set file place b) (at + 32 * k)) (phoff_stays file place b u) ∙ header_stays file place b (e_phoff file + 32 * k) (u.headers k (omega arith)))

-- section headers
section_stays : (file : List ℕ) (place b k : ℕ) → e_shoff (slice_set file place b) ≡ e_shoff file → IsOutsideSection place (e_shoff file + 40 * k) → section_header (slice_set file place b) k ≡ section_header file k
unfolding section_header
section_stays file place b k same out =
    let at = e_shoff file + 40 * k in
    rw (
      same,
      stays file place b (at + 4) 4 out.kind,
      stays_in file place b (at + 16) 12 (at + 16) 4 out.contents (omega arith) (omega arith),
      stays_in file place b (at + 16) 12 (at + 20) 4 out.contents (omega arith) (omega arith),
      stays_in file place b (at + 16) 12 (at + 24) 4 out.contents (omega arith) (omega arith),
      stays file place b (at + 36) 4 out.entsize,
    ) refl

sections_stay : (file : List ℕ) (place b : ℕ) → IsUnread file place → section_headers (slice_set file place b) ≡ section_headers file
sections_stay file place b u =
    ap (numbered (section_header (slice_set file place b)) 0) (shnum_stays file place b u)
    ∙ numbered_same (section_header (slice_set file place b)) (section_header file) 0 (e_shnum file)
    (λ k low high. section_stays file place b k (shoff_stays file place b u) (u.sections k (omega arith)))

has_stays : (file : List ℕ) (place b : ℕ) → IsUnread file place → has_sections (slice_set file place b) ≡ has_sections file
has_stays file place b u = rw (shoff_stays file place b u, shnum_stays file place b u) refl

table_stays : (file : List ℕ) (place b : ℕ) → IsUnread file place → symbol_table (slice_set file place b) ≡ symbol_table file
table_stays file place b u =
    ap (λ (has : Bool). if has then find is_symbol_table (section_headers (slice_set file place b)) else None) (has_stays file place b u)
    ∙ ap (λ ss. if has_sections file then find is_symbol_table ss else None) (sections_stay file place b u)

-- the entries and the names of a symbol table
entry_stays : (file : List ℕ) (place b : ℕ) (t : SectionHeader) (k : ℕ) → IsOutsideEntry place (t.offset + 16 * k) → entry (slice_set file place b) t k ≡ entry file t k
unfolding entry
entry_stays file place b t k out =
    let at = t.offset + 16 * k in
    rw (
      stays_in file place b at 8 at 4 out.name (omega arith) (omega arith),
      stays_in file place b at 8 (at + 4) 4 out.name (omega arith) (omega arith),
      stays file place b (at + 12) 1 out.info,
      stays file place b (at + 14) 2 out.section,
    ) refl

entries_stay : (file : List ℕ) (place b : ℕ) (t : SectionHeader) → IsOutsideSymbols file place t → entries (slice_set file place b) t ≡ entries file t
entries_stay file place b t out =
    numbered_same (entry (slice_set file place b) t) (entry file t) 0 (entry_count t) (λ k low high. entry_stays file place b t k (out.entries k (omega arith)))

strings_stay : (file : List ℕ) (place b : ℕ) (t : SectionHeader) → IsUnread file place → t.link < e_shnum file → string_table (slice_set file place b) t ≡ string_table file t
strings_stay file place b t u linked = section_stays file place b t.link (shoff_stays file place b u) (u.sections t.link linked)

names_stay : (file : List ℕ) (place b : ℕ) (t : SectionHeader) → IsUnread file place → IsOutsideSymbols file place t → t.link < e_shnum file → names_of (slice_set file place b) t ≡ names_of file t
names_stay file place b t u out linked =
    ap (contents (slice_set file place b)) (strings_stay file place b t u linked)
    ∙ part_stays file place b (string_table file t).offset (string_table file t).size out.names

-- the image
size_stays : (file : List ℕ) (place b : ℕ) → IsUnread file place → image_size (slice_set file place b) ≡ image_size file
size_stays file place b u = ap (λ hs. greatest_reach hs - base) (headers_stay file place b u)

span_part : (start a size : ℕ) → start ≤ a → a < start + size → a - start < size
span_part start a size low high = omega arith

loaded_stays : (file : List ℕ) (place b at n j : ℕ) → Outside place at n → j < n → slice_index (slice_set file place b) (at + j) ≡ slice_index file (at + j)
loaded_stays file place b at n j (inl before) low = grind (arith, places)
loaded_stays file place b at n j (inr behind) low = grind (arith, places)

byte_for_stays : (file : List ℕ) (place b : ℕ) (hs : List ProgramHeader) (a : ℕ) → ((h : ProgramHeader) → Contains hs h → has_bytes h ≡ true → Outside place h.offset h.filesz) → byte_for (slice_set file place b) hs a ≡ byte_for file hs a
byte_for_stays file place b [] a out = refl
byte_for_stays file place b (h ∷ hs) a out =
    by (loads h a) refl (byte_for_stays file place b hs a (λ g c. out g (later h hs g c))) (out h (first_one h hs))
  where
    by : (t : Bool) → loads h a ≡ t → byte_for (slice_set file place b) hs a ≡ byte_for file hs a → (has_bytes h ≡ true → Outside place h.offset h.filesz)
        → (if t then slice_index (slice_set file place b) (h.offset + (a - h.paddr)) else byte_for (slice_set file place b) hs a) ≡ (if t then slice_index file (h.offset + (a - h.paddr)) else byte_for file hs a)
    by false is again here = again
    by true is again here =
        let x = and_parts (has_bytes h && nat_le h.paddr a) (nat_lt a (load_end h)) is in
        let p = and_parts (has_bytes h) (nat_le h.paddr a) x.0 in
        loaded_stays file place b h.offset h.filesz (a - h.paddr) (here p.0) (span_part h.paddr a h.filesz (leb-true h.paddr a p.1) (ltb-true a (load_end h) x.1))

loaded_stays_all : (file : List ℕ) (place b : ℕ) → IsUnread file place → loaded (slice_set file place b) ≡ loaded file
loaded_stays_all file place b u =
    ap (λ hs. numbered (byte_for (slice_set file place b) hs) base (greatest_reach hs - base)) (headers_stay file place b u)
    ∙ numbered_same (byte_for (slice_set file place b) (program_headers file)) (byte_for file (program_headers file)) base (image_size file) (λ a low high. byte_for_stays file place b (program_headers file) a u.segments)

-- rows of a file, by the fields that they read
rows_stay_2 : {A B X : Type 0} → (f : A → B → X) (a c : A) (b d : B) → a ≡ c → b ≡ d → f a b ≡ f c d
rows_stay_2 f a c b d p q = ap (λ x. f x b) p ∙ ap (λ x. f c x) q

length_stays : (file : List ℕ) (place b : ℕ) → length (slice_set file place b) ≡ length file
length_stays file place b = length-set file place b

abbrev kind_by : ℕ → List ℕ → ℕ → ℕ → ℕ → List Row
kind_by len front form order machine =
    (nat_lt file_limit len, TooLarge)
    ∷ (not (starts_with nat_eq magic front), BadMagic)
    ∷ (nat_lt len 52, Truncated)
    ∷ (not (form == 1), Not32Bit)
    ∷ (not (order == 1), NotLittleEndian)
    ∷ (not (machine == 243), NotRiscV)
    ∷ []

kind_stays : (file : List ℕ) (place b : ℕ) → IsUnread file place → kind_rows (slice_set file place b) ≡ kind_rows file
kind_stays file place b u =
    let g = slice_set file place b in
    let ident : Outside place 0 6 = inr u.ident in
    ap (λ (n : ℕ). kind_by n (take 4 g) (class g) (byte_order g) (e_machine g)) (length_stays file place b)
    ∙ ap (λ (front : List ℕ). kind_by (length file) front (class g) (byte_order g) (e_machine g)) (take-set-le 4 file place b (omega (arith, u.ident)))
    ∙ ap (λ (n : ℕ). kind_by (length file) (take 4 file) n (byte_order g) (e_machine g)) (stays_in file place b 0 6 4 1 ident (omega arith) (omega arith))
    ∙ ap (λ (n : ℕ). kind_by (length file) (take 4 file) (class file) n (e_machine g)) (stays_in file place b 0 6 5 1 ident (omega arith) (omega arith))
    ∙ ap (λ (n : ℕ). kind_by (length file) (take 4 file) (class file) (byte_order file) n) (stays_in file place b 16 4 18 2 u.kind (omega arith) (omega arith))

abbrev program_by : ℕ → ℕ → List Row
program_by kind flags =
    (kind == 1, Relocatable)
    ∷ (kind == 3, Shared)
    ∷ (not (kind == 2), NotExecutable)
    ∷ (flags % 2 == 1, Compressed)
    ∷ (not (flags / 2 % 4 == 0), FloatAbi)
    ∷ (not (flags == 0), OtherAbi)
    ∷ []

program_stays : (file : List ℕ) (place b : ℕ) → IsUnread file place → program_rows (slice_set file place b) ≡ program_rows file
program_stays file place b u =
    rows_stay_2 program_by _ _ _ _ (stays_in file place b 16 4 16 2 u.kind (omega arith) (omega arith)) (stays_in file place b 24 16 36 4 u.fields (omega arith) (omega arith))

abbrev table_by : ℕ → ℕ → ℕ → ℕ → List Row
table_by len count size at =
    (nat_lt header_limit count || (not (count == 0) && not (size == 32)), BadHeader)
    ∷ (not (count == 0) && nat_lt len (at + 32 * count), Truncated)
    ∷ []

table_rows_stay : (file : List ℕ) (place b : ℕ) → IsUnread file place → table_rows (slice_set file place b) ≡ table_rows file
table_rows_stay file place b u =
    let g = slice_set file place b in
    ap (λ (n : ℕ). table_by n (e_phnum g) (e_phentsize g) (e_phoff g)) (length_stays file place b)
    ∙ ap (λ (n : ℕ). table_by (length file) n (e_phentsize g) (e_phoff g)) (phnum_stays file place b u)
    ∙ ap (λ (n : ℕ). table_by (length file) (e_phnum file) n (e_phoff g)) (stays_in file place b 42 8 42 2 u.sizes (omega arith) (omega arith))
    ∙ ap (λ (n : ℕ). table_by (length file) (e_phnum file) (e_phentsize file) n) (phoff_stays file place b u)

abbrev header_by : ℕ → ProgramHeader → List Row
header_by len h =
    (is_dynamic h, Dynamic)
    ∷ (is_load h && nat_lt h.memsz h.filesz, BadSegment)
    ∷ (has_bytes h && nat_lt len (h.offset + h.filesz), Truncated)
    ∷ (is_segment h && not (lies_in_ram h.paddr h.filesz && lies_in_ram h.vaddr h.memsz), OutsideRam)
    ∷ []

header_rows_stay : (file : List ℕ) (place b : ℕ) → IsUnread file place → flat_map (header_rows (slice_set file place b)) (program_headers (slice_set file place b)) ≡ flat_map (header_rows file) (program_headers file)
header_rows_stay file place b u =
    ap (λ hs. flat_map (header_by (length (slice_set file place b))) hs) (headers_stay file place b u)
    ∙ ap (λ (n : ℕ). flat_map (header_by n) (program_headers file)) (length_stays file place b)

abbrev section_by : ℕ → Bool → ℕ → ℕ → ℕ → List Row
section_by len has size at count =
    (has && not (size == 40), BadHeader)
    ∷ (has && nat_lt len (at + 40 * count), Truncated)
    ∷ []

section_rows_stay : (file : List ℕ) (place b : ℕ) → IsUnread file place → section_rows (slice_set file place b) ≡ section_rows file
section_rows_stay file place b u =
    let g = slice_set file place b in
    ap (λ (n : ℕ). section_by n (has_sections g) (e_shentsize g) (e_shoff g) (e_shnum g)) (length_stays file place b)
    ∙ ap (λ (t : Bool). section_by (length file) t (e_shentsize g) (e_shoff g) (e_shnum g)) (has_stays file place b u)
    ∙ ap (λ (n : ℕ). section_by (length file) (has_sections file) n (e_shoff g) (e_shnum g)) (stays_in file place b 42 8 46 2 u.sizes (omega arith) (omega arith))
    ∙ ap (λ (n : ℕ). section_by (length file) (has_sections file) (e_shentsize file) n (e_shnum g)) (shoff_stays file place b u)
    ∙ ap (λ (n : ℕ). section_by (length file) (has_sections file) (e_shentsize file) (e_shoff file) n) (shnum_stays file place b u)

abbrev symbol_by : SectionHeader → ℕ → ℕ → SectionHeader → List ℕ → List Entry → List Row
symbol_by t len count strings names es =
    (not (t.entsize == 16 && t.size % 16 == 0 && nat_lt t.link count && is_string_table strings), BadSymbols)
    ∷ (nat_lt len (t.offset + t.size) || nat_lt len (strings.offset + strings.size), Truncated)
    ∷ (is_unended names, BadSymbols)
    ∷ (nat_lt entry_limit (entry_count t), TooManySymbols)
    ∷ (list_any (lacks_name (length names)) es, BadSymbols)
    ∷ []

symbol_rows_stay : (file : List ℕ) (place b : ℕ) (t : SectionHeader) → IsUnread file place → IsOutsideSymbols file place t → t.link < e_shnum file → symbol_rows (slice_set file place b) t ≡ symbol_rows file t
symbol_rows_stay file place b t u out linked =
    let g = slice_set file place b in
    ap (λ (n : ℕ). symbol_by t n (e_shnum g) (string_table g t) (names_of g t) (entries g t)) (length_stays file place b)
    ∙ ap (λ (n : ℕ). symbol_by t (length file) n (string_table g t) (names_of g t) (entries g t)) (shnum_stays file place b u)
    ∙ ap (λ (s : SectionHeader). symbol_by t (length file) (e_shnum file) s (names_of g t) (entries g t)) (strings_stay file place b t u linked)
    ∙ ap (λ (names : List ℕ). symbol_by t (length file) (e_shnum file) (string_table file t) names (entries g t)) (names_stay file place b t u out linked)
    ∙ ap (λ (es : List Entry). symbol_by t (length file) (e_shnum file) (string_table file t) (names_of file t) es) (entries_stay file place b t out)

kept_table_stays : (file : List ℕ) (place b : ℕ) (t : SectionHeader) → IsUnread file place → IsOutsideSymbols file place t → t.link < e_shnum file → kept_of_table (slice_set file place b) t ≡ kept_of_table file t
kept_table_stays file place b t u out linked =
    let g = slice_set file place b in
    ap (λ (n : ℕ). fold (keep n) nothing_kept (all_told (names_of g t) (entries g t))) (size_stays file place b u)
    ∙ ap (λ (names : List ℕ). fold (keep (image_size file)) nothing_kept (all_told names (entries g t))) (names_stay file place b t u out linked)
    ∙ ap (λ (es : List Entry). fold (keep (image_size file)) nothing_kept (all_told (names_of file t) es)) (entries_stay file place b t out)

-- the rows of symbols and of what is kept
abbrev last_rows : List ℕ → Option SectionHeader → List Row
last_rows file table = symbols_rows file table ++ kept_rows (kept_of file table)

no_link : (file : List ℕ) (t : SectionHeader) → nat_lt t.link (e_shnum file) ≡ false → first (last_rows file (Some t)) ≡ Some BadSymbols
no_link file t none =
    rw (and_left (t.entsize == 16 && t.size % 16 == 0 && nat_lt t.link (e_shnum file)) (is_string_table (string_table file t)) (and_right (t.entsize == 16 && t.size % 16 == 0) (nat_lt t.link (e_shnum file)) none)) refl

last_stay : (file : List ℕ) (place b : ℕ) (table : Option SectionHeader) → IsUnread file place → ((t : SectionHeader) → table ≡ Some t → IsOutsideSymbols file place t) → first (last_rows (slice_set file place b) table) ≡ first (last_rows file table)
last_stay file place b None u out = refl
last_stay file place b (Some t) u out = by (nat_lt t.link (e_shnum file)) refl
  where
    by : (linked : Bool) → nat_lt t.link (e_shnum file) ≡ linked → first (last_rows (slice_set file place b) (Some t)) ≡ first (last_rows file (Some t))
    by true is =
        let linked = ltb-true t.link (e_shnum file) is in
        ap first (ap (λ (rows : List Row). rows ++ kept_rows (kept_of_table (slice_set file place b) t)) (symbol_rows_stay file place b t u (out t refl) linked)
        ∙ ap (λ (named : Named). symbol_rows file t ++ kept_rows named) (kept_table_stays file place b t u (out t refl) linked))
    by false is = no_link (slice_set file place b) t (ap (nat_lt t.link) (shnum_stays file place b u) ∙ is) ∙ sym (no_link file t is)

first_tail : (rows xs ys : List Row) → first xs ≡ first ys → first (rows ++ xs) ≡ first (rows ++ ys)
first_tail [] xs ys same = same
first_tail (row ∷ rows) xs ys same = ap (λ (o : Option ElfFault). if row.0 then Some row.1 else o) (first_tail rows xs ys same)

-- a kind of rows and the rows behind it
both_stay : (rows before xs ys : List Row) → before ≡ rows → first xs ≡ first ys → first (before ++ xs) ≡ first (rows ++ ys)
both_stay rows before xs ys same behind = ap (λ (r : List Row). first (r ++ xs)) same ∙ first_tail rows xs ys behind

pub refusal_stays : (file : List ℕ) (place b : ℕ) → IsUnread file place → refusal (slice_set file place b) ≡ refusal file
unfolding refusal
refusal_stays file place b u =
    let g = slice_set file place b in
    both_stay (kind_rows file) (kind_rows g) (from_program g) (from_program file) (kind_stays file place b u)
    (both_stay (program_rows file) (program_rows g) (from_table g) (from_table file) (program_stays file place b u)
    (both_stay (table_rows file) (table_rows g) (from_headers g) (from_headers file) (table_rows_stay file place b u)
    (both_stay (flat_map (header_rows file) (program_headers file)) (flat_map (header_rows g) (program_headers g)) (from_image g) (from_image file) (header_rows_stay file place b u)
    (both_stay (image_rows (program_headers file)) (image_rows (program_headers g)) (from_sections g) (from_sections file) (ap image_rows (headers_stay file place b u))
    (both_stay (section_rows file) (section_rows g) (from_symbols g) (from_symbols file) (section_rows_stay file place b u)
    (ap (λ (table : Option SectionHeader). first (last_rows g table)) (table_stays file place b u) ∙ last_stay file place b (symbol_table file) u u.symbols))))))

-- and the object of a file that isn't refused
kept_stay : (file : List ℕ) (place b : ℕ) (table : Option SectionHeader) → IsUnread file place → ((t : SectionHeader) → table ≡ Some t → IsOutsideSymbols file place t × (t.link < e_shnum file)) → kept_of (slice_set file place b) table ≡ kept_of file table
kept_stay file place b None u out = refl
kept_stay file place b (Some t) u out = kept_table_stays file place b t u (out t refl).0 (out t refl).1

table_linked : (file : List ℕ) (t : SectionHeader) → refusal file ≡ None → symbol_table file ≡ Some t → t.link < e_shnum file
table_linked file t none is =
    let one = both_none (kind_rows file) (from_program file) (sym (at_kind file) ∙ none) in
    let two = both_none (program_rows file) (from_table file) one.1 in
    let three = both_none (table_rows file) (from_headers file) two.1 in
    let four = both_none (flat_map (header_rows file) (program_headers file)) (from_image file) three.1 in
    let five = both_none (image_rows (program_headers file)) (from_sections file) four.1 in
    let six = both_none (section_rows file) (from_symbols file) five.1 in
    let seven = both_none (symbols_rows file (symbol_table file)) (kept_rows (kept_names file)) six.1 in
    (has_symbols file t (sym (ap (λ (o : Option SectionHeader). first (symbols_rows file o)) is) ∙ seven.0)).linked

pub kept_names_stay : (file : List ℕ) (place b : ℕ) → IsUnread file place → refusal file ≡ None → kept_names (slice_set file place b) ≡ kept_names file
kept_names_stay file place b u none =
    ap (kept_of (slice_set file place b)) (table_stays file place b u) ∙ kept_stay file place b (symbol_table file) u (λ t is. (u.symbols t is, table_linked file t none is))

pub object_stays : (file : List ℕ) (place b : ℕ) → IsUnread file place → refusal file ≡ None → object_of (slice_set file place b) ≡ object_of file
object_stays file place b u none =
    ap (λ (n : ℕ). record { entry = n; bytes = loaded (slice_set file place b); labels = (kept_names (slice_set file place b)).symbols }) (stays_in file place b 24 16 24 4 u.fields (omega arith) (omega arith))
    ∙ ap (λ (bytes : List ℕ). record { entry = e_entry file; bytes = bytes; labels = (kept_names (slice_set file place b)).symbols }) (loaded_stays_all file place b u)
    ∙ ap (λ (named : Named). record { entry = e_entry file; bytes = loaded file; labels = named.symbols }) (kept_names_stay file place b u none)
