-- The rows of a file, one kind after the other, and what they leave when none applies.
use Rattle.rt_elf.proofs.Common.{◌≡◌, ℕ, ◌+◌, ◌≤◌, ◌<◌, ◌&&◌, ◌||◌, not, Bool, true, false, List, [], ◌∷◌, ◌++◌, length, Option, Some, None, refl, sym, ap, ◌∙◌, arith, ltb-true, true≢false, Err, if◌then◌else◌, nat_lt, ◌==◌, flat_map, list_any, find, and_parts, or_parts, nat_tests, ElfFault, ProgramHeader, SectionHeader, e_phnum, e_shnum, program_headers, symbol_table, is_symbol_table, names_of, entries, entry_count, kept_names, Row, first, kind_rows, program_rows, table_rows, header_rows, image_rows, section_rows, symbol_rows, symbols_rows, kept_rows, refusal, lacks_name}
use Rattle.std.proofs.Common.{◌*◌}
use Rattle.std.specs.Prelude.{◌%◌}
use Rattle.std.specs.Option.{option_map_or}
use Rattle.std.proofs.lemmas.Bool.{ltb-false}
use Rattle.rt_elf.specs.declared.fault.ElfFault.TheVariants.{Truncated, BadHeader, BadSymbols, TooManySymbols, Memory}
use Rattle.rt_elf.specs.Fields.{e_phoff, e_phentsize, e_shoff, e_shentsize}
use Rattle.rt_elf.specs.SymbolTable.{has_sections, section_headers, is_string_table, string_table}
use Rattle.rt_elf.specs.Refusals.{has_shape, is_cut, is_unended, entry_limit, header_limit}
use Rattle.rt_elf.specs.Working.Checks.{HasTable, HasSections, HasSymbols}
use Rattle.rt_elf.specs.Working.Making.{Passes}
use Rattle.rt_elf.specs.ElfObject.{ElfMeans}
use Rattle.rt_elf.proofs.RowLemmas.{first_here, first_later}
use Rattle.rt_elf.proofs.ImageLemmas.{row_parts}

abbrev pub from_symbols : List ℕ → List Row
from_symbols file = symbols_rows file (symbol_table file) ++ kept_rows (kept_names file)

abbrev pub from_sections : List ℕ → List Row
from_sections file = section_rows file ++ from_symbols file

abbrev pub from_image : List ℕ → List Row
from_image file = image_rows (program_headers file) ++ from_sections file

abbrev pub from_headers : List ℕ → List Row
from_headers file = flat_map (header_rows file) (program_headers file) ++ from_image file

abbrev pub from_table : List ℕ → List Row
from_table file = table_rows file ++ from_headers file

abbrev pub from_program : List ℕ → List Row
from_program file = program_rows file ++ from_table file

pub at_kind : (file : List ℕ) → refusal file ≡ first (kind_rows file ++ from_program file)
unfolding refusal
at_kind file = refl

pub here : (found : Option ElfFault) (rows others : List Row) (fault : ElfFault) → found ≡ first (rows ++ others) → first rows ≡ Some fault → found ≡ Some fault
here found rows others fault so_far this = so_far ∙ first_here rows others fault this

pub at_program : (file : List ℕ) → first (kind_rows file) ≡ None → refusal file ≡ first (from_program file)
at_program file kind = at_kind file ∙ first_later (kind_rows file) (from_program file) kind

pub at_table : (file : List ℕ) → first (kind_rows file) ≡ None → first (program_rows file) ≡ None → refusal file ≡ first (from_table file)
at_table file kind program = at_program file kind ∙ first_later (program_rows file) (from_table file) program

-- no row applies up to those of the headers
pub record Headed (file : List ℕ) : Type 0 where
  pub kind : first (kind_rows file) ≡ None
  pub program : first (program_rows file) ≡ None
  pub table : first (table_rows file) ≡ None

pub at_headers : (file : List ℕ) → Headed file → refusal file ≡ first (from_headers file)
at_headers file h = at_table file h.kind h.program ∙ first_later (table_rows file) (from_headers file) h.table

pub at_image : (file : List ℕ) → Headed file → first (flat_map (header_rows file) (program_headers file)) ≡ None → refusal file ≡ first (from_image file)
at_image file h headers = at_headers file h ∙ first_later (flat_map (header_rows file) (program_headers file)) (from_image file) headers

pub at_sections : (file : List ℕ) → Headed file → first (flat_map (header_rows file) (program_headers file)) ≡ None → first (image_rows (program_headers file)) ≡ None → refusal file ≡ first (from_sections file)
at_sections file h headers image = at_image file h headers ∙ first_later (image_rows (program_headers file)) (from_sections file) image

pub at_symbols : (file : List ℕ) → Headed file → first (flat_map (header_rows file) (program_headers file)) ≡ None → first (image_rows (program_headers file)) ≡ None → first (section_rows file) ≡ None → refusal file ≡ first (from_symbols file)
at_symbols file h headers image sections = at_sections file h headers image ∙ first_later (section_rows file) (from_symbols file) sections

-- what the rows of a table leave
two_rows : (a b : Row) → first (a ∷ b ∷ []) ≡ None → (a.0 ≡ false) × (b.0 ≡ false)
two_rows a b none =
    let one = row_parts a (b ∷ []) none in
    (one.0, (row_parts b [] one.1).0)

five_rows : (a b c d e : Row) → first (a ∷ b ∷ c ∷ d ∷ e ∷ []) ≡ None → (a.0 ≡ false) × (b.0 ≡ false) × (c.0 ≡ false) × (e.0 ≡ false)
five_rows a b c d e none =
    let one = row_parts a (b ∷ c ∷ d ∷ e ∷ []) none in
    let two = row_parts b (c ∷ d ∷ e ∷ []) one.1 in
    let three = row_parts c (d ∷ e ∷ []) two.1 in
    let last = two_rows d e three.1 in
    (one.0, two.0, three.0, last.1)

no_end : (count len end : ℕ) → (not (count == 0) && nat_lt len end) ≡ false → 0 < count → end ≤ len
no_end count len end none some = grind (arith, nat_tests)

pub has_table : (file : List ℕ) → 52 ≤ length file → first (table_rows file) ≡ None → HasTable file
has_table file long none =
    let rows = two_rows (nat_lt header_limit (e_phnum file) || (not (e_phnum file == 0) && not (e_phentsize file == 32)), BadHeader)
    (not (e_phnum file == 0) && nat_lt (length file) (e_phoff file + 32 * e_phnum file), Truncated) none in
    record { header = long; table = no_end (e_phnum file) (length file) (e_phoff file + 32 * e_phnum file) rows.1 }

no_cut : (there : Bool) (len end : ℕ) → (there && nat_lt len end) ≡ false → there ≡ true → end ≤ len
no_cut there len end none some = grind (arith, nat_tests)

pub has_section_table : (file : List ℕ) → 52 ≤ length file → first (section_rows file) ≡ None → has_sections file ≡ true → HasSections file
has_section_table file long none there =
    let rows = two_rows (has_sections file && not (e_shentsize file == 40), BadHeader) (has_sections file && nat_lt (length file) (e_shoff file + 40 * e_shnum file), Truncated) none in
    record { header = long; table = no_cut (has_sections file) (length file) (e_shoff file + 40 * e_shnum file) rows.1 there }

not_false : (b : Bool) → not b ≡ false → b ≡ true
not_false true e = refl
not_false false e = sym e

pub has_symbols : (file : List ℕ) (t : SectionHeader) → first (symbol_rows file t) ≡ None → HasSymbols file t
has_symbols file t none =
    let rows = five_rows (not (has_shape file t), BadSymbols) (is_cut file t || is_cut file (string_table file t), Truncated) (is_unended (names_of file t), BadSymbols)
    (nat_lt entry_limit (entry_count t), TooManySymbols) (list_any (lacks_name (length (names_of file t))) (entries file t), BadSymbols) none in
    let shape : has_shape file t ≡ true = not_false (has_shape file t) rows.0 in
    let linked = and_parts (t.entsize == 16 && t.size % 16 == 0 && nat_lt t.link (e_shnum file)) (is_string_table (string_table file t)) shape in
    let link = and_parts (t.entsize == 16 && t.size % 16 == 0) (nat_lt t.link (e_shnum file)) linked.0 in
    let whole = or_parts (is_cut file t) (is_cut file (string_table file t)) rows.1 in
    record { linked = ltb-true t.link (e_shnum file) link.1; whole = ltb-false _ _ whole.0; whole_names = ltb-false _ _ whole.1; named = rows.3 }

-- a symbol table is found among section headers alone
pub found_among : (file : List ℕ) (t : SectionHeader) → symbol_table file ≡ Some t → has_sections file ≡ true
found_among file t is = by (has_sections file) is
  where
    by : (b : Bool) → (if b then find is_symbol_table (section_headers file) else None) ≡ Some t → b ≡ true
    by true is = refl
    by false is = absurd cc

pub passes_with : (file : List ℕ) (table : Option SectionHeader) (t : SectionHeader) → table ≡ symbol_table file → table ≡ Some t → 52 ≤ length file → Headed file
    → first (flat_map (header_rows file) (program_headers file)) ≡ None → first (image_rows (program_headers file)) ≡ None → first (section_rows file) ≡ None → first (symbol_rows file t) ≡ None → Passes file table
passes_with file table t found is long headed headers image sections symbols =
    let some : symbol_table file ≡ Some t = sym found ∙ is in
    record {
      found = found;
      headers = has_table file long headed.table;
      fit = headers;
      symbols = rw is (has_section_table file long sections (found_among file t some), has_symbols file t symbols);
      left = at_symbols file headed headers image sections ∙ ap (λ (o : Option SectionHeader). first (symbols_rows file o ++ kept_rows (kept_names file))) some
          ∙ first_later (symbol_rows file t) (kept_rows (kept_names file)) symbols;
    }

pub passes_without : (file : List ℕ) (table : Option SectionHeader) → table ≡ symbol_table file → table ≡ None → 52 ≤ length file → Headed file
    → first (flat_map (header_rows file) (program_headers file)) ≡ None → first (image_rows (program_headers file)) ≡ None → first (section_rows file) ≡ None → Passes file table
passes_without file table found is long headed headers image sections = record {
  found = found;
  headers = has_table file long headed.table;
  fit = headers;
  symbols = rw is tt;
  left = at_symbols file headed headers image sections ∙ ap (λ (o : Option SectionHeader). first (symbols_rows file o ++ kept_rows (kept_names file))) (sym found ∙ is);
}

-- ---- no row says that memory ran out

abbrev is_memory : ElfFault → Bool
is_memory Memory = true
is_memory fault = false

abbrev have_memory : List Row → Bool
have_memory [] = false
have_memory (row ∷ rows) = is_memory row.1 || have_memory rows

first_known : (rows : List Row) → have_memory rows ≡ false → first rows ≡ Some Memory → ⊥
first_known [] none is = absurd cc
first_known (row ∷ rows) none is = by row.0 (first_known rows (or_parts (is_memory row.1) (have_memory rows) none).1) is
  where
    by : (test : Bool) → (first rows ≡ Some Memory → ⊥) → (if test then Some row.1 else first rows) ≡ Some Memory → ⊥
    by true later is = true≢false (sym (ap (λ (o : Option ElfFault). option_map_or is_memory o false) is) ∙ (or_parts (is_memory row.1) (have_memory rows) none).0)
    by false later is = later is

headers_known : (file : List ℕ) (hs : List ProgramHeader) (rest : List Row) → have_memory rest ≡ false → have_memory (flat_map (header_rows file) hs ++ rest) ≡ false
headers_known file [] rest none = none
headers_known file (h ∷ hs) rest none = headers_known file hs rest none

symbols_known : (file : List ℕ) (table : Option SectionHeader) → have_memory (symbols_rows file table ++ kept_rows (kept_names file)) ≡ false
symbols_known file None = refl
symbols_known file (Some t) = refl

-- the refusal is what is answered
pub refused : (file : List ℕ) (fault : ElfFault) → refusal file ≡ Some fault → ElfMeans file (Err fault)
refused file Memory is = absurd (first_known (kind_rows file ++ from_program file)
    (headers_known file (program_headers file) (from_image file) (symbols_known file (symbol_table file))) (sym (at_kind file) ∙ is))
refused file _ is = is
