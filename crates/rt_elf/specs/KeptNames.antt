-- Which of the symbols that are told an object keeps, and how many are left out.
use Rattle.std.specs.Prelude.{ℕ, ◌+◌, List, [], Option, Some, None, if◌then◌else◌}
use Rattle.std.specs.List.{fold}
use Rattle.rt_elf.specs.flat.FlatNames.{Named, is_kept, put}
use Rattle.rt_image.specs.ObjectFile.{Label}
use Rattle.rt_elf.specs.declared.sections.SectionHeader.{SectionHeader}
use Rattle.rt_elf.specs.LoadedImage.{image_size}
use Rattle.rt_elf.specs.SymbolTable.{symbol_table, names_of, entries}
use Rattle.rt_elf.specs.Telling.{all_told}

-- one more symbol, in an image of n bytes: it is kept where an object may have it and its name is new
abbrev pub keep : ℕ → Named → Label → Named
keep n named l =
    if is_kept n named.symbols l
    then record { symbols = put l named.symbols; left_out = named.left_out }
    else record { symbols = named.symbols; left_out = named.left_out + 1 }

-- before the first one
abbrev pub nothing_kept : Named
nothing_kept = record { symbols = []; left_out = 0 }

-- the symbols of a table
abbrev pub kept_of_table : List ℕ → SectionHeader → Named
kept_of_table file table = fold (keep (image_size file)) nothing_kept (all_told (names_of file table) (entries file table))

abbrev pub kept_of : List ℕ → Option SectionHeader → Named
kept_of file None = nothing_kept
kept_of file (Some table) = kept_of_table file table

-- those of a file
abbrev pub kept_names : List ℕ → Named
kept_names file = kept_of file (symbol_table file)
