-- The names that three or more files of these proofs cite, passed on from one place. Declares nothing.
pub use Rattle.std.proofs.Common.{◌≡◌, ℕ, zero, suc, ◌-◌, ◌+◌, ◌≤◌, ◌<◌, ◌&&◌, not, Bool, true, false, List, [], ◌∷◌, ◌++◌, length, get_or, None, inl, inr, subst, ltb-true, lt-ltb, refl, sym, ap, ◌∙◌, arith, true≢false, take, drop, map, Option, Some, ◌⊎◌, ◌||◌, Ok}
pub use Rattle.rt_elf.specs.Fields.{numbered, e_phnum, e_shnum}
pub use Rattle.rt_elf.specs.KeptNames.{keep, kept_names}
pub use Rattle.rt_elf.specs.LoadedImage.{reach, greatest_reach, byte_for, image_size}
pub use Rattle.rt_elf.specs.ProgramHeaders.{program_header, program_headers, is_segment, is_load}
pub use Rattle.rt_elf.specs.Refusals.{Row, first, header_rows, kind_rows, program_rows, table_rows, image_rows, section_rows, symbol_rows, symbols_rows, kept_rows, lacks_name}
unfoldable pub use Rattle.rt_elf.specs.Refusals.{refusal}
pub use Rattle.rt_elf.specs.Spans.{load_end, has_bytes, loads, share, overlap}
pub use Rattle.rt_elf.specs.SymbolTable.{symbol_table, is_symbol_table, names_of, entries, entry_count, contents}
unfoldable pub use Rattle.rt_elf.specs.SymbolTable.{section_header, entry}
pub use Rattle.rt_elf.specs.Telling.{tells, told, is_of, told_by}
pub use Rattle.rt_elf.specs.Working.Keeping.{kept}
pub use Rattle.rt_elf.specs.declared.fault.ElfFault.{ElfFault}
pub use Rattle.rt_elf.specs.declared.program_headers.ProgramHeader.{ProgramHeader}
pub use Rattle.rt_elf.specs.declared.sections.SectionHeader.{SectionHeader}
pub use Rattle.rt_elf.specs.declared.symbols.Entry.{Entry}
pub use Rattle.rt_elf.specs.flat.FlatEntry.{address_in}
pub use Rattle.rt_elf.specs.flat.FlatNames.{Named, may_stand, has_name, put, names_from, name_lines}
unfoldable pub use Rattle.rt_elf.specs.flat.FlatNames.{after_symbol}
pub use Rattle.rt_elf.specs.flat.Misplaced.{is_misplaced}
pub use Rattle.rt_elf.specs.flat.Working.Listed.{entry_labels, AreListed, named}
pub use Rattle.rt_image.specs.ObjectFile.{Label, is_name_size, is_placed, label, labels, is_before, are_labels}
pub use Rattle.rt_image.specs.declared.object.Symbol.{Symbol}
pub use Rattle.rt_token.specs.Word.{is_word}
pub use Rattle.rt_words.specs.Base.{base}
pub use Rattle.std.proofs.lemmas.Bool.{and_parts, and_right, or_parts, and_left}
pub use Rattle.std.proofs.lemmas.Bool.Decides.{nat_tests}
pub use Rattle.std.proofs.lemmas.List.{same_lists, places, length-take}
pub use Rattle.std.proofs.lemmas.Result.{err_from_is_err_and}
pub use Rattle.std.proofs.lemmas.Slice.Eq.{bytes_eq-Decides}
pub use Rattle.std.specs.Cmp.Derive.{both_true}
pub use Rattle.std.specs.List.{flat_map, fold, filter, list_any, find}
pub use Rattle.std.specs.Prelude.{max, slice_index, if◌then◌else◌, nat_lt, nat_le, cond, ◌==◌, Err, Contains, insert}
pub use Rattle.std.specs.Str.{bytes_eq}
