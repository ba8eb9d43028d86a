use Rattle.rt_elf.proofs.Common.{◌∙◌, sym, ap, Option, ◌++◌, flat_map, err_from_is_err_and, SectionHeader, program_headers, kept_names, first, kind_rows, program_rows, table_rows, header_rows, image_rows, section_rows, symbol_rows, symbols_rows, kept_rows, refusal}
use Rattle.rt_elf.proofs.RefusalLemmas.{Headed, from_program, from_table, from_headers, from_image, from_sections, from_symbols, here, at_kind, at_program, at_table, at_headers, at_image, at_sections, at_symbols, passes_with, passes_without}
use Rattle.rt_elf.proofs.checking.check_file.Goals as goal

pub returns-in_err-check_kind : goal.returns-in_err-check_kind
returns-in_err-check_kind c =
    let file = c.args.file.now in
    let p = err_from_is_err_and c.from_residual.result c.from_residual.ensures.1 in
    rw (p.1, p.2) (here (refusal file) (kind_rows file) (from_program file) c.in_err-check_kind.field-0.0 (at_kind file) c.in_err-check_kind.ensures.checked)

pub returns-in_err-check_program : goal.returns-in_err-check_program
returns-in_err-check_program c =
    let file = c.args.file.now in
    let p = err_from_is_err_and c.from_residual-in_err-check_program.result c.from_residual-in_err-check_program.ensures.1 in
    rw (p.1, p.2) (here (refusal file) (program_rows file) (from_table file) c.in_err-check_program.field-0.0 (at_program file c.in_ok-check_kind.ensures.checked) c.in_err-check_program.ensures)

pub returns-in_err-check_table : goal.returns-in_err-check_table
returns-in_err-check_table c =
    let file = c.args.file.now in
    let p = err_from_is_err_and c.from_residual-in_err-check_table.result c.from_residual-in_err-check_table.ensures.1 in
    rw (p.1, p.2) (here (refusal file) (table_rows file) (from_headers file) c.in_err-check_table.field-0.0 (at_table file c.in_ok-check_kind.ensures.checked c.in_ok-check_program.ensures) c.in_err-check_table.ensures)

pub returns-in_err-check_headers : goal.returns-in_err-check_headers
returns-in_err-check_headers c =
    let file = c.args.file.now in
    let headed : Headed file = record { kind = c.in_ok-check_kind.ensures.checked; program = c.in_ok-check_program.ensures; table = c.in_ok-check_table.ensures } in
    let p = err_from_is_err_and c.from_residual-in_err-check_headers.result c.from_residual-in_err-check_headers.ensures.1 in
    rw (p.1, p.2) (here (refusal file) (flat_map (header_rows file) (program_headers file)) (from_image file) c.in_err-check_headers.field-0.0 (at_headers file headed) c.in_err-check_headers.ensures)

pub returns-in_err-check_image : goal.returns-in_err-check_image
returns-in_err-check_image c =
    let file = c.args.file.now in
    let headed : Headed file = record { kind = c.in_ok-check_kind.ensures.checked; program = c.in_ok-check_program.ensures; table = c.in_ok-check_table.ensures } in
    let p = err_from_is_err_and c.from_residual-in_err-check_image.result c.from_residual-in_err-check_image.ensures.1 in
    rw (p.1, p.2) (here (refusal file) (image_rows (program_headers file)) (from_sections file) c.in_err-check_image.field-0.0 (at_image file headed c.in_ok-check_headers.ensures) c.in_err-check_image.ensures)

pub returns-in_err-check_sections : goal.returns-in_err-check_sections
returns-in_err-check_sections c =
    let file = c.args.file.now in
    let headed : Headed file = record { kind = c.in_ok-check_kind.ensures.checked; program = c.in_ok-check_program.ensures; table = c.in_ok-check_table.ensures } in
    let p = err_from_is_err_and c.from_residual-in_err-check_sections.result c.from_residual-in_err-check_sections.ensures.1 in
    rw (p.1, p.2) (here (refusal file) (section_rows file) (from_symbols file) c.in_err-check_sections.field-0.0 (at_sections file headed c.in_ok-check_headers.ensures c.in_ok-check_image.ensures) c.in_err-check_sections.ensures)

pub returns-in_err-check_symbols : goal.returns-in_err-check_symbols
returns-in_err-check_symbols c =
    let file = c.args.file.now in
    let headed : Headed file = record { kind = c.in_ok-check_kind.ensures.checked; program = c.in_ok-check_program.ensures; table = c.in_ok-check_table.ensures } in
    let p = err_from_is_err_and c.from_residual-in_err-check_symbols.result c.from_residual-in_err-check_symbols.ensures.1 in
    rw (p.1, p.2) (here (refusal file) (symbol_rows file c.in-Some.table) (kept_rows (kept_names file)) c.in_err-check_symbols.field-0.0 ((at_symbols file headed c.in_ok-check_headers.ensures c.in_ok-check_image.ensures c.in_ok-check_sections.ensures ∙ ap (λ (o : Option SectionHeader). first (symbols_rows file o ++ kept_rows (kept_names file))) (sym c.symbol_table-table.ensures ∙ c.in-Some.is))) c.in_err-check_symbols.ensures)

pub returns-in_ok-check_symbols : goal.returns-in_ok-check_symbols
returns-in_ok-check_symbols c =
    let file = c.args.file.now in
    let headed : Headed file = record { kind = c.in_ok-check_kind.ensures.checked; program = c.in_ok-check_program.ensures; table = c.in_ok-check_table.ensures } in
    passes_with file c.symbol_table-table.result c.in-Some.table c.symbol_table-table.ensures c.in-Some.is c.in_ok-check_kind.ensures.long headed c.in_ok-check_headers.ensures c.in_ok-check_image.ensures c.in_ok-check_sections.ensures c.in_ok-check_symbols.ensures

pub returns-in_default : goal.returns-in_default
returns-in_default c =
    let file = c.args.file.now in
    let headed : Headed file = record { kind = c.in_ok-check_kind.ensures.checked; program = c.in_ok-check_program.ensures; table = c.in_ok-check_table.ensures } in
    passes_without file c.symbol_table-table.result c.symbol_table-table.ensures c.in_default.is c.in_ok-check_kind.ensures.long headed c.in_ok-check_headers.ensures c.in_ok-check_image.ensures c.in_ok-check_sections.ensures
