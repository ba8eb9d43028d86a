use Rattle.rt_elf.proofs.Common.{◌≡◌, ◌<◌, None, Some, arith, sym, ap, ◌∙◌, err_from_is_err_and, e_phnum, program_header, first, header_rows}
use Rattle.rt_elf.proofs.RowLemmas.{rows_here, rows_later}
use Rattle.rt_elf.proofs.program_headers.check_headers.Goals as goal

pub loop-number-preserved : goal.loop-number-preserved
loop-number-preserved c =
    let k = c.loop-number.number in
    let f = program_header c.args.file.now in
    let low : k < e_phnum c.args.file.now = omega arith in
    let here : first (header_rows c.args.file.now (f k)) ≡ None = sym (ap (λ h. first (header_rows c.args.file.now h)) c.program_header.ensures) ∙ c.in_ok-check_header.ensures in
    rows_later (header_rows c.args.file.now) f k (e_phnum c.args.file.now) _ low here c.loop-number.invariant

pub returns-in_err-check_header : goal.returns-in_err-check_header
returns-in_err-check_header c =
    let k = c.loop-number.number in
    let file = c.args.file.now in
    let f = program_header file in
    let low : k < e_phnum file = omega arith in
    let here : first (header_rows file (f k)) ≡ Some c.in_err-check_header.field-0.0 = sym (ap (λ h. first (header_rows file h)) c.program_header.ensures) ∙ c.in_err-check_header.ensures in
    let p = err_from_is_err_and c.from_residual.result c.from_residual.ensures.1 in
    rw (p.1, p.2) (rows_here (header_rows file) f k (e_phnum file) _ _ low here c.loop-number.invariant)
