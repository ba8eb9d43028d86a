use Rattle.rt_elf.proofs.Common.{◌≡◌, ◌∙◌, sym, ap, subst, arith, true, ◌≤◌, ◌+◌, length, base, ProgramHeader, e_phnum, program_header, has_bytes, load_end, header_rows}
use Rattle.rt_elf.proofs.ImageLemmas.{each_none, header_fits, header_ends}
use Rattle.rt_elf.proofs.loading.lay_header.Goals as goal

pub lay-requires-clause-low : goal.lay-requires-clause-low
lay-requires-clause-low c =
    let file = c.args.file.now in
    let none = each_none (header_rows file) (program_header file) 0 (e_phnum file) c.args.number c.requires.fit (omega arith) (omega arith) in
    let some : has_bytes (program_header file c.args.number) ≡ true = sym (ap has_bytes c.program_header-header.ensures) ∙ sym c.has_bytes.ensures ∙ c.if-has_bytes.true in
    let placed = header_fits file (program_header file c.args.number) none some in
    subst (λ (h : ProgramHeader). base ≤ h.paddr) (sym c.program_header-header.ensures) placed.low

pub lay-requires-clause-high : goal.lay-requires-clause-high
lay-requires-clause-high c =
    let file = c.args.file.now in
    let none = each_none (header_rows file) (program_header file) 0 (e_phnum file) c.args.number c.requires.fit (omega arith) (omega arith) in
    let some : has_bytes (program_header file c.args.number) ≡ true = sym (ap has_bytes c.program_header-header.ensures) ∙ sym c.has_bytes.ensures ∙ c.if-has_bytes.true in
    let placed = header_fits file (program_header file c.args.number) none some in
    let ends = header_ends file c.args.number c.requires.there some placed.low in
    subst (λ (h : ProgramHeader). load_end h ≤ base + length c.args.image.now) (sym c.program_header-header.ensures) (rw c.requires.sized ends)

pub lay-requires-clause-whole : goal.lay-requires-clause-whole
lay-requires-clause-whole c =
    let file = c.args.file.now in
    let none = each_none (header_rows file) (program_header file) 0 (e_phnum file) c.args.number c.requires.fit (omega arith) (omega arith) in
    let some : has_bytes (program_header file c.args.number) ≡ true = sym (ap has_bytes c.program_header-header.ensures) ∙ sym c.has_bytes.ensures ∙ c.if-has_bytes.true in
    let placed = header_fits file (program_header file c.args.number) none some in
    subst (λ (h : ProgramHeader). h.offset + h.filesz ≤ length file) (sym c.program_header-header.ensures) placed.whole
