use Rattle.rt_elf.proofs.Common.{◌≡◌, ◌<◌, false, arith, sym, ap, ◌∙◌, e_phnum, program_header, has_bytes}
use Rattle.rt_elf.proofs.NumberedLemmas.{any_later}
use Rattle.rt_elf.proofs.program_headers.any_has_bytes.Goals as goal

pub loop-number-preserved : goal.loop-number-preserved
loop-number-preserved c =
    let k = c.loop-number.number in
    let f = program_header c.args.file.now in
    let low : k < e_phnum c.args.file.now = omega arith in
    let here : has_bytes (f k) ≡ false = sym (ap has_bytes c.program_header.ensures) ∙ sym c.has_bytes.ensures ∙ c.if-has_bytes.false in
    any_later has_bytes f k (e_phnum c.args.file.now) _ low here c.loop-number.invariant
