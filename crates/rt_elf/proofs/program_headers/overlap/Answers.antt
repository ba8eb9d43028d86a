use Rattle.rt_elf.proofs.Common.{◌≡◌, ◌+◌, ◌-◌, ◌<◌, false, arith, sym, ap, ◌∙◌, list_any, numbered, e_phnum, program_header, share}
use Rattle.rt_elf.proofs.NumberedLemmas.{overlap_later}
use Rattle.rt_elf.proofs.program_headers.overlap.Goals as goal

pub loop-number-preserved : goal.loop-number-preserved
loop-number-preserved c =
    let k = c.loop-number.number in
    let file = c.args.file.now in
    let f = program_header file in
    let low : k < e_phnum file = omega arith in
    let here : list_any (share (f k)) (numbered f (k + 1) (e_phnum file - (k + 1))) ≡ false =
    sym (ap (λ h. list_any (share h) (numbered f (k + 1) (e_phnum file - (k + 1)))) c.program_header.ensures) ∙ sym c.shares_later.ensures ∙ c.if-shares_later.false in
    overlap_later f k (e_phnum file) _ low here c.loop-number.invariant
