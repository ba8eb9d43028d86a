use Rattle.rt_elf.proofs.Common.{◌≡◌, ◌<◌, true, false, arith, sym, ap, ◌∙◌, e_phnum, program_header, share}
use Rattle.rt_elf.proofs.NumberedLemmas.{any_here, any_later}
use Rattle.rt_elf.proofs.program_headers.shares_later.Goals as goal

pub returns-then-shares : goal.returns-then-shares
returns-then-shares c =
    let k = c.loop-number.number in
    let f = program_header c.args.file.now in
    let low : k < e_phnum c.args.file.now = omega arith in
    let here : share c.args.header.now (f k) ≡ true = sym (ap (share c.args.header.now) c.program_header.ensures) ∙ sym c.shares.ensures ∙ c.if-shares.true in
    sym (any_here (share c.args.header.now) f k (e_phnum c.args.file.now) _ low here c.loop-number.invariant)

pub loop-number-preserved : goal.loop-number-preserved
loop-number-preserved c =
    let k = c.loop-number.number in
    let f = program_header c.args.file.now in
    let low : k < e_phnum c.args.file.now = omega arith in
    let here : share c.args.header.now (f k) ≡ false = sym (ap (share c.args.header.now) c.program_header.ensures) ∙ sym c.shares.ensures ∙ c.if-shares.false in
    any_later (share c.args.header.now) f k (e_phnum c.args.file.now) _ low here c.loop-number.invariant
