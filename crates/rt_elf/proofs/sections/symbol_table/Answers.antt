use Rattle.rt_elf.proofs.Common.{◌≡◌, ◌<◌, false, arith, sym, ap, ◌∙◌, e_shnum, section_header, is_symbol_table}
use Rattle.rt_elf.proofs.NumberedLemmas.{find_later}
use Rattle.rt_elf.proofs.sections.symbol_table.Goals as goal

pub loop-number-preserved : goal.loop-number-preserved
loop-number-preserved c =
    let k = c.loop-number.number in
    let f = section_header c.args.file.now in
    let low : k < e_shnum c.args.file.now = omega arith in
    let other : is_symbol_table c.section_header-header.result ≡ false = grind arith in
    let here : is_symbol_table (f k) ≡ false = sym (ap is_symbol_table c.section_header-header.ensures) ∙ other in
    find_later is_symbol_table f k (e_shnum c.args.file.now) _ low here c.loop-number.invariant
