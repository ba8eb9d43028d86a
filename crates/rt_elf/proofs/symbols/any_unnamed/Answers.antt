use Rattle.rt_elf.proofs.Common.{◌≡◌, ◌<◌, true, false, arith, sym, ap, ◌∙◌, entry, entry_count, lacks_name}
use Rattle.rt_elf.proofs.NumberedLemmas.{any_here, any_later}
use Rattle.rt_elf.proofs.symbols.any_unnamed.Goals as goal

pub returns-then-lacks_name : goal.returns-then-lacks_name
returns-then-lacks_name c =
    let k = c.loop-number.number in
    let f = entry c.args.file.now c.args.table.now in
    let low : k < entry_count c.args.table.now = omega arith in
    let here : lacks_name c.args.len (f k) ≡ true = sym (ap (lacks_name c.args.len) c.entry_at.ensures) ∙ sym c.lacks_name.ensures ∙ c.if-lacks_name.true in
    sym (any_here (lacks_name c.args.len) f k (entry_count c.args.table.now) _ low here c.loop-number.invariant)

pub loop-number-preserved : goal.loop-number-preserved
loop-number-preserved c =
    let k = c.loop-number.number in
    let f = entry c.args.file.now c.args.table.now in
    let low : k < entry_count c.args.table.now = omega arith in
    let here : lacks_name c.args.len (f k) ≡ false = sym (ap (lacks_name c.args.len) c.entry_at.ensures) ∙ sym c.lacks_name.ensures ∙ c.if-lacks_name.false in
    any_later (lacks_name c.args.len) f k (entry_count c.args.table.now) _ low here c.loop-number.invariant
