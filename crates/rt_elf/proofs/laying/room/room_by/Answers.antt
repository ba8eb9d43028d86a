use Rattle.rt_elf.proofs.Common.{◌-◌, ◌+◌, ◌∙◌, ap, ℕ, arith, fold, numbered, entry_count, label}
use Rattle.rt_elf.specs.laying.Room.{after_entry, each}
use Rattle.rt_elf.proofs.laying.RoomLemmas.{one_more}
use Rattle.rt_elf.proofs.laying.room.room_by.Goals as goal

pub loop-number-preserved : goal.loop-number-preserved
loop-number-preserved c =
    let f = after_entry c.args.file.now c.args.table.now (label c.args.symbol.now) in
    let k = c.loop-number.number in
    let n = entry_count c.args.table.now in
    ap (λ (room : ℕ). fold f room (numbered each (k + 1) (n - (k + 1)))) c.after_entry-room.ensures
    ∙ one_more f each c.loop-number.room _ k n (omega arith) c.loop-number.invariant
