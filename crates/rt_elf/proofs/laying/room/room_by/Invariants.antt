use Rattle.rt_elf.proofs.Common.{◌≡◌, ◌-◌, fold, numbered, entry_count, label}
use Rattle.rt_elf.specs.laying.Room.{after_entry, each}
use Rattle.rt_elf.proofs.laying.room.room_by.Given as goal

-- the room so far, with the entries that are left
abbrev pub invariant-loop-number : goal.invariant-loop-number
invariant-loop-number l =
    fold (after_entry l.file l.table (label l.symbol)) l.room (numbered each l.number (entry_count l.table - l.number))
    ≡ fold (after_entry l.file l.table (label l.symbol)) l.most (numbered each 0 (entry_count l.table))
