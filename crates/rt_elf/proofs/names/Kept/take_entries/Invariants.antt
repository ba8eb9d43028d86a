use Rattle.rt_elf.proofs.Common.{◌≡◌, ◌-◌, ◌+◌, ◌≤◌, [], true, fold, are_labels, entry_labels, numbered, entry, entries, entry_count, told_by, keep, kept}
use Rattle.rt_elf.proofs.names.Kept.take_entries.Given as goal

-- the entries that are left, behind those so far
abbrev pub invariant-loop-number : goal.invariant-loop-number
invariant-loop-number l = record {
  few : l.self.left_out ≤ l.fn.self.left_out + l.number;
  fit : are_labels l.size [] (entry_labels l.self.symbols.entries) ≡ true;
  same : fold (keep l.size) (kept l.fn.self) (told_by l.local l.names (entries l.file l.table)) ≡ fold (keep l.size) (kept l.self) (told_by l.local l.names (numbered (entry l.file l.table) l.number (entry_count l.table - l.number)));
}
