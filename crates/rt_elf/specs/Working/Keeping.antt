-- What was kept of the entries of a symbol table so far.
use Rattle.std.specs.Prelude.{ℕ, Bool, ◌&&◌, List, if◌then◌else◌}
use Rattle.rt_elf.specs.flat.FlatNames.{Named}
use Rattle.rt_elf.specs.flat.Working.Listed.{entry_labels}
use Rattle.rt_elf.specs.declared.names.Kept.{Kept}
use Rattle.rt_elf.specs.declared.symbols.Entry.{Entry}
use Rattle.rt_elf.specs.Telling.{is_of, tells, told}
use Rattle.rt_elf.specs.KeptNames.{keep}

-- what names that are kept stand for
abbrev pub kept : Kept → Named
kept names = record { symbols = entry_labels names.symbols.entries; left_out = names.left_out }

-- one more entry
abbrev pub taken : ℕ → List ℕ → Bool → Named → Entry → Named
taken n names local named e = if is_of local e && tells names e then keep n named (told names e) else named
