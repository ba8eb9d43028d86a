-- What was read in part, and what the functions that read it answer.
use Rattle.std.specs.Prelude.{◌≡◌, ℕ, ◌≤◌, List, [], length, map, true, Result, Ok, Err}
use Rattle.std.specs.Borrow.{Bor}
use Rattle.rt_words.specs.Limits.{symbol_limit}
use Rattle.rt_image.specs.ObjectFile.{Label, are_labels}
use Rattle.rt_elf.specs.declared.flat.fault.FlatFault.{FlatFault}
use Rattle.rt_elf.specs.declared.flat.fault.FlatFault.TheVariants.{Memory, Names}
use Rattle.rt_elf.specs.declared.flat.names.Names as declared
use Rattle.rt_elf.specs.flat.FlatNames.{Named}

-- the symbols that a map from names, wherever they lie in memory, to addresses holds
abbrev pub entry_labels : List (Bor (List ℕ) × ℕ) → List Label
entry_labels es = map (λ e. record { name = e.0.now; address = e.1 }) es

-- what names that are read stand for
abbrev pub named : declared.Names → Named
named names = record { symbols = entry_labels names.symbols.entries; left_out = names.left_out }

-- symbols that an object of n bytes may have
pub record AreListed (n : ℕ) (ls : List Label) : Type 0 where
  pub fit : are_labels n [] ls ≡ true
  pub few : length ls ≤ symbol_limit

-- what a function answered is what reading gives, or memory ran out
abbrev pub Reads : Result declared.Names FlatFault → Result Named ℕ → Type 0
Reads (Ok names) read = read ≡ Ok (named names)
Reads (Err Memory) read = Unit {0}
Reads (Err (Names line)) read = read ≡ Err line
Reads (Err fault) read = ⊥
