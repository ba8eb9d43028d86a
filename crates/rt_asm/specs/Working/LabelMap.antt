-- The labels that a map from names to addresses holds.
use Rattle.std.specs.Prelude.{ℕ, List, map}
use Rattle.rt_image.specs.ObjectFile.{Label}
use Rattle.rt_asm.specs.declared.labels.Name.{Name}

-- an entry: a name, wherever it lies in memory, and its address
abbrev pub entry_label : Name × ℕ → Label
entry_label e = record { name = e.0.text.now; address = e.1 }

abbrev pub entry_labels : List (Name × ℕ) → List Label
entry_labels es = map entry_label es
