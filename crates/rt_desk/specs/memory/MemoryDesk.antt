-- A desk in memory.
use Rattle.std.specs.Prelude.{ℕ, Bool, List, [], ◌∷◌, Some, None, if◌then◌else◌, string_bytes}
use Rattle.std.specs.Str.{bytes_eq}
use Rattle.rt_desk.specs.Desk.{Files}
use Rattle.rt_desk.specs.declared.memory.entry.Entry.{Entry}

-- each file by its path and its bytes, of two with one path the first; what was said; and whether saying has failed
pub record DeskInMemory : Type 0 where
  pub entries : List (List ℕ × List ℕ)
  pub said : List ℕ
  pub is_deaf : Bool

abbrev pub entry_of : Entry → List ℕ × List ℕ
entry_of e = (string_bytes e.path, e.bytes.items)

abbrev pub files_of : List (List ℕ × List ℕ) → Files
files_of [] path = None
files_of (e ∷ es) path = if bytes_eq e.0 path then Some e.1 else files_of es path
