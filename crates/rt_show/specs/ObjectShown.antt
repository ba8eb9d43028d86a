-- What an object file holds: its image, its entry, and its symbols in the order of addresses.
use Rattle.std.specs.Prelude.{ℕ, ◌==◌, nat_lt, if◌then◌else◌, Bool, List, ◌++◌, length, Option, Result, codes, decimal, IsPermutation}
use Rattle.std.specs.List.{flat_map}
use Rattle.std.specs.List.Sorted.{IsSortedBy}
use Rattle.std.specs.Option.{option_map_or}
use Rattle.rt_sink.specs.Seen.{Seen}
use Rattle.rt_words.specs.Hex.{hex}
use Rattle.rt_image.specs.ObjectFile.{Label, ObjectValue, is_before}
use Rattle.rt_sink.specs.Sink.{Counts}
use Rattle.rt_sink.specs.declared.sink.DeviceFault.{DeviceFault}
use Rattle.rt_names.specs.TaskName.{own_namer}

-- the name of the symbol that names the task, or a hyphen
abbrev pub name_cell : Option Label → List ℕ
name_cell found = option_map_or (λ l. l.name) found (codes "-")

-- a comment: how many bytes and symbols an object has, where it begins, and the name there
abbrev pub image_remark : ObjectValue → List ℕ
image_remark o =
    codes "#   image " ++ decimal (length o.bytes) ++ codes " bytes, entry " ++ hex 8 o.entry ++ codes " " ++ name_cell (own_namer o) ++ codes ", "
    ++ decimal (length o.labels) ++ codes " symbols"

-- one symbol stands before another: at a lower address, or at the same one by its name's bytes
abbrev pub stands_before : Label → Label → Bool
stands_before l m = if l.address == m.address then is_before l.name m.name else nat_lt l.address m.address

-- the symbols, each of them once, and none stands before the one ahead of it
pub record IsInOrder (ls order : List Label) : Type 0 where
  pub all : IsPermutation ls order
  pub rising : IsSortedBy stands_before order

-- the line of a symbol
abbrev pub symbol_line : Label → List ℕ
symbol_line l = hex 8 l.address ++ codes " " ++ l.name ++ codes "\n"

-- the text of an object, its symbols in this order
abbrev pub object_shown : ObjectValue → List Label → List ℕ
object_shown o order = codes "# object\n" ++ image_remark o ++ codes "\n" ++ flat_map symbol_line order

-- the text of an object was written to a sink, its symbols in order, and its length is the answer
pub record WritesObject {S : Type 0} (seen : S → Seen) (old : S) (o : ObjectValue) (answer : Result ℕ DeviceFault) (new : S) : Type 0 where
  pub order : List Label
  pub ordered : IsInOrder o.labels order
  pub counts : Counts seen old (object_shown o order) answer new
