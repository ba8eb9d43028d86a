-- An object whose entry has a name: a symbol of this name joins the object's.
use Rattle.std.specs.Prelude.{◌≡◌, ℕ, ◌==◌, nat_lt, ⊤, if◌then◌else◌, List, length, Option, None, Some, Result, Ok, Err}
use Rattle.std.specs.Global.{Vec}
use Rattle.rt_words.specs.Limits.{symbol_limit}
use Rattle.rt_image.specs.ReadFaults.{ReadFault}
use Rattle.rt_words.specs.declared.or_memory.OrMemory.TheVariants as reads
use Rattle.rt_image.specs.ObjectFile.{ObjectValue, IsObject, is_placed, spelling}
use Rattle.rt_image.specs.ObjectReading.{spelled_object}
use Rattle.rt_elf.specs.flat.FlatEntry.{address_in}
use Rattle.rt_elf.specs.flat.FlatNames.{put}
use Rattle.rt_elf.specs.declared.naming.fault.NameFault.{NameFault}
use Rattle.rt_elf.specs.declared.naming.fault.NameFault.TheVariants.{Object, Elsewhere, BadEntry, TooMany, Memory}

-- the object with a symbol of this name at its entry, among the others by the bytes of their names
abbrev pub with_name : List ℕ → ObjectValue → ObjectValue
with_name name o = record { entry = o.entry; bytes = o.bytes; labels = put (record { name = name; address = o.entry }) o.labels }

-- one that has no symbol of this name: the entry must lie in the image or at its end, and there must be room for one more symbol
abbrev pub newly_named : List ℕ → ObjectValue → Result ObjectValue NameFault
newly_named name o =
    if is_placed (length o.bytes) o.entry
    then (if nat_lt (length o.labels) symbol_limit then Ok (with_name name o) else Err TooMany)
    else Err BadEntry

-- the object whose symbol of this name, if it has one, stands here: it may stand at the entry alone
abbrev pub named_beside : List ℕ → ObjectValue → Option ℕ → Result ObjectValue NameFault
named_beside name o None = newly_named name o
named_beside name o (Some address) = if address == o.entry then Ok o else Err (Elsewhere address)

abbrev pub named : List ℕ → ObjectValue → Result ObjectValue NameFault
named name o = named_beside name o (address_in o.labels name)

-- what a file that isn't read comes to
abbrev pub read_fault : ReadFault → NameFault
read_fault (reads.Fault fault) = Object fault
read_fault reads.Memory = Memory

-- What is answered of an object file: that of the named object; or why there is none; or memory ran out.
abbrev pub NamesFile : List ℕ → List ℕ → Result (Vec ℕ) NameFault → Type 0
NamesFile file name (Ok bytes) =
    (o p : ObjectValue) × (spelled_object file ≡ Ok o) × (named name o ≡ Ok p) × IsObject p × (bytes.items ≡ spelling p)
NamesFile file name (Err Memory) = ⊤
NamesFile file name (Err (Object fault)) = spelled_object file ≡ Err fault
NamesFile file name (Err fault) = (o : ObjectValue) × (spelled_object file ≡ Ok o) × (named name o ≡ Err fault)
