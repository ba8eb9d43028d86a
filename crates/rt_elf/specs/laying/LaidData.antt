-- An object in whose image the bytes of another file stand from a symbol on, in place of those that it had there.
use Rattle.std.specs.Prelude.{◌≡◌, ⊤, ℕ, ◌+◌, ◌-◌, nat_le, List, ◌++◌, length, take, drop, Option, Some, None, Result, Ok, Err, if◌then◌else◌}
use Rattle.rt_words.specs.Base.{base}
use Rattle.rt_image.specs.ObjectFile.{ObjectValue, IsObject, spelling}
use Rattle.rt_image.specs.ObjectReading.{spelled_object}
use Rattle.rt_elf.specs.declared.laying.fault.NotLaid.{NotLaid}
use Rattle.rt_elf.specs.declared.laying.fault.NotLaid.TheVariants.{NoSymbol, TooLarge, Memory}
use Rattle.rt_elf.specs.laying.Room.{room_of}
use Rattle.rt_elf.specs.flat.FlatEntry.{address_in}

-- bytes in place of those from a place of an image on: it grows where it ends before them
abbrev pub laid_over : ℕ → List ℕ → List ℕ → List ℕ
laid_over at bytes image = take at image ++ bytes ++ drop (at + length bytes) image

abbrev pub with_bytes : ℕ → List ℕ → ObjectValue → ObjectValue
with_bytes address bytes o = record { entry = o.entry; bytes = laid_over (address - base) bytes o.bytes; labels = o.labels }

-- the object with them from the symbol of this name on, which stands here if it does
abbrev pub laid_at : Option (List ℕ) → List ℕ → List ℕ → ObjectValue → Option ℕ → Result ObjectValue NotLaid
laid_at elf name bytes o None = Err NoSymbol
laid_at elf name bytes o (Some address) =
    let room = room_of elf (record { name = name; address = address }) in
    if nat_le (length bytes) room then Ok (with_bytes address bytes o) else Err (TooLarge (length bytes) room)

abbrev pub laid : Option (List ℕ) → List ℕ → List ℕ → ObjectValue → Result ObjectValue NotLaid
laid elf name bytes o = laid_at elf name bytes o (address_in o.labels name)

-- the object file of such an object, which was made of this ELF file if it was made of one
abbrev pub Lays : Option (List ℕ) → List ℕ → List ℕ → List ℕ → List ℕ → Type 0
Lays elf name bytes file new =
    (o p : ObjectValue) × (spelled_object file ≡ Ok o) × (laid elf name bytes o ≡ Ok p) × IsObject p × (new ≡ spelling p)

-- why there is none
abbrev pub LaysNone : Option (List ℕ) → List ℕ → List ℕ → List ℕ → NotLaid → Type 0
LaysNone elf name bytes file Memory = ⊤
LaysNone elf name bytes file fault = (o : ObjectValue) × (spelled_object file ≡ Ok o) × (laid elf name bytes o ≡ Err fault)
