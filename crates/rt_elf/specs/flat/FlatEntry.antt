-- Where an image of n bytes may begin, and the address that an entry means.
use Rattle.std.specs.Prelude.{ℕ, ◌+◌, ◌%◌, ◌==◌, ◌&&◌, nat_le, Bool, List, [], ◌∷◌, Option, Some, None, if◌then◌else◌}
use Rattle.std.specs.Str.{bytes_eq}
use Rattle.rt_words.specs.Base.{base}
use Rattle.rt_words.specs.Found.{◌>>=◌, when}
use Rattle.rt_image.specs.ObjectFile.{Label}
use Rattle.rt_elf.specs.declared.flat.entry.Entry.{Entry}
use Rattle.rt_elf.specs.declared.flat.entry.Entry.TheVariants.{Address, Name}

-- a multiple of 4, whose word lies in the image
abbrev pub may_be_entry : ℕ → ℕ → Bool
may_be_entry n address = (address % 4 == 0) && nat_le base address && nat_le (address + 4) (base + n)

-- the address of the symbol of this name
abbrev pub address_in : List Label → List ℕ → Option ℕ
address_in [] name = None
address_in (l ∷ ls) name = if bytes_eq name l.name then Some l.address else address_in ls name

-- an address means itself, and a name the symbol that is kept of that name
abbrev pub meant_by : List Label → Entry → Option ℕ
meant_by symbols (Address address) = Some address
meant_by symbols (Name name) = address_in symbols name.now

-- the address of the first instruction; none where the image can't begin there
abbrev pub entry_in : ℕ → List Label → Entry → Option ℕ
entry_in n symbols entry = do
  address ← meant_by symbols entry
  when (may_be_entry n address) address
