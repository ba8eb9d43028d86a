-- The object of a flat image, and what is answered.
use Rattle.std.specs.Prelude.{◌≡◌, ℕ, ◌<◌, ◌≤◌, ⊤, List, [], length, true, false, Option, Some, None, Result, Ok, Err}
use Rattle.std.specs.Borrow.{Bor}
use Rattle.rt_words.specs.Limits.{image_limit}
use Rattle.rt_image.specs.ObjectFile.{ObjectValue, IsObject, spelling}
use Rattle.rt_elf.specs.declared.flat.entry.Entry.{Entry}
use Rattle.rt_elf.specs.declared.flat.fault.FlatFault.{FlatFault}
use Rattle.rt_elf.specs.declared.flat.fault.FlatFault.TheVariants.{IsElf, TooLarge, Names, Misplaced, BadEntry, Memory}
use Rattle.rt_elf.specs.declared.flat.making.Flat.{Flat}
use Rattle.rt_elf.specs.flat.ElfMagic.{is_elf}
use Rattle.rt_elf.specs.flat.FlatEntry.{entry_in}
use Rattle.rt_elf.specs.flat.FlatNames.{Named, names_of}
use Rattle.rt_elf.specs.flat.Misplaced.{is_misplaced}

-- no list says what an empty one does
abbrev pub text_of : Option (Bor (List ℕ)) → List ℕ
text_of None = []
text_of (Some list) = list.now

-- the bytes as they are, from this address on, with the symbols that are kept
abbrev pub object_of : List ℕ → ℕ → Named → ObjectValue
object_of image address named = record { entry = address; bytes = image; labels = named.symbols }

-- an image that is no ELF file and isn't too large, with names that say this
pub record IsRead (image : List ℕ) (names : List ℕ) (named : Named) : Type 0 where
  pub flat : is_elf image ≡ false
  pub size : length image ≤ image_limit
  pub said : names_of (length image) names ≡ Ok named

-- one whose names are its own, and that begins at this address: it has an object
pub record Makes (image : List ℕ) (entry : Entry) (names : List ℕ) (named : Named) (address : ℕ) : Type 0 where
  pub read : IsRead image names named
  pub own : is_misplaced (length image) names ≡ false
  pub begins : entry_in (length image) named.symbols entry ≡ Some address
  pub valid : IsObject (object_of image address named)

-- why there is none: the image is an ELF file, or else it is too large, or else a line of the names is the first faulty one, or else
-- no name lies in the image, or else the image can't begin at the entry
abbrev pub Refuses : List ℕ → Entry → List ℕ → FlatFault → Type 0
Refuses image entry names IsElf = is_elf image ≡ true
Refuses image entry names TooLarge = (is_elf image ≡ false) × (image_limit < length image)
Refuses image entry names (Names line) = (is_elf image ≡ false) × (length image ≤ image_limit) × (names_of (length image) names ≡ Err line)
Refuses image entry names Misplaced = (named : Named) × IsRead image names named × (is_misplaced (length image) names ≡ true)
Refuses image entry names BadEntry =
    (named : Named) × IsRead image names named × (is_misplaced (length image) names ≡ false) × (entry_in (length image) named.symbols entry ≡ None)
Refuses image entry names fault = ⊥

-- What is answered: the one spelling of the object, and how many names are left out; or a refusal; or memory ran out.
abbrev pub FlatMeans : List ℕ → Entry → List ℕ → Result Flat FlatFault → Type 0
FlatMeans image entry names (Ok flat) =
    (named : Named) × (address : ℕ) × Makes image entry names named address
    × (flat.bytes.items ≡ spelling (object_of image address named)) × (flat.left_out ≡ named.left_out)
FlatMeans image entry names (Err Memory) = ⊤
FlatMeans image entry names (Err fault) = Refuses image entry names fault
