-- What is made of a file, or why nothing is, stays in one that is refused alike.
use Rattle.rt_perform.proofs.Common.{◌≡◌, ℕ, ◌<◌, Bool, true, false, true≢false, List, length, Some, None, Result, Ok, Err, sym, ◌∙◌, inl, inr, arith, set_of}
use Rattle.std.proofs.Common.{◌⊎◌, ◌≤◌}
use Rattle.std.specs.Prelude.{if◌then◌else◌}
use Rattle.rt_words.specs.Limits.{image_limit}
use Rattle.rt_elf.specs.flat.ElfMagic.{is_elf}
use Rattle.rt_elf.specs.flat.FlatObject.{FlatMeans}
use Rattle.rt_elf.specs.declared.flat.entry.Entry.{Entry}
use Rattle.rt_elf.specs.declared.flat.fault.FlatFault.{FlatFault}
use Rattle.rt_elf.specs.declared.flat.fault.FlatFault.TheVariants as flats
use Rattle.rt_elf.specs.declared.flat.making.Flat.{Flat}
use Rattle.rt_elf.specs.ElfObject.{ElfMeans}
use Rattle.rt_elf.specs.declared.fault.ElfFault.{ElfFault}
use Rattle.rt_elf.specs.declared.fault.ElfFault.TheVariants as elfs
use Rattle.rt_elf.specs.declared.making.Made.{Made}
use Rattle.rt_set.specs.declared.fault.SetFault.{SetFault}
use Rattle.rt_set.specs.declared.fault.SetFault.TheVariants as sets
use Rattle.rt_set.specs.FirstFault.{IsRefusal}
use Rattle.rt_set.specs.SetFile.{SetEntries, IsSetFile}
use Rattle.rt_set.proofs.SetLaws.{set_takes, set_again}
use Rattle.rt_set.proofs.FaultLaws.{fault_takes, fault_again}
use Rattle.rt_desk.specs.reading.Extent.{elf_limit}
use Rattle.rt_desk.proofs.reading_laws.ElfFiles.{too_large}
use Rattle.rt_perform.proofs.laws.Wholes.{AreNoImages}

over : (bytes : List ℕ) → (is_elf bytes ≡ true) ⊎ (image_limit < length bytes) → is_elf bytes ≡ false → image_limit < length bytes
over bytes (inl elf) flat = absurd (true≢false (sym elf ∙ flat))
over bytes (inr large) flat = large

taken : {X : Type 0} (bytes : List ℕ) → (is_elf bytes ≡ true) ⊎ (image_limit < length bytes) → is_elf bytes ≡ false → length bytes ≤ image_limit → X
taken bytes enough flat small = absurd (omega (arith, over bytes enough flat, small))

pub of_image : (a b : List ℕ) → AreNoImages a b → (entry : Entry) (names : List ℕ) (answer : Result Flat FlatFault) → FlatMeans a entry names answer → FlatMeans b entry names answer
of_image a b like entry names (Ok flat) means = taken a like.first means.2.read.flat means.2.read.size
of_image a b like entry names (Err flats.Memory) means = tt
of_image a b like entry names (Err flats.IsElf) means = like.elf ∙ means
of_image a b like entry names (Err flats.TooLarge) means = let flat = like.elf ∙ means.0 in (flat, over b like.second flat)
of_image a b like entry names (Err (flats.Names line)) means = taken a like.first means.0 means.1
of_image a b like entry names (Err fault) means = taken a like.first means.1.flat means.1.size

one_row : (test : Bool) → (if test then Some elfs.TooManySymbols else None) ≡ Some elfs.TooLarge → ⊥
one_row true is = cc
one_row false is = cc

-- a file that is too large has no object
pub no_object : (a : List ℕ) → elf_limit < length a → (made : Made) → ElfMeans a (Ok made) → ⊥
no_object a long made means = cc (too_large a long, means.0.taken)

pub of_elf : (a b : List ℕ) → (elf_limit < length a) × (elf_limit < length b) → (answer : Result Made ElfFault) → ElfMeans a answer → ElfMeans b answer
of_elf a b long (Ok made) means = absurd (no_object a long.0 made means)
of_elf a b long (Err elfs.Memory) means = absurd (one_row _ (sym means ∙ too_large a long.0))
of_elf a b long (Err fault) means = too_large b long.1 ∙ sym (too_large a long.0) ∙ means

pub set_stays : (a b : List ℕ) → set_of b ≡ set_of a → (set : SetEntries) → IsSetFile a set → IsSetFile b set
set_stays a b like set is = set_takes b set (like ∙ set_again a set is)

pub set_refused : (a b : List ℕ) → set_of b ≡ set_of a → (fault : SetFault) → IsRefusal fault a → IsRefusal fault b
set_refused a b like sets.Memory is = tt
set_refused a b like (sets.Line n) is = fault_takes b n (like ∙ fault_again a n is)
