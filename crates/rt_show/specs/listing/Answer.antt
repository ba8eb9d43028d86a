-- What the listing of a file answers.
use Rattle.std.specs.Prelude.{◌≡◌, ℕ, List, Result, Ok, Err}
use Rattle.rt_image.specs.ObjectFile.{ObjectValue, IsObject, spelling}
use Rattle.rt_image.specs.ObjectReading.{spelled_object}
use Rattle.rt_image.specs.ReadFaults.{ReadFault}
use Rattle.rt_words.specs.declared.or_memory.OrMemory.TheVariants.{Memory, Fault as Refused}
use Rattle.rt_show.specs.listing.Listing.{listing}

-- the text is the listing of the object that the file spells; or the file's refusal; or there was no memory
abbrev pub Lists : {T : Type 0} → (T → List ℕ) → List ℕ → Result T ReadFault → Type 0
Lists shown file (Ok text) = (o : ObjectValue) × IsObject o × (file ≡ spelling o) × (shown text ≡ listing o)
Lists shown file (Err (Refused fault)) = spelled_object file ≡ Err fault
Lists shown file (Err Memory) = Unit {0}
