-- What the listing of an object file means.
use Rattle.std.specs.Prelude.{◌≡◌, ℕ, List, Result, Ok, Err}
use Rattle.rt_image.specs.ObjectFile.{ObjectValue}
use Rattle.rt_image.specs.ObjectReading.{spelled_object}
use Rattle.rt_show.specs.listing.Listing.{listing}
use Rattle.rt_opening.specs.Alone.{Spells}
use Rattle.rt_opening.specs.declared.fault.SimFault.{SimFault}
use Rattle.rt_opening.specs.declared.fault.SimFault.TheVariants as faults

-- the listing of the object of a file, or why there is none
abbrev pub DisMeans : List ℕ → Result (List ℕ) SimFault → Type 0
DisMeans file (Ok text) = (o : ObjectValue) × Spells file o × (text ≡ listing o)
DisMeans file (Err (faults.Image fault)) = spelled_object file ≡ Err fault
DisMeans file (Err fault) = ⊥
