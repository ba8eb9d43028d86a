-- What the conversion of a system file means.
use Rattle.std.specs.Prelude.{◌≡◌, ℕ, List, Result, Ok, Err}
use Rattle.rt_image.specs.declared.system.Version.TheVariants.{Two}
use Rattle.rt_image.specs.SystemFile.{TaskSet}
use Rattle.rt_image.specs.SystemReading.{system_of}
use Rattle.rt_opening.specs.Sets.{SpellsSet}
use Rattle.rt_opening.specs.declared.fault.SimFault.{SimFault}
use Rattle.rt_opening.specs.declared.fault.SimFault.TheVariants as faults

-- the same set in a file of version Two, which has a place for all that a set holds
abbrev pub in_version_two : TaskSet → TaskSet
in_version_two s = record s { version = Two }

-- the file of version Two of the set of a file, or why there is none
abbrev pub ConvertMeans : List ℕ → Result (List ℕ) SimFault → Type 0
ConvertMeans file (Ok converted) = (s : TaskSet) × SpellsSet file s × SpellsSet converted (in_version_two s)
ConvertMeans file (Err (faults.Image fault)) = system_of file ≡ Err fault
ConvertMeans file (Err fault) = ⊥
