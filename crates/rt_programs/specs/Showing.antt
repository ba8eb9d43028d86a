-- What is shown of a file.
use Rattle.std.specs.Prelude.{◌≡◌, ℕ, nat_eq, List, codes, Bool, true, false, Result, Ok, Err}
use Rattle.std.specs.List.{starts_with}
use Rattle.rt_image.specs.ObjectFile.{Label, ObjectValue}
use Rattle.rt_image.specs.ObjectReading.{spelled_object}
use Rattle.rt_image.specs.SystemFile.{TaskSet}
use Rattle.rt_image.specs.SystemReading.{system_of}
use Rattle.rt_show.specs.ObjectShown.{IsInOrder, object_shown}
use Rattle.rt_show.specs.SetShown.{set_shown}
use Rattle.rt_opening.specs.Sets.{SpellsSet}
use Rattle.rt_opening.specs.Alone.{Spells}
use Rattle.rt_opening.specs.declared.fault.SimFault.{SimFault}
use Rattle.rt_opening.specs.declared.fault.SimFault.TheVariants as faults

-- what is shown of the object of a file, or why there is none
abbrev pub ObjectShows : List ℕ → Result (List ℕ) SimFault → Type 0
ObjectShows file (Ok text) = (o : ObjectValue) × Spells file o × ((order : List Label) × IsInOrder o.labels order × (text ≡ object_shown o order))
ObjectShows file (Err (faults.Image fault)) = spelled_object file ≡ Err fault
ObjectShows file (Err fault) = ⊥

-- what is shown of the set of a file, admitted or not, or why there is none
abbrev pub SetShows : List ℕ → Result (List ℕ) SimFault → Type 0
SetShows file (Ok text) = (s : TaskSet) × SpellsSet file s × (text ≡ set_shown s)
SetShows file (Err (faults.Image fault)) = system_of file ≡ Err fault
SetShows file (Err fault) = ⊥

-- a file that begins as an object file does
abbrev pub is_object : List ℕ → Bool
is_object file = starts_with nat_eq file (codes "RTI1")

-- it is read as an object file, and any other as a system file
abbrev pub ShowsAs : Bool → List ℕ → Result (List ℕ) SimFault → Type 0
ShowsAs true file = ObjectShows file
ShowsAs false file = SetShows file

abbrev pub ShowMeans : List ℕ → Result (List ℕ) SimFault → Type 0
ShowMeans file = ShowsAs (is_object file) file
