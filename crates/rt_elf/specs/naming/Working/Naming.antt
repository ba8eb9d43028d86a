-- What a function that names an object answers.
use Rattle.std.specs.Prelude.{◌≡◌, ⊤, Result, Ok, Err}
use Rattle.rt_image.specs.declared.object.Object.{Object}
use Rattle.rt_image.specs.ObjectFile.{ObjectValue, IsObject, object_value}
use Rattle.rt_elf.specs.declared.naming.fault.NameFault.{NameFault}
use Rattle.rt_elf.specs.declared.naming.fault.NameFault.TheVariants.{Memory}

-- this object, or why there is none, or memory ran out
abbrev pub Names : Result Object NameFault → Result ObjectValue NameFault → Type 0
Names (Ok o) meant = (meant ≡ Ok (object_value o)) × IsObject (object_value o)
Names (Err Memory) meant = ⊤
Names (Err fault) meant = meant ≡ Err fault
