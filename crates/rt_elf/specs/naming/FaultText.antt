-- What is said of an entry that can't have a name.
use Rattle.std.specs.Prelude.{ℕ, List, ◌++◌, codes}
use Rattle.rt_words.specs.Hex.{hex}
use Rattle.rt_image.specs.FaultText.{image_text}
use Rattle.rt_elf.specs.declared.naming.fault.NameFault.{NameFault}
use Rattle.rt_elf.specs.declared.naming.fault.NameFault.TheVariants.{Object, Elsewhere, BadEntry, TooMany, Memory}

abbrev pub name_text : List ℕ → NameFault → List ℕ
name_text name (Object fault) = image_text fault
name_text name (Elsewhere address) = codes "name " ++ name ++ codes " stands at " ++ hex 8 address
name_text name BadEntry = codes "name " ++ name ++ codes ": BadEntry"
name_text name TooMany = codes "name " ++ name ++ codes ": TooMany"
name_text name Memory = codes "memory"
