-- What is said of bytes that don't come to stand in an image.
use Rattle.std.specs.Prelude.{ℕ, Bool, true, false, List, ◌++◌, codes, if◌then◌else◌}
use Rattle.rt_elf.specs.declared.laying.fault.NotLaid.{NotLaid}
use Rattle.rt_elf.specs.declared.laying.fault.NotLaid.TheVariants.{NoSymbol, TooLarge, Memory}

-- the program that makes the object: of an ELF file, or of a flat image
abbrev pub program : Bool → List ℕ
program of_elf = if of_elf then codes "elf" else codes "image"

abbrev pub data_text : Bool → NotLaid → List ℕ
data_text of_elf NoSymbol = program of_elf ++ codes ": NoSymbol"
data_text of_elf (TooLarge len room) = program of_elf ++ codes ": DataTooLarge"
data_text of_elf Memory = codes "memory"
