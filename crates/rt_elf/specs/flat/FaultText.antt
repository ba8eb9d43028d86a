-- What is said of a flat image that has no object.
use Rattle.std.specs.Prelude.{ℕ, List, ◌++◌, codes, decimal}
use Rattle.rt_elf.specs.declared.flat.fault.FlatFault.{FlatFault}
use Rattle.rt_elf.specs.declared.flat.fault.FlatFault.TheVariants.{IsElf, TooLarge, Names, Misplaced, BadEntry, Memory}

abbrev pub flat_text : FlatFault → List ℕ
flat_text IsElf = codes "image: IsElf"
flat_text TooLarge = codes "image: TooLarge"
flat_text (Names line) = codes "symbols line " ++ decimal line
flat_text Misplaced = codes "image: Misplaced"
flat_text BadEntry = codes "image: BadEntry"
flat_text Memory = codes "memory"
