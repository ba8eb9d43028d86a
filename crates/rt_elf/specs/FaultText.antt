-- What is said of an ELF file that has no object.
use Rattle.std.specs.Prelude.{ℕ, List, codes}
use Rattle.rt_elf.specs.declared.fault.ElfFault.{ElfFault}
use Rattle.rt_elf.specs.declared.fault.ElfFault.TheVariants.{TooLarge, BadMagic, Truncated, Not32Bit, NotLittleEndian, NotRiscV, Relocatable, Shared, NotExecutable, Compressed, FloatAbi, OtherAbi, BadHeader, Dynamic, BadSegment, OutsideRam, Empty, Overlap, BadSymbols, TooManySymbols, Memory}

abbrev pub elf_text : ElfFault → List ℕ
elf_text TooLarge = codes "elf: TooLarge"
elf_text BadMagic = codes "elf: BadMagic"
elf_text Truncated = codes "elf: Truncated"
elf_text Not32Bit = codes "elf: Not32Bit"
elf_text NotLittleEndian = codes "elf: NotLittleEndian"
elf_text NotRiscV = codes "elf: NotRiscV"
elf_text Relocatable = codes "elf: Relocatable"
elf_text Shared = codes "elf: Shared"
elf_text NotExecutable = codes "elf: NotExecutable"
elf_text Compressed = codes "elf: Compressed"
elf_text FloatAbi = codes "elf: FloatAbi"
elf_text OtherAbi = codes "elf: OtherAbi"
elf_text BadHeader = codes "elf: BadHeader"
elf_text Dynamic = codes "elf: Dynamic"
elf_text BadSegment = codes "elf: BadSegment"
elf_text OutsideRam = codes "elf: OutsideRam"
elf_text Empty = codes "elf: Empty"
elf_text Overlap = codes "elf: Overlap"
elf_text BadSymbols = codes "elf: BadSymbols"
elf_text TooManySymbols = codes "elf: TooManySymbols"
elf_text Memory = codes "memory"
