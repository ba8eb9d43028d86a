-- The exit status of a program that ends by a fault.
use Rattle.std.specs.Prelude.{ℕ}
use Rattle.rt_opening.specs.declared.fault.SimFault.{SimFault}
use Rattle.rt_opening.specs.declared.fault.SimFault.TheVariants as sims
use Rattle.rt_set.specs.declared.fault.SetFault.{SetFault}
use Rattle.rt_set.specs.declared.fault.SetFault.TheVariants as sets
use Rattle.rt_image.specs.ReadFaults.{ReadFault}
use Rattle.rt_words.specs.declared.or_memory.OrMemory.TheVariants as packs
use Rattle.rt_elf.specs.declared.flat.fault.FlatFault.{FlatFault}
use Rattle.rt_elf.specs.declared.flat.fault.FlatFault.TheVariants as flats
use Rattle.rt_elf.specs.declared.fault.ElfFault.{ElfFault}
use Rattle.rt_elf.specs.declared.fault.ElfFault.TheVariants as elfs
use Rattle.rt_elf.specs.declared.naming.fault.NameFault.{NameFault}
use Rattle.rt_elf.specs.declared.naming.fault.NameFault.TheVariants as names
use Rattle.rt_elf.specs.declared.laying.fault.NotLaid.{NotLaid}
use Rattle.rt_elf.specs.declared.laying.fault.NotLaid.TheVariants as laid
use Rattle.rt_perform.specs.declared.program.ProgramFault.{ProgramFault}
use Rattle.rt_perform.specs.declared.program.ProgramFault.TheVariants.{Words, File, IsRead, Device, Input, Sim, Set, Pack, Flat, Elf, Name, Laid, NotNamed, Failed, Uncertified}

-- 1 for refused input, 3 for memory and the device
abbrev pub sim_status : SimFault → ℕ
sim_status (sims.Image _) = 1
sim_status (sims.Admit _) = 1
sim_status (sims.Load _) = 1
sim_status (sims.Text _) = 1
sim_status (sims.Source _) = 1
sim_status (sims.NotCertified _) = 1
sim_status (sims.NoTask _ _) = 1
sim_status sims.Memory = 3
sim_status (sims.Device _) = 3

abbrev pub set_status : SetFault → ℕ
set_status (sets.Line _) = 1
set_status sets.Memory = 3

abbrev pub pack_status : ReadFault → ℕ
pack_status (packs.Fault _) = 1
pack_status packs.Memory = 3

abbrev pub flat_status : FlatFault → ℕ
flat_status flats.IsElf = 1
flat_status flats.TooLarge = 1
flat_status (flats.Names _) = 1
flat_status flats.Misplaced = 1
flat_status flats.BadEntry = 1
flat_status flats.Memory = 3

abbrev pub elf_status : ElfFault → ℕ
elf_status elfs.Memory = 3
elf_status _ = 1

abbrev pub name_status : NameFault → ℕ
name_status names.Memory = 3
name_status _ = 1

abbrev pub laid_status : NotLaid → ℕ
laid_status laid.Memory = 3
laid_status _ = 1

-- 2 for the command line, 3 for a file or the standard input, 4 for a failure
abbrev pub exit_status : ProgramFault → ℕ
exit_status Words = 2
exit_status (File _ _ _) = 3
exit_status (IsRead _ _) = 3
exit_status (Device _ _ _) = 3
exit_status Input = 3
exit_status (Sim fault) = sim_status fault
exit_status (Set fault) = set_status fault
exit_status (Pack fault _) = pack_status fault
exit_status (Flat fault) = flat_status fault
exit_status (Elf fault task) = elf_status fault
exit_status (Name fault) = name_status fault.fault
exit_status (Laid fault) = laid_status fault.fault
exit_status (NotNamed fault) = 1
exit_status (Failed failure) = 4
exit_status (Uncertified task) = 1
