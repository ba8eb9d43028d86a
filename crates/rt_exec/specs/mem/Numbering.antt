-- The numbers of the faults of an access.
use Rattle.std.specs.Prelude.{ℕ}
use Rattle.rt_exec.specs.declared.mem.access_fault.AccessFault.{AccessFault}
use Rattle.rt_exec.specs.declared.mem.access_fault.AccessFault.TheVariants.{LoadMisaligned, LoadAccess, StoreMisaligned, StoreAccess}

-- faults 1 to 3 are those of the instruction and of the fetch
abbrev pub access_number : AccessFault → ℕ
access_number LoadMisaligned = 4
access_number LoadAccess = 5
access_number StoreMisaligned = 6
access_number StoreAccess = 7
