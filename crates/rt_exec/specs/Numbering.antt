-- The numbers of faults and calls, and the names of faults.
use Rattle.std.specs.Prelude.{ℕ, List, codes}
use Rattle.rt_exec.specs.declared.outcome.Call.{Call}
use Rattle.rt_exec.specs.declared.outcome.Call.TheVariants.{End, Write, SleepUntil, Yield, Now, Reserve}
use Rattle.rt_exec.specs.declared.outcome.Fault.{Fault}
use Rattle.rt_exec.specs.declared.outcome.Fault.TheVariants.{Illegal, JumpMisaligned, FetchAccess, LoadMisaligned, LoadAccess, StoreMisaligned, StoreAccess, Break, UnknownCall}

abbrev pub fault_number : Fault → ℕ
fault_number Illegal = 1
fault_number JumpMisaligned = 2
fault_number FetchAccess = 3
fault_number LoadMisaligned = 4
fault_number LoadAccess = 5
fault_number StoreMisaligned = 6
fault_number StoreAccess = 7
fault_number Break = 8
fault_number UnknownCall = 9

-- as texts have it
abbrev pub fault_name : Fault → List ℕ
fault_name Illegal = codes "Illegal"
fault_name JumpMisaligned = codes "JumpMisaligned"
fault_name FetchAccess = codes "FetchAccess"
fault_name LoadMisaligned = codes "LoadMisaligned"
fault_name LoadAccess = codes "LoadAccess"
fault_name StoreMisaligned = codes "StoreMisaligned"
fault_name StoreAccess = codes "StoreAccess"
fault_name Break = codes "Break"
fault_name UnknownCall = codes "UnknownCall"

abbrev pub call_number : Call → ℕ
call_number End = 0
call_number Write = 1
call_number SleepUntil = 2
call_number Yield = 3
call_number Now = 4
call_number Reserve = 5
