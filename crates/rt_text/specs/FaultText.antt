-- The texts of the faults of a text.
use Rattle.std.specs.Prelude.{ℕ, List, ◌++◌, codes, decimal}
use Rattle.rt_text.specs.declared.fault.TextFault.{TextFault}
use Rattle.rt_text.specs.declared.fault.TextKind.{TextKind}
use Rattle.rt_text.specs.declared.fault.TextKind.TheVariants.{BadToken, BadNumber, UnknownName, BadOperands, LineTooLong, NotAscii}

-- the name of each kind
abbrev pub kind_text : TextKind → List ℕ
kind_text BadToken = codes "BadToken"
kind_text BadNumber = codes "BadNumber"
kind_text UnknownName = codes "UnknownName"
kind_text BadOperands = codes "BadOperands"
kind_text LineTooLong = codes "LineTooLong"
kind_text NotAscii = codes "NotAscii"

-- a fault tells its line first
abbrev pub fault_text : TextFault → List ℕ
fault_text fault = codes "line " ++ decimal fault.line ++ codes ": " ++ kind_text fault.kind
