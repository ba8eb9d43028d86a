-- The numbers of the faults of a text.
use Rattle.std.specs.Prelude.{ℕ}
use Rattle.rt_text.specs.declared.fault.TextKind.{TextKind}
use Rattle.rt_text.specs.declared.fault.TextKind.TheVariants.{BadToken, BadNumber, UnknownName, BadOperands, LineTooLong, NotAscii}

-- the number of each kind
abbrev pub number_of : TextKind → ℕ
number_of BadToken = 1
number_of BadNumber = 2
number_of UnknownName = 3
number_of BadOperands = 4
number_of LineTooLong = 5
number_of NotAscii = 6
