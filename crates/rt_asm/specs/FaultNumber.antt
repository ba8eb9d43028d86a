-- The numbers of the faults of a source.
use Rattle.std.specs.Prelude.{ℕ}
use Rattle.rt_asm.specs.declared.fault.AsmKind.{AsmKind}
use Rattle.rt_asm.specs.declared.fault.AsmKind.TheVariants.{DuplicateLabel, UndefinedLabel, OutOfRange, OddTarget, TooLarge, NoEntry}

-- the number of each kind
abbrev pub number_of : AsmKind → ℕ
number_of DuplicateLabel = 1
number_of UndefinedLabel = 2
number_of OutOfRange = 3
number_of OddTarget = 4
number_of TooLarge = 5
number_of NoEntry = 6
