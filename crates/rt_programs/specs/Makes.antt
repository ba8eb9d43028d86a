-- How a program that makes a file ends: it answers the file's bytes.
use Rattle.std.specs.Prelude.{ℕ, List, Result, Ok, Err, ⊤}
use Rattle.std.specs.Global.{Vec}
use Rattle.rt_opening.specs.declared.fault.SimFault.{SimFault}
use Rattle.rt_opening.specs.declared.fault.SimFault.TheVariants.{Memory, Device}

-- `Means` says what its input means: a file, or a refusal. The answer is that, or memory ran out. No device is written to.
abbrev pub Makes : (Result (List ℕ) SimFault → Type 0) → Result (Vec ℕ) SimFault → Type 0
Makes Means (Ok file) = Means (Ok file.items)
Makes Means (Err Memory) = ⊤
Makes Means (Err (Device _)) = ⊥
Makes Means (Err fault) = Means (Err fault)
