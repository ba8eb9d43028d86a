-- The numbers of the refusals of a file.
use Rattle.std.specs.Prelude.{ℕ}
use Rattle.rt_image.specs.declared.fault.ImageFault.{ImageFault}
use Rattle.rt_image.specs.declared.fault.ImageFault.TheVariants.{BadMagic, Truncated, Trailing, BadField, NotCanonical}

-- each has its own number
abbrev pub fault_number : ImageFault → ℕ
fault_number BadMagic = 1
fault_number Truncated = 2
fault_number Trailing = 3
fault_number BadField = 4
fault_number NotCanonical = 5
