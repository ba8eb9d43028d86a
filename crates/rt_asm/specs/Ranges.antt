-- The numbers that the places of an image hold.
use Rattle.std.specs.Prelude.{ℤ, pos, negsuc, Result}
use Rattle.rt_words.specs.Limits.{image_limit}
use Rattle.rt_asm.specs.Numbers.{between}
use Rattle.rt_asm.specs.declared.ranges.Range.{Range}
use Rattle.rt_asm.specs.declared.fault.AsmKind.{AsmKind}

abbrev pub from_to : ℤ → ℤ → Range
from_to low high = record { low = low; high = high }

-- the number, where it is in a range
abbrev pub within : Range → ℤ → Result ℤ AsmKind
within range n = between range.low range.high n

-- a signed 12-bit immediate, the upper 20 bits of a word, the number of places of a shift
abbrev pub immediates : Range
immediates = from_to (negsuc 2047) (pos 2047)

abbrev pub uppers : Range
uppers = from_to (pos 0) (pos 1048575)

abbrev pub shifts : Range
shifts = from_to (pos 0) (pos 31)

-- the distances of branches and of JAL, in bytes (RISC-V Unprivileged ISA 20191213, 2.5)
abbrev pub branches : Range
branches = from_to (negsuc 4095) (pos 4095)

abbrev pub jumps : Range
jumps = from_to (negsuc 1048575) (pos 1048575)

-- an item of `.byte`, and one of `.half`
abbrev pub bytes : Range
bytes = from_to (negsuc 127) (pos 255)

abbrev pub halves : Range
halves = from_to (negsuc 32767) (pos 65535)

-- the most zero bytes of one statement, and the greatest power of 2 to align to
abbrev pub counts : Range
counts = from_to (pos 0) (pos image_limit)

abbrev pub powers : Range
powers = from_to (pos 0) (pos 12)
