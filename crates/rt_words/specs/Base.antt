-- Where RAM begins.
use Rattle.std.specs.Prelude.{ℕ}

-- the address of the first byte of RAM
abbrev pub base : ℕ
base = 0x80000000
