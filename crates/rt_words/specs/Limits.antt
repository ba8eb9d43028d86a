-- The sizes that are allowed.
use Rattle.std.specs.Prelude.{ℕ, ◌%◌, ◌^◌, Bool, ◌&&◌, ◌==◌, nat_le}

-- the ticks of a machine
abbrev pub tick_limit : ℕ
tick_limit = 2 ^ 40

-- the bytes of a RAM, and those of an image
abbrev pub ram_limit : ℕ
ram_limit = 1048576

abbrev pub image_limit : ℕ
image_limit = 1048576

-- the symbols of an object
abbrev pub symbol_limit : ℕ
symbol_limit = 65536

-- the bytes of a line of text without its end, and so of a name
abbrev pub line_limit : ℕ
line_limit = 512

-- a RAM may have this many bytes: whole words, at least one
abbrev pub is_ram_size : ℕ → Bool
is_ram_size size = nat_le 4 size && nat_le size ram_limit && (size % 4 == 0)
