-- The bytes that are lent.
use Rattle.std.specs.Prelude.{ℕ, ◌+◌, ◌-◌, ◌==◌, if◌then◌else◌, List, [], slice_range, Option, Some, None}
use Rattle.rt_words.specs.Base.{base}
use Rattle.rt_exec.specs.mem.Access.{is_inside}

-- the bytes from an address on: none at all where `count` is 0, else those that all lie in RAM
abbrev pub span : List ℕ → ℕ → ℕ → Option (List ℕ)
span bytes address count =
    if count == 0
    then Some []
    else if is_inside count bytes address then Some (slice_range bytes (address - base) (address - base + count)) else None
