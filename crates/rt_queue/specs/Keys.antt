-- A row of keys, which is what contracts see of a queue.
use Rattle.std.specs.Prelude.{ℕ, List, slice_index_or, Option, None}

-- the key of a number, if it has one; a row of keys says it for each number below its length
abbrev pub key_at : List (Option ℕ) → ℕ → Option ℕ
key_at keys number = slice_index_or keys number None
