-- The words of a row (RISC-V Unprivileged ISA 20191213, 2.2).
use Rattle.std.specs.Prelude.{ℕ, List, ◌≡◌, Some}
use Rattle.std.specs.List.{slice_get}
use Rattle.rt_isa.specs.Table.{Format, row, table}

-- the table has a row of this mask, match and format
abbrev pub HasRow : ℕ → ℕ → Format → Type 0
HasRow mask match format = (place : ℕ) × (name : List ℕ) × (slice_get table place ≡ Some (row name mask match format))
