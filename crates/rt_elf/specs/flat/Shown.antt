-- Which names of a program are told: those that GNU nm shows (RISC-V ELF psABI 1.0, "Mapping Symbol").
use Rattle.std.specs.Prelude.{ℕ, Bool, ◌==◌, ◌&&◌, not, nat_eq, List, length, codes}
use Rattle.std.specs.List.{starts_with}

-- not empty, no mark of where code or data begins, no label of the compiler's own
abbrev pub is_shown : List ℕ → Bool
is_shown name = not (length name == 0) && not (starts_with nat_eq name (codes "$x")) && not (starts_with nat_eq name (codes "$d")) && not (starts_with nat_eq name (codes ".L"))
