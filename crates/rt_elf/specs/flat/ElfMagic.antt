-- How an ELF file begins (System V gABI, "ELF Identification"): no flat image is taken that does.
use Rattle.std.specs.Prelude.{ℕ, Bool, nat_eq, List, ◌∷◌, codes}
use Rattle.std.specs.List.{starts_with}

-- 0x7F, `E`, `L`, `F`
abbrev pub magic : List ℕ
magic = 0x7F ∷ codes "ELF"

abbrev pub is_elf : List ℕ → Bool
is_elf file = starts_with nat_eq file magic
