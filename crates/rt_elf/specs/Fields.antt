-- The fields of an ELF file that are looked at, by their places (System V gABI, "ELF Header"). Numbers are little-endian.
use Rattle.std.specs.Prelude.{ℕ, zero, suc, ◌+◌, List, [], ◌∷◌, drop}
use Rattle.byteorder.specs.Endian.{little_number}

-- the number that the n bytes from a place on spell
unfoldable pub number : List ℕ → ℕ → ℕ → ℕ
number file at n = little_number n (drop at file)

abbrev pub class : List ℕ → ℕ
class file = number file 4 1

-- EI_DATA: the order of a number's bytes
abbrev pub byte_order : List ℕ → ℕ
byte_order file = number file 5 1

abbrev pub e_type : List ℕ → ℕ
e_type file = number file 16 2

abbrev pub e_machine : List ℕ → ℕ
e_machine file = number file 18 2

abbrev pub e_entry : List ℕ → ℕ
e_entry file = number file 24 4

abbrev pub e_phoff : List ℕ → ℕ
e_phoff file = number file 28 4

abbrev pub e_shoff : List ℕ → ℕ
e_shoff file = number file 32 4

abbrev pub e_flags : List ℕ → ℕ
e_flags file = number file 36 4

abbrev pub e_phentsize : List ℕ → ℕ
e_phentsize file = number file 42 2

abbrev pub e_phnum : List ℕ → ℕ
e_phnum file = number file 44 2

abbrev pub e_shentsize : List ℕ → ℕ
e_shentsize file = number file 46 2

abbrev pub e_shnum : List ℕ → ℕ
e_shnum file = number file 48 2

-- what f gives for the n numbers from k on
abbrev pub numbered : {X : Type 0} → (ℕ → X) → ℕ → ℕ → List X
numbered f k zero = []
numbered f k (suc n) = f k ∷ numbered f (k + 1) n
