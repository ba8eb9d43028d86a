-- How far a file is read: until what follows can't change what it means.
use Rattle.std.specs.Prelude.{◌≡◌, ◌≢◌, ◌⊎◌, ℕ, ◌+◌, ◌-◌, ◌*◌, ◌<◌, ◌≤◌, ◌==◌, ◌&&◌, ◌||◌, nat_eq, nat_le, nat_lt, if◌then◌else◌, length, take, drop, count_by, List, [], ◌∷◌, ◌++◌, codes, Bool, true, false, Contains, Option, Some, None, Err}
use Rattle.std.specs.List.{starts_with}
use Rattle.byteorder.specs.Endian.{little_number}
use Rattle.rt_words.specs.Found.{◌>>=◌, when}
use Rattle.rt_words.specs.Limits.{image_limit, symbol_limit, line_limit}
use Rattle.rt_image.specs.SystemFile.{task_limit}
use Rattle.rt_image.specs.SystemReading.{file_limit, system_of}
use Rattle.rt_image.specs.declared.fault.ImageFault.{ImageFault}
use Rattle.rt_image.specs.declared.fault.ImageFault.TheVariants.{Truncated}
use Rattle.rt_text.specs.Text.{text_lines}
use Rattle.rt_text.specs.declared.fault.TextFault.{TextFault}
use Rattle.rt_set.specs.SetLines.{set_of}
use Rattle.rt_elf.specs.flat.ElfMagic.{is_elf}
use Rattle.rt_desk.specs.declared.reading.kind.FileKind.{FileKind}
use Rattle.rt_desk.specs.declared.reading.kind.FileKind.TheVariants.{Object, System, ObjectOrSystem, Source, WholeSource, Image, Elf, Set, Names}

-- how many bytes are read before it is asked whether others can matter
abbrev pub block_size : ℕ
block_size = 65536

-- the number that four bytes at a place spell, the lowest first
abbrev pub number_at : ℕ → List ℕ → Option ℕ
number_at place bytes = when (nat_le (place + 4) (length bytes)) (little_number 4 (drop place bytes))

-- a symbol: the length of its name, the name, its address
abbrev pub symbol_size : ℕ
symbol_size = 2 + line_limit + 4

-- the most bytes of an object file that begins with these; none where no object file does
abbrev pub most_of_object : List ℕ → Option ℕ
most_of_object bytes = do
  image ← number_at 8 bytes
  symbols ← number_at 12 bytes
  when (starts_with nat_eq bytes (codes "RTI1") && nat_le image image_limit && nat_le symbols symbol_limit) (16 + image + symbols * symbol_size)

-- the most bytes of an ELF file
abbrev pub elf_limit : ℕ
elf_limit = 67108864

-- an ELF file may stand in place of an object file: the most bytes of either that begins with these
abbrev pub most_for_object : List ℕ → Option ℕ
most_for_object bytes = if is_elf bytes then Some elf_limit else most_of_object bytes

-- a task of a system file: six numbers, and what is to be its object file
abbrev pub task_size : ℕ
task_size = 24 + file_limit

-- the most bytes of a system file that begins with these; none where no system file does
abbrev pub most_of_system : List ℕ → Option ℕ
most_of_system bytes = do
  tasks ← number_at 8 bytes
  when ((starts_with nat_eq bytes (codes "RTS1") || starts_with nat_eq bytes (codes "RTS2")) && nat_le tasks task_limit) (12 + tasks * task_size)

abbrev pub exceeds : Option ℕ → List ℕ → Bool
exceeds None bytes = true
exceeds (Some most) bytes = nat_lt most (length bytes)

-- a system file of these bytes is refused, and not for its end
abbrev pub IsRefusedSystem : List ℕ → Type 0
IsRefusedSystem bytes = (fault : ImageFault) × (system_of bytes ≡ Err fault) × (fault ≢ Truncated)

-- no system file begins with these bytes, or none that is so long
abbrev pub IsNoSystem : List ℕ → Type 0
IsNoSystem bytes = (exceeds (most_of_system bytes) bytes ≡ true) ⊎ IsRefusedSystem bytes

-- the first byte that ends no line
abbrev pub first_said : List ℕ → Option ℕ
first_said [] = None
first_said (b ∷ bs) = if b == 10 || b == 13 then first_said bs else Some b

-- the first line of a set that says something is a comment, or begins as `hyper` does
abbrev pub may_begin_set : Option ℕ → Bool
may_begin_set None = true
may_begin_set (Some b) = b == 35 || b == 104

-- the first line of a list of names that says something begins with a hexadecimal digit
abbrev pub may_begin_names : Option ℕ → Bool
may_begin_names None = true
may_begin_names (Some b) = (nat_le 48 b && nat_le b 57) || ((nat_le 65 b && nat_le b 70) || (nat_le 97 b && nat_le b 102))

-- a line of a source that has ended is faulty, or one before it
pub record HasFaultyText (text : List ℕ) : Type 0 where
  pub ended : List ℕ
  pub rest : List ℕ
  pub fault : TextFault
  pub parts : text ≡ ended ++ rest
  pub refused : text_lines ended ≡ Err fault
  pub within : fault.line ≤ count_by (λ b. b == 10) ended

-- a line of a set that has ended is faulty, or one before it
pub record HasFaultyLine (text : List ℕ) : Type 0 where
  pub ended : List ℕ
  pub rest : List ℕ
  pub number : ℕ
  pub parts : text ≡ ended ++ rest
  pub refused : set_of ended ≡ Err number
  pub within : number ≤ count_by (λ b. b == 10) ended

-- no set begins with these bytes, or a line of them is faulty
abbrev pub IsNoSet : List ℕ → Type 0
IsNoSet bytes = (may_begin_set (first_said (take block_size bytes)) ≡ false) ⊎ HasFaultyLine bytes

-- a set file may stand in place of a system file
abbrev pub takes_sets : FileKind → Bool
takes_sets System = true
takes_sets ObjectOrSystem = true
takes_sets kind = false

-- an ELF file may stand in place of an object file
abbrev pub takes_elf_files : FileKind → Bool
takes_elf_files Object = true
takes_elf_files ObjectOrSystem = true
takes_elf_files kind = false

-- What follows these bytes can't matter: they aren't what the file is to hold, or more than it can have, or a line or a field of them is faulty.
abbrev pub IsEnough : FileKind → List ℕ → Type 0
IsEnough Object bytes = exceeds (most_for_object bytes) bytes ≡ true
IsEnough System bytes = IsNoSystem bytes × IsNoSet bytes
IsEnough ObjectOrSystem bytes = (exceeds (most_for_object bytes) bytes ≡ true) × IsNoSystem bytes × IsNoSet bytes
IsEnough Source bytes = (Contains (drop (length bytes - (line_limit + 2)) bytes) 10 → ⊥) ⊎ HasFaultyText bytes
IsEnough WholeSource bytes = ⊥
IsEnough Image bytes = (is_elf bytes ≡ true) ⊎ (image_limit < length bytes)
IsEnough Elf bytes = elf_limit < length bytes
IsEnough Set bytes = IsNoSet bytes
IsEnough Names bytes = may_begin_names (first_said (take block_size bytes)) ≡ false
