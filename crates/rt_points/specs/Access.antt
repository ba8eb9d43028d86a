-- The bytes that a word loads or stores where it is executed (RISC-V Unprivileged ISA 20191213, 2.6).
use Rattle.std.specs.Prelude.{ℕ, ◌+◌, zero, suc, ℤ, true, false, List, [], ◌∷◌, slice_index, Option, Some, None}
use Rattle.std.specs.Option.{option_and_then}
use Rattle.rt_words.specs.Modular.{sum32}
use Rattle.rt_exec.specs.Arithmetic.{extended}
use Rattle.rt_isa.specs.Table.{ins}
use Rattle.rt_isa.specs.declared.instruction.Ins.{Ins}
use Rattle.rt_isa.specs.declared.instruction.Ins.TheVariants.{Lb, Lh, Lw, Lbu, Lhu, Sb, Sh, Sw}
use Rattle.rt_points.specs.declared.access.Access.{Access}

-- so many bytes from rs1 displaced by an immediate on
abbrev pub loads : ℕ → List ℕ → ℕ → ℤ → Option Access
loads bytes x rs1 offset = Some (record { is_store = false; address = sum32 (slice_index x rs1) (extended offset); bytes = bytes })

abbrev pub stores : ℕ → List ℕ → ℕ → ℤ → Option Access
stores bytes x rs1 offset = Some (record { is_store = true; address = sum32 (slice_index x rs1) (extended offset); bytes = bytes })

-- the access of an instruction, with these registers
abbrev pub accessed : List ℕ → Ins → Option Access
accessed x (Lb rd rs1 offset) = loads 1 x rs1 offset
accessed x (Lh rd rs1 offset) = loads 2 x rs1 offset
accessed x (Lw rd rs1 offset) = loads 4 x rs1 offset
accessed x (Lbu rd rs1 offset) = loads 1 x rs1 offset
accessed x (Lhu rd rs1 offset) = loads 2 x rs1 offset
accessed x (Sb rs1 rs2 offset) = stores 1 x rs1 offset
accessed x (Sh rs1 rs2 offset) = stores 2 x rs1 offset
accessed x (Sw rs1 rs2 offset) = stores 4 x rs1 offset
accessed x _ = None

-- and of a word; nothing else accesses
abbrev pub access_of : ℕ → List ℕ → Option Access
access_of word x = option_and_then (accessed x) (ins word)

-- the addresses of n bytes, from the k-th behind an address on
abbrev pub addresses_from : ℕ → ℕ → ℕ → List ℕ
addresses_from address k zero = []
addresses_from address k (suc n) = sum32 address k ∷ addresses_from address (k + 1) n

-- the bytes of an access, in their order
abbrev pub bytes_of : Access → List ℕ
bytes_of access = addresses_from access.address 0 access.bytes
