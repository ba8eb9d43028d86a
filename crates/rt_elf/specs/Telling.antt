-- Which entries of a symbol table tell a symbol, and in which order (System V gABI, "Symbol Table").
use Rattle.std.specs.Prelude.{ℕ, Bool, true, false, ◌==◌, ◌&&◌, ◌||◌, not, nat_le, List, ◌++◌, map, drop, if◌then◌else◌}
use Rattle.std.specs.List.{before_first, filter}
use Rattle.rt_image.specs.ObjectFile.{Label}
use Rattle.rt_elf.specs.flat.Shown.{is_shown}
use Rattle.rt_elf.specs.declared.symbols.Entry.{Entry}

-- no type, an object or a function, in a section, or a number
abbrev pub may_tell : Entry → Bool
may_tell e = nat_le e.kind 2 && ((nat_le 1 e.section && nat_le e.section 0xFEFF) || e.section == 0xFFF1 || e.section == 0xFFFF)

abbrev pub is_end : ℕ → Bool
is_end b = b == 0

-- the bytes of a string table from a place up to the next 0
abbrev pub string_at : List ℕ → ℕ → List ℕ
string_at names at = before_first is_end (drop at names)

-- an entry tells a symbol
abbrev pub tells : List ℕ → Entry → Bool
tells names e = may_tell e && is_shown (string_at names e.name)

-- which has this name and this address
abbrev pub told : List ℕ → Entry → Label
told names e = record { name = string_at names e.name; address = e.value }

-- STB_LOCAL: other files can't name it
abbrev pub is_local : Entry → Bool
is_local e = e.binding == 0

-- local entries, or the others
abbrev pub is_of : Bool → Entry → Bool
is_of local e = if local then is_local e else not (is_local e)

-- the symbols that are told by local entries, or by the others
abbrev pub told_by : Bool → List ℕ → List Entry → List Label
told_by local names es = map (told names) (filter (λ e. is_of local e && tells names e) es)

-- all of them: those that other files can name come first
abbrev pub all_told : List ℕ → List Entry → List Label
all_told names es = told_by false names es ++ told_by true names es
