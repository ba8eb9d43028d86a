-- Which symbols are kept, in the words of the entries that tell them.
use Rattle.std.specs.Prelude.{◌≡◌, ℕ, List, Contains, true, false}
use Rattle.rt_image.specs.ObjectFile.{Label}
use Rattle.rt_elf.specs.flat.FlatNames.{may_stand, has_name}
use Rattle.rt_elf.specs.declared.symbols.Entry.{Entry}
use Rattle.rt_elf.specs.Telling.{tells, told, is_local}

-- the entry tells this symbol, and an object of n bytes may have it
pub record Tells (n : ℕ) (names : List ℕ) (e : Entry) (l : Label) : Type 0 where
  pub tells_one : tells names e ≡ true
  pub this : told names e ≡ l
  pub stands : may_stand n l ≡ true

-- a symbol of the same name is kept that an entry tells that isn't local
pub record IsOfOther (n : ℕ) (names : List ℕ) (es : List Entry) (symbols : List Label) (l : Label) : Type 0 where
  pub entry : Entry
  pub symbol : Label
  pub there : Contains es entry
  pub other : is_local entry ≡ false
  pub told : Tells n names entry symbol
  pub kept : Contains symbols symbol
  pub named : symbol.name ≡ l.name

-- Each symbol is told by an entry, each name that an entry tells is there, and has the address that an entry tells that isn't local
-- where there is one.
pub record AreTold (n : ℕ) (names : List ℕ) (es : List Entry) (symbols : List Label) : Type 0 where
  pub only : (l : Label) → Contains symbols l → (e : Entry) × Contains es e × Tells n names e l
  pub all : (e : Entry) (l : Label) → Contains es e → Tells n names e l → has_name l.name symbols ≡ true
  pub others_first : (e : Entry) (l : Label) → Contains es e → is_local e ≡ false → Tells n names e l → IsOfOther n names es symbols l
