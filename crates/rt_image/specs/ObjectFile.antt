-- What an object file spells, and the one spelling of each such value. All numbers are little-endian.
use Rattle.std.specs.Prelude.{◌≡◌, ℕ, ◌+◌, ◌^◌, ◌<◌, ◌≤◌, ◌&&◌, nat_le, List, [], ◌∷◌, ◌++◌, length, map, codes, All, true, Bool}
use Rattle.std.specs.List.{flat_map}
use Rattle.std.specs.Ordering.{nat_cmp, is_lt}
use Rattle.std.specs.Cmp.Lexicographic.{slice_cmp}
use Rattle.byteorder.specs.Endian.{little_bytes}
use Rattle.rt_words.specs.Base.{base}
use Rattle.rt_words.specs.Limits.{image_limit, line_limit, symbol_limit}
use Rattle.rt_token.specs.Word.{is_word}
use Rattle.rt_image.specs.declared.object.Symbol.{Symbol}
use Rattle.rt_image.specs.declared.object.Object.{Object}

-- a symbol, without where its name lies in memory
pub record Label : Type 0 where
  pub name : List ℕ
  pub address : ℕ

-- an object, without where it lies in memory
pub record ObjectValue : Type 0 where
  pub entry : ℕ
  pub bytes : List ℕ
  pub labels : List Label

-- what the program's symbols and objects stand for
abbrev pub label : Symbol → Label
label s = record { name = s.name.now; address = s.address }

abbrev pub labels : List Symbol → List Label
labels ss = map label ss

abbrev pub object_value : Object → ObjectValue
object_value o = record { entry = o.entry; bytes = o.bytes.now; labels = labels o.symbols.items }

-- one name stands before another by its bytes, as words in a dictionary do
abbrev pub is_before : List ℕ → List ℕ → Bool
is_before a b = is_lt (slice_cmp nat_cmp a b)

-- a name has at least one byte, and no more than a line
abbrev pub is_name_size : ℕ → Bool
is_name_size size = nat_le 1 size && nat_le size line_limit

-- an address in an image of n bytes, or just behind it
abbrev pub is_placed : ℕ → ℕ → Bool
is_placed n address = nat_le base address && nat_le address (base + n)

-- a symbol of an object of n bytes, after one of the name `before`
abbrev pub is_label : ℕ → List ℕ → Label → Bool
is_label n before l = is_name_size (length l.name) && is_word l.name && is_before before l.name && is_placed n l.address

-- symbols of an object of n bytes, each after the one before it
abbrev pub are_labels : ℕ → List ℕ → List Label → Bool
are_labels n before [] = true
are_labels n before (l ∷ ls) = is_label n before l && are_labels n l.name ls

-- what has a spelling. No name stands before the empty one, so the first symbol has no special case.
pub record IsObject (o : ObjectValue) : Type 0 where
  pub entry_fits : o.entry < 2 ^ 32
  pub bytes_fit : All (λ b. b < 256) o.bytes
  pub size : length o.bytes ≤ image_limit
  pub count : length o.labels ≤ symbol_limit
  pub labels_fit : are_labels (length o.bytes) [] o.labels ≡ true

-- a symbol: two bytes of length, the name, and four bytes of address
abbrev pub label_spelling : Label → List ℕ
label_spelling l = little_bytes 2 (length l.name) ++ l.name ++ little_bytes 4 l.address

-- the magic, the entry, the number of bytes and the number of symbols
abbrev pub header_spelling : ℕ → ℕ → ℕ → List ℕ
header_spelling entry size count = codes "RTI1" ++ little_bytes 4 entry ++ little_bytes 4 size ++ little_bytes 4 count

-- these, and then the bytes and the symbols
abbrev pub spelling : ObjectValue → List ℕ
spelling o = header_spelling o.entry (length o.bytes) (length o.labels) ++ o.bytes ++ flat_map label_spelling o.labels
