-- Reading an object file from front to back, with the first refusal that is met.
use Rattle.std.specs.Prelude.{◌≡◌, ℕ, zero, suc, List, [], ◌∷◌, length, take, drop, codes, Result, Ok, Err, nat_lt, nat_le, ◌==◌, if◌then◌else◌}
use Rattle.byteorder.specs.Endian.{little_number}
use Rattle.rt_words.specs.Chain.{◌>>=◌, when}
use Rattle.rt_words.specs.Limits.{image_limit, symbol_limit}
use Rattle.rt_token.specs.Word.{is_word}
use Rattle.rt_image.specs.declared.fault.ImageFault.{ImageFault}
use Rattle.rt_image.specs.declared.fault.ImageFault.TheVariants.{BadMagic, Truncated, Trailing, BadField, NotCanonical}
use Rattle.rt_image.specs.ReadFaults.{ReadFault}
use Rattle.rt_words.specs.declared.or_memory.OrMemory.TheVariants as faults
use Rattle.rt_image.specs.ObjectFile.{Label, ObjectValue, is_name_size, is_before, is_placed}

-- what a function answered, seen by view, is what reading gives
abbrev pub Reads : {X Y : Type 0} → (X → Y) → Result X ImageFault → Result Y ImageFault → Type 0
Reads view (Ok x) read = read ≡ Ok (view x)
Reads view (Err e) read = read ≡ Err e

-- a fault is the refusal of reading, or memory ran out
abbrev pub Fails : {Y : Type 0} → ReadFault → Result Y ImageFault → Type 0
Fails faults.Memory read = Unit {0}
Fails (faults.Fault e) read = read ≡ Err e

-- the same for a function that allocates
abbrev pub Gives : {X Y : Type 0} → (X → Y) → Result X ReadFault → Result Y ImageFault → Type 0
Gives view (Ok x) read = read ≡ Ok (view x)
Gives view (Err e) read = Fails e read

-- A field is a value and the bytes after it. A number of k bytes, the lowest first:
abbrev pub number_at : ℕ → List ℕ → Result (ℕ × List ℕ) ImageFault
number_at k bytes = if nat_lt (length bytes) k then Err Truncated else Ok (little_number k bytes, drop k bytes)

-- n bytes as they are
abbrev pub bytes_at : ℕ → List ℕ → Result (List ℕ × List ℕ) ImageFault
bytes_at n bytes = if nat_lt (length bytes) n then Err Truncated else Ok (take n bytes, drop n bytes)

-- one byte of the magic
abbrev pub letter_at : ℕ → List ℕ → Result (List ℕ) ImageFault
letter_at letter [] = Err Truncated
letter_at letter (byte ∷ rest) = when (byte == letter) BadMagic rest

-- the magic: a byte that differs comes before an end
abbrev pub magic_at : List ℕ → List ℕ → Result (List ℕ) ImageFault
magic_at [] bytes = Ok bytes
magic_at (letter ∷ letters) bytes = letter_at letter bytes >>= magic_at letters

-- a symbol of an object of n bytes, after one of the name `before`
unfoldable pub label_at : ℕ → List ℕ → List ℕ → Result (Label × List ℕ) ImageFault
label_at n before bytes = do
  len ← number_at 2 bytes
  after_len ← when (is_name_size len.0) BadField len.1
  name ← bytes_at len.0 after_len
  after_name ← when (is_word name.0) BadField name.1
  in_order ← when (is_before before name.0) NotCanonical after_name
  address ← number_at 4 in_order
  after_address ← when (is_placed n address.0) BadField address.1
  Ok (record { name = name.0; address = address.0 }, after_address)

-- so many symbols, each after the one before it
unfoldable pub labels_at : ℕ → ℕ → List ℕ → List ℕ → Result (List Label × List ℕ) ImageFault
labels_at zero n before bytes = Ok ([], bytes)
labels_at (suc count) n before bytes = do
  first ← label_at n before bytes
  others ← labels_at count n first.0.name first.1
  Ok (first.0 ∷ others.0, others.1)

-- what stands before the image
pub record Header : Type 0 where
  pub entry : ℕ
  pub size : ℕ
  pub count : ℕ

unfoldable pub header_at : List ℕ → Result (Header × List ℕ) ImageFault
header_at bytes = do
  after_magic ← magic_at (codes "RTI1") bytes
  entry ← number_at 4 after_magic
  size ← number_at 4 entry.1
  after_size ← when (nat_le size.0 image_limit) BadField size.1
  count ← number_at 4 after_size
  after_count ← when (nat_le count.0 symbol_limit) BadField count.1
  Ok (record { entry = entry.0; size = size.0; count = count.0 }, after_count)

-- the whole file
unfoldable pub spelled_object : List ℕ → Result ObjectValue ImageFault
spelled_object file = do
  header ← header_at file
  bytes ← bytes_at header.0.size header.1
  labels ← labels_at header.0.count header.0.size [] bytes.1
  when (length labels.1 == 0) Trailing (record { entry = header.0.entry; bytes = bytes.0; labels = labels.0 })
