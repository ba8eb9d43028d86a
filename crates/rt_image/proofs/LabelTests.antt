-- What the tests of symbols and of an object's parts say.
use Rattle.rt_image.proofs.Common.{◌≡◌, ℕ, ◌+◌, ◌^◌, ◌<◌, ◌≤◌, true, leb, List, [], length, and_parts, leb-true, le-leb, Label, ObjectValue, is_label, are_labels, IsObject}
use Rattle.std.proofs.Common.{◌&&◌, All}
use Rattle.std.specs.Cmp.Derive.{both_true}
use Rattle.rt_words.specs.Base.{base}
use Rattle.rt_words.specs.Limits.{image_limit, symbol_limit}
use Rattle.rt_token.specs.Word.{is_word}
use Rattle.rt_image.specs.ObjectFile.{is_name_size, is_before, is_placed}
use Rattle.rt_image.specs.Working.ObjectTest.{are_parts}

-- the tests of a symbol one by one, and the limits of its numbers
pub record LabelFacts (n : ℕ) (before : List ℕ) (l : Label) : Type 0 where
  pub sized : is_name_size (length l.name) ≡ true
  pub word : is_word l.name ≡ true
  pub rising : is_before before l.name ≡ true
  pub placed : is_placed n l.address ≡ true
  pub short : length l.name ≤ 512
  pub high : l.address ≤ base + n

pub label_facts : (n : ℕ) (before : List ℕ) (l : Label) → is_label n before l ≡ true → LabelFacts n before l
label_facts n before l e =
    let placed = and_parts (is_name_size (length l.name) && is_word l.name && is_before before l.name) (is_placed n l.address) e in
    let rising = and_parts (is_name_size (length l.name) && is_word l.name) (is_before before l.name) placed.0 in
    let word = and_parts (is_name_size (length l.name)) (is_word l.name) rising.0 in
    record {
      sized = word.0;
      word = word.1;
      rising = rising.1;
      placed = placed.1;
      short = leb-true (length l.name) 512 (and_parts (leb 1 (length l.name)) (leb (length l.name) 512) word.0).1;
      high = leb-true l.address (base + n) (and_parts (leb base l.address) (leb l.address (base + n)) placed.1).1;
    }

-- and back
pub label_is : (n : ℕ) (before : List ℕ) (l : Label) → is_name_size (length l.name) ≡ true → is_word l.name ≡ true → is_before before l.name ≡ true → is_placed n l.address ≡ true → is_label n before l ≡ true
label_is n before l sized word rising placed = both_true (both_true (both_true sized word) rising) placed

-- what passes the test has a spelling
pub image_is : (o : ObjectValue) → o.entry < 2 ^ 32 → All (λ b. b < 256) o.bytes → are_parts (length o.bytes) o.labels ≡ true → IsObject o
image_is o entry bytes e =
    let a = and_parts (leb (length o.bytes) image_limit && leb (length o.labels) symbol_limit) (are_labels (length o.bytes) [] o.labels) e in
    let b = and_parts (leb (length o.bytes) image_limit) (leb (length o.labels) symbol_limit) a.0 in
    record {
      entry_fits = entry;
      bytes_fit = bytes;
      size = leb-true (length o.bytes) image_limit b.0;
      count = leb-true (length o.labels) symbol_limit b.1;
      labels_fit = a.1;
    }

-- what has a spelling passes the test
pub image_is_not_refused : (o : ObjectValue) → IsObject o → are_parts (length o.bytes) o.labels ≡ true
image_is_not_refused o h =
    both_true (both_true (le-leb (length o.bytes) image_limit h.size) (le-leb (length o.labels) symbol_limit h.count)) h.labels_fit
