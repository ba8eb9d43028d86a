-- An object whose image has other bytes from a symbol on has a spelling.
use Rattle.rt_elf.proofs.Common.{◌≡◌, ℕ, ◌-◌, ◌+◌, ◌≤◌, ◌<◌, Bool, true, false, List, [], ◌∷◌, ◌++◌, length, take, drop, Option, Some, None, Ok, Err, refl, sym, ap, subst, ◌∙◌, arith, if◌then◌else◌, nat_le, both_true, bytes_eq, bytes_eq-Decides, and_parts, fold, length-take, base, SectionHeader, Symbol, Label, labels, are_labels, address_in, symbol_table, numbered, entry_count}
use Rattle.std.proofs.Common.{All}
use Rattle.std.specs.Global.{Vec}
use Rattle.std.specs.Prelude.{min, Result, MatchResult}
use Rattle.std.proofs.lemmas.Bool.{le-leb, leb-true}
use Rattle.std.proofs.lemmas.List.{length-append, length-drop}
use Rattle.std.proofs.lemmas.List.Elements.{All-append, All-take, All-drop}
use Rattle.rt_words.specs.Limits.{image_limit}
use Rattle.rt_image.specs.declared.object.Object.{Object}
use Rattle.rt_image.specs.ObjectFile.{ObjectValue, IsObject, object_value, is_label}
use Rattle.rt_image.specs.ObjectReading.{spelled_object}
use Rattle.rt_image.proofs.LabelTests.{label_facts, label_is}
use Rattle.rt_elf.specs.declared.laying.fault.NotLaid.{NotLaid}
use Rattle.rt_elf.specs.declared.laying.fault.NotLaid.TheVariants.{Memory}
use Rattle.rt_elf.specs.Working.Making.{Spells}
use Rattle.rt_elf.specs.laying.Room.{says_size, size_at, after_entry, each, ram_from, room_by, room_of}
use Rattle.rt_elf.specs.laying.LaidData.{laid_over, with_bytes, laid, Lays, LaysNone}

-- where a symbol of this name stands, and how long its name is
pub record Stands (n : ℕ) (name : List ℕ) (address : ℕ) : Type 0 where
  pub low : base ≤ address
  pub high : address ≤ base + n
  pub short : length name ≤ 512

first_stands : (n : ℕ) (before name : List ℕ) (l : Label) (address : ℕ) → is_label n before l ≡ true → name ≡ l.name → l.address ≡ address → Stands n name address
first_stands n before name l address fit same at =
    let facts = label_facts n before l fit in
    let placed = and_parts (nat_le base l.address) (nat_le l.address (base + n)) facts.placed in
    record {
      low = omega (arith, leb-true base l.address placed.0, at);
      high = omega (arith, facts.high, at);
      short = omega (arith, facts.short, ap length same);
    }

stands : (n : ℕ) (before name : List ℕ) (ls : List Label) (address : ℕ) → are_labels n before ls ≡ true → address_in ls name ≡ Some address → Stands n name address
stands n before name [] address fit is = absurd cc
stands n before name (l ∷ ls) address fit is =
    let parts = and_parts (is_label n before l) (are_labels n l.name ls) fit in
    by (bytes_eq name l.name) refl is parts.0 (λ later. stands n l.name name ls address parts.1 later)
  where
    by : (b : Bool) → bytes_eq name l.name ≡ b → (if b then Some l.address else address_in ls name) ≡ Some address → is_label n before l ≡ true
        → (address_in ls name ≡ Some address → Stands n name address) → Stands n name address
    by true e here fits later = first_stands n before name l address fits ((bytes_eq-Decides name l.name).0 e) cc
    by false e here fits later = later here

-- the same of an object's symbols
pub found : (object : Object) (symbols : List Symbol) (name : List ℕ) (result : Option ℕ) (address : ℕ) → IsObject (object_value object) → symbols ≡ object.symbols.items → result ≡ address_in (labels symbols) name → result ≡ Some address
    → (address_in (labels object.symbols.items) name ≡ Some address) × Stands (length object.bytes.now) name address
found object symbols name result address valid same is some =
    let here = ap (λ (ss : List Symbol). address_in (labels ss) name) (sym same) ∙ sym is ∙ some in
    (here, stands (length object.bytes.now) [] name (labels object.symbols.items) address valid.labels_fit here)

-- symbols of an object are those of a longer one
longer : (n m : ℕ) (before : List ℕ) (ls : List Label) → n ≤ m → are_labels n before ls ≡ true → are_labels m before ls ≡ true
longer n m before [] more fit = refl
longer n m before (l ∷ ls) more fit =
    let parts = and_parts (is_label n before l) (are_labels n l.name ls) fit in
    let facts = label_facts n before l parts.0 in
    let placed = and_parts (nat_le base l.address) (nat_le l.address (base + n)) facts.placed in
    let high : l.address ≤ base + m = omega (arith, facts.high, more) in
    both_true (label_is m before l facts.sized facts.word facts.rising (both_true placed.0 (le-leb l.address (base + m) high))) (longer n m l.name ls more parts.1)

-- there is room for no more than RAM has
no_more : (file : List ℕ) (table : SectionHeader) (l : Label) (ks : List ℕ) (room : ℕ) → fold (after_entry file table l) room ks ≤ room
no_more file table l [] room = omega arith
no_more file table l (k ∷ ks) room = by (says_size file table l k) (no_more file table l ks (min room (size_at file table k))) (no_more file table l ks room)
  where
    by : (b : Bool) → fold (after_entry file table l) (min room (size_at file table k)) ks ≤ min room (size_at file table k) → fold (after_entry file table l) room ks ≤ room
        → fold (after_entry file table l) (if b then min room (size_at file table k) else room) ks ≤ room
    by true less same = omega (arith, less)
    by false less same = same

pub within_ram : (elf : Option (List ℕ)) (l : Label) → room_of elf l ≤ ram_from l.address
within_ram None l = omega arith
within_ram (Some file) l = by (symbol_table file)
  where
    by : (table : Option SectionHeader) → room_by file table l ≤ ram_from l.address
    by None = omega arith
    by (Some table) = no_more file table l (numbered each 0 (entry_count table)) (ram_from l.address)

module _ (o : ObjectValue) (address : ℕ) (bytes : List ℕ) (low : base ≤ address) (high : address ≤ base + length o.bytes) where
  size : length (laid_over (address - base) bytes o.bytes) ≡ (address - base) + length bytes + (length o.bytes - (address - base + length bytes))
  size =
      let front : length (take (address - base) o.bytes) ≡ address - base = omega (arith, length-take (address - base) o.bytes, low, high) in
      length-append (take (address - base) o.bytes ++ bytes) (drop (address - base + length bytes) o.bytes)
      ∙ ap (λ (n : ℕ). n + length (drop (address - base + length bytes) o.bytes)) (length-append (take (address - base) o.bytes) bytes ∙ ap (λ (n : ℕ). n + length bytes) front)
      ∙ ap (λ (n : ℕ). (address - base) + length bytes + n) (length-drop (address - base + length bytes) o.bytes)

  pub laid_object : IsObject o → All (λ b. b < 256) bytes → address + length bytes ≤ base + image_limit → IsObject (with_bytes address bytes o)
  laid_object valid fit room = record {
    entry_fits = valid.entry_fits;
    bytes_fit =
        All-append (λ b. b < 256) (take (address - base) o.bytes ++ bytes) (drop (address - base + length bytes) o.bytes)
        (All-append (λ b. b < 256) (take (address - base) o.bytes) bytes (All-take (λ b. b < 256) (address - base) o.bytes valid.bytes_fit) fit)
        (All-drop (λ b. b < 256) (address - base + length bytes) o.bytes valid.bytes_fit);
    size = omega (arith, size, valid.size, room, low);
    count = valid.count;
    labels_fit = longer (length o.bytes) (length (laid_over (address - base) bytes o.bytes)) [] o.labels (omega (arith, size, low, high)) valid.labels_fit;
  }

-- ---- what is answered

module _ (elf : Option (List ℕ)) (name bytes file : List ℕ) (o : ObjectValue) where
  pub laid_is : (address : ℕ) → address_in o.labels name ≡ Some address → length bytes ≤ room_of elf (record { name = name; address = address }) → laid elf name bytes o ≡ Ok (with_bytes address bytes o)
  laid_is address is fits = rw (is, le-leb (length bytes) (room_of elf (record { name = name; address = address })) fits) refl

  pub outcome : (p : ObjectValue) → spelled_object file ≡ Ok o → laid elf name bytes o ≡ Ok p → (r : Result (Vec ℕ) NotLaid) → MatchResult r (λ new. Spells new.items p) (λ fault. fault ≡ Memory)
      → MatchResult r (λ new. Lays elf name bytes file new.items) (λ fault. LaysNone elf name bytes file fault)
  outcome p read is (Ok new) spells = (o, p, read, is, spells.valid, spells.spelled)
  outcome p read is (Err fault) memory = subst (λ (f : NotLaid). LaysNone elf name bytes file f) (sym memory) tt
