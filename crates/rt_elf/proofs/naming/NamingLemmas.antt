-- An object with a symbol more at its entry has a spelling.
use Rattle.rt_elf.proofs.Common.{◌≡◌, ℕ, zero, suc, ◌<◌, ◌≤◌, ◌||◌, Bool, true, false, true≢false, List, [], ◌∷◌, length, Some, None, Ok, refl, sym, ap, arith, lt-ltb, insert, if◌then◌else◌, bytes_eq, both_true, is_word, Symbol, Label, label, labels, is_name_size, is_placed, address_in, has_name, may_stand}
use Rattle.std.proofs.lemmas.Bool.{le-leb}
use Rattle.std.proofs.lemmas.List.{length-map}
use Rattle.rt_image.specs.ObjectFile.{ObjectValue, IsObject}
use Rattle.rt_elf.proofs.flat.NameLemmas.{listed}
use Rattle.rt_elf.specs.naming.NamedEntry.{newly_named, with_name}

-- no symbol has a name that stands nowhere
unnamed : (name : List ℕ) (ls : List Label) → address_in ls name ≡ None → has_name name ls ≡ false
unnamed name [] e = refl
unnamed name (l ∷ ls) e = by (bytes_eq name l.name) e (unnamed name ls)
  where
    by : (b : Bool) → (if b then Some l.address else address_in ls name) ≡ None → (address_in ls name ≡ None → has_name name ls ≡ false) → (b || has_name name ls) ≡ false
    by true e again = absurd cc
    by false e again = again e

pub labels_insert : (ss : List Symbol) (k : ℕ) (s : Symbol) → labels (insert ss k s) ≡ insert (labels ss) k (label s)
labels_insert ss zero s = refl
labels_insert [] (suc k) s = refl
labels_insert (x ∷ ss) (suc k) s = ap (λ (ls : List Label). label x ∷ ls) (labels_insert ss k s)

pub few : (ss : List Symbol) → length ss < 65536 → length (labels ss) < 65536
few ss h = omega (arith, length-map ss label, h)

-- a word is short enough for a symbol where it has at most 64 bytes
sized : (name : List ℕ) → is_word name ≡ true → length name ≤ 64 → is_name_size (length name) ≡ true
sized [] word short = absurd (true≢false (sym word))
sized (b ∷ bs) word short = both_true (le-leb 1 (length (b ∷ bs)) (omega arith)) (le-leb (length (b ∷ bs)) 512 (omega (arith, short)))

pub one_more : (o : ObjectValue) (name : List ℕ) → IsObject o → address_in o.labels name ≡ None → is_word name ≡ true → length name ≤ 64
    → is_placed (length o.bytes) o.entry ≡ true → length o.labels < 65536 → (newly_named name o ≡ Ok (with_name name o)) × IsObject (with_name name o)
one_more o name valid new word short placed few =
    let stands : may_stand (length o.bytes) (record { name = name; address = o.entry }) ≡ true = both_true (both_true (sized name word short) word) placed in
    let fit = listed (length o.bytes) (record { name = name; address = o.entry }) o.labels stands (unnamed name o.labels new) few (record { fit = valid.labels_fit; few = valid.count }) in
    (rw (placed, lt-ltb (length o.labels) 65536 few) refl, record { entry_fits = valid.entry_fits; bytes_fit = valid.bytes_fit; size = valid.size; count = fit.few; labels_fit = fit.fit })
