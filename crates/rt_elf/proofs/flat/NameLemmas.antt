-- How symbols are put in order.
use Rattle.rt_elf.proofs.Common.{◌≡◌, ℕ, suc, ◌<◌, ◌≤◌, ◌+◌, ◌||◌, ◌&&◌, Bool, true, false, List, [], ◌∷◌, length, Option, Some, refl, sym, ap, ◌∙◌, arith, true≢false, lt-ltb, None, cond, if◌then◌else◌, both_true, bytes_eq, and_parts, bytes_eq-Decides, is_word, Label, is_name_size, is_placed, is_before, are_labels, may_stand, has_name, put, after_symbol, entry_labels, AreListed}
use Rattle.std.proofs.Common.{Bor}
use Rattle.std.specs.Prelude.{is_some}
use Rattle.std.specs.BTreeMap.{insert_entry}
use Rattle.std.specs.Cmp.Lexicographic.{slice_cmp}
use Rattle.std.specs.FinMap.{nat_cmp-IsAntisymmetric, slice_cmp-IsAntisymmetric}
use Rattle.std.specs.Map.{lookup}
use Rattle.std.specs.Ordering.{nat_cmp, is_lt, is_eq, match_ordering, ordering_reverse}
use Rattle.std.specs.declared.cmp.Ordering.{Ordering}
use Rattle.std.specs.declared.cmp.Ordering.TheVariants.{Less, Equal, Greater}
use Rattle.std.proofs.lemmas.Bool.{le-ltb}
use Rattle.std.proofs.lemmas.List.{length-map}
use Rattle.std.proofs.lemmas.Cmp.{nat_list_cmp_total, tied_itself}
use Rattle.rt_image.specs.ObjectFile.{is_label}
use Rattle.rt_image.proofs.LabelTests.{label_facts, label_is}
use Rattle.rt_elf.specs.flat.FlatNames.{is_kept}

abbrev pub by_bytes : List ℕ → List ℕ → Ordering
by_bytes = slice_cmp nat_cmp

-- a name that is not the other's, and not behind it, stands before it
before_it : (a b : List ℕ) → bytes_eq a b ≡ false → is_before b a ≡ false → is_before a b ≡ true
before_it a b differs behind = by (by_bytes a b) refl
  where
    by : (o : Ordering) → by_bytes a b ≡ o → is_lt o ≡ true
    by Less e = refl
    by Equal e = absurd (true≢false (sym ((bytes_eq-Decides a b).1 (slice_cmp-IsAntisymmetric nat_cmp-IsAntisymmetric a b e)) ∙ differs))
    by Greater e = absurd (true≢false (sym (ap is_lt (nat_list_cmp_total.antisymm b a ∙ ap ordering_reverse e)) ∙ behind))

parts : (n : ℕ) (before : List ℕ) (l : Label) (ls : List Label) → are_labels n before (l ∷ ls) ≡ true → (is_label n before l ≡ true) × (are_labels n l.name ls ≡ true)
parts n before l ls e = and_parts (is_label n before l) (are_labels n l.name ls) e

-- a symbol that an object may have, behind a name
stands_behind : (n : ℕ) (before : List ℕ) (l : Label) → may_stand n l ≡ true → is_before before l.name ≡ true → is_label n before l ≡ true
stands_behind n before l stands behind =
    let placed = and_parts (is_name_size (length l.name) && is_word l.name) (is_placed n l.address) stands in
    let word = and_parts (is_name_size (length l.name)) (is_word l.name) placed.0 in
    label_is n before l word.0 word.1 behind placed.1

renamed : (n : ℕ) (before name : List ℕ) (l : Label) → is_label n before l ≡ true → is_before name l.name ≡ true → is_label n name l ≡ true
renamed n before name l e behind = let f = label_facts n before l e in label_is n name l f.sized f.word behind f.placed

apart_parts : (a b : Bool) → (a || b) ≡ false → (a ≡ false) × (b ≡ false)
apart_parts true b e = absurd (true≢false e)
apart_parts false b e = (refl, e)

-- what is kept is put among the others in order
pub in_order : (n : ℕ) (before : List ℕ) (l : Label) (ms : List Label) → may_stand n l ≡ true → is_before before l.name ≡ true → has_name l.name ms ≡ false → are_labels n before ms ≡ true → are_labels n before (put l ms) ≡ true
in_order n before l [] stands behind apart fit = both_true (stands_behind n before l stands behind) refl
in_order n before l (m ∷ ms) stands behind apart fit =
    let differs = apart_parts (bytes_eq l.name m.name) (has_name l.name ms) apart in
    let first = parts n before m ms fit in
    by (is_before m.name l.name) refl first.0 first.1 differs.0 (λ e. in_order n m.name l ms stands e differs.1 first.1)
  where
    by : (b : Bool) → is_before m.name l.name ≡ b → is_label n before m ≡ true → are_labels n m.name ms ≡ true → bytes_eq l.name m.name ≡ false
        → (is_before m.name l.name ≡ true → are_labels n m.name (put l ms) ≡ true) → are_labels n before (if b then m ∷ put l ms else l ∷ m ∷ ms) ≡ true
    by true e first others differs again = both_true first (again e)
    by false e first others differs again = both_true (stands_behind n before l stands behind) (both_true (renamed n before l.name m first (before_it l.name m.name differs e)) others)

-- no word is empty
pub behind_none : (n : ℕ) (l : Label) → may_stand n l ≡ true → is_before [] l.name ≡ true
behind_none n l stands =
    let placed = and_parts (is_name_size (length l.name) && is_word l.name) (is_placed n l.address) stands in
    by l.name (and_parts (is_name_size (length l.name)) (is_word l.name) placed.0).1
  where
    by : (name : List ℕ) → is_word name ≡ true → is_before [] name ≡ true
    by [] e = absurd (true≢false (sym e))
    by (b ∷ bs) e = refl

length-put : (l : Label) (ms : List Label) → length (put l ms) ≡ suc (length ms)
length-put l [] = refl
length-put l (m ∷ ms) = by (is_before m.name l.name) (length-put l ms)
  where
    by : (b : Bool) → length (put l ms) ≡ suc (length ms) → length (if b then m ∷ put l ms else l ∷ m ∷ ms) ≡ suc (length (m ∷ ms))
    by true again = ap suc again
    by false again = refl

-- the symbols with one that is kept
pub listed : (n : ℕ) (l : Label) (ms : List Label) → may_stand n l ≡ true → has_name l.name ms ≡ false → length ms < 65536 → AreListed n ms → AreListed n (put l ms)
listed n l ms stands apart few h = record {
  fit = in_order n [] l ms stands (behind_none n l stands) apart h.fit;
  few = omega (arith, length-put l ms);
}

-- and what the definition of reading says of it
pub kept : (n k : ℕ) (l : Label) (ms : List Label) → may_stand n l ≡ true → has_name l.name ms ≡ false → length ms < 65536
    → after_symbol n (record { symbols = ms; left_out = k }) l ≡ Some (record { symbols = put l ms; left_out = k })
unfolding after_symbol
kept n k l ms stands apart few = rw (stands, apart, lt-ltb (length ms) 65536 few) refl

-- names are compared as their bytes are
apart_order : (a b : List ℕ) → bytes_eq a b ≡ false → (o : Ordering) → by_bytes a b ≡ o → is_eq o ≡ false
apart_order a b apart Less e = refl
apart_order a b apart Equal e = absurd (true≢false (sym ((bytes_eq-Decides a b).1 (slice_cmp-IsAntisymmetric nat_cmp-IsAntisymmetric a b e)) ∙ apart))
apart_order a b apart Greater e = refl

pub eq_bytes : (a b : List ℕ) → is_eq (by_bytes a b) ≡ bytes_eq a b
eq_bytes a b = by (bytes_eq a b) refl
  where
    by : (t : Bool) → bytes_eq a b ≡ t → is_eq (by_bytes a b) ≡ t
    by true same = ap is_eq (ap (by_bytes a) (sym ((bytes_eq-Decides a b).0 same)) ∙ tied_itself nat_list_cmp_total a)
    by false apart = apart_order a b apart (by_bytes a b) refl

either : (t b : Bool) (v : ℕ) (o : Option ℕ) → is_some o ≡ b → is_some (cond t (Some v) o) ≡ (t || b)
either true b v o h = refl
either false b v o h = h

-- a map has a name exactly where its labels have
pub known : (name : List ℕ) (es : List (Bor (List ℕ) × ℕ)) → is_some (lookup (λ k. is_eq (by_bytes name k.now)) es) ≡ has_name name (entry_labels es)
known name [] = refl
known name (e ∷ es) = rw (eq_bytes name e.0.now) (either (bytes_eq name e.0.now) (has_name name (entry_labels es)) e.1 (lookup (λ k. is_eq (by_bytes name k.now)) es) (known name es))

-- a new name goes to its place among the labels
pub placed : (k : Bor (List ℕ)) (v : ℕ) (es : List (Bor (List ℕ) × ℕ)) → has_name k.now (entry_labels es) ≡ false
    → entry_labels (insert_entry (λ a b. by_bytes a.now b.now) es k v) ≡ put (record { name = k.now; address = v }) (entry_labels es)
placed k v [] new = refl
placed k v (e ∷ es) new =
    let apart = apart_parts (bytes_eq k.now e.0.now) (has_name k.now (entry_labels es)) new in
    rw (nat_list_cmp_total.antisymm e.0.now k.now) (by (by_bytes k.now e.0.now) (eq_bytes k.now e.0.now ∙ apart.0) (placed k v es apart.1))
  where
    by : (o : Ordering) → is_eq o ≡ false → entry_labels (insert_entry (λ a b. by_bytes a.now b.now) es k v) ≡ put (record { name = k.now; address = v }) (entry_labels es)
        → entry_labels (match_ordering o ((k, v) ∷ e ∷ es) ((e.0, v) ∷ es) (e ∷ insert_entry (λ a b. by_bytes a.now b.now) es k v))
        ≡ (if is_lt (ordering_reverse o) then record { name = e.0.now; address = e.1 } ∷ put (record { name = k.now; address = v }) (entry_labels es)
        else record { name = k.now; address = v } ∷ record { name = e.0.now; address = e.1 } ∷ entry_labels es)
    by Less apart again = refl
    by Equal apart again = absurd (true≢false apart)
    by Greater apart again = ap (λ (ls : List Label). record { name = e.0.now; address = e.1 } ∷ ls) again

pub length-entries : (es : List (Bor (List ℕ) × ℕ)) → length (entry_labels es) ≡ length es
length-entries es = length-map es (λ e. record { name = e.0.now; address = e.1 })

-- what the definition of reading says of a symbol that is left out, and of one for which there is no room
pub unkept : (n k : ℕ) (l : Label) (ms : List Label) → is_kept n ms l ≡ false
    → after_symbol n (record { symbols = ms; left_out = k }) l ≡ Some (record { symbols = ms; left_out = k + 1 })
unfolding after_symbol
unkept n k l ms out = rw out refl

pub full : (n k : ℕ) (l : Label) (ms : List Label) → may_stand n l ≡ true → has_name l.name ms ≡ false → 65536 ≤ length ms
    → after_symbol n (record { symbols = ms; left_out = k }) l ≡ None
unfolding after_symbol
full n k l ms stands apart many = rw (stands, apart, le-ltb (length ms) 65536 many) refl
