-- The two laws of object files: what is read is spelled so, and what is spelled so is read.
use Rattle.rt_image.proofs.Common.{◌≡◌, ℕ, suc, ◌^◌, ◌<◌, ◌≤◌, true, leb, eqb, List, [], ◌∷◌, ◌++◌, length, Result, Ok, Err, refl, sym, ap, subst, ◌∙◌, append_assoc, arith, flat_map, and_parts, leb-true, le-leb, eqb-true, append-nil, little_bytes, ReadFault, Label, ObjectValue, is_label, are_labels, IsObject, label_spelling, spelling, Gives, number_at, bytes_at, magic_at, labels_at, spelled_object}
use Rattle.std.proofs.Common.{zero, codes}
use Rattle.std.specs.Prelude.{IfOk}
use Rattle.std.specs.Cmp.Derive.{both_true}
use Rattle.std.proofs.lemmas.List.{nil_from_length}
use Rattle.std.proofs.lemmas.List.Elements.{All-from_get_or}
use Rattle.std.proofs.lemmas.List.Concat.{flat_map-cons}
use Rattle.rt_image.specs.declared.fault.ImageFault.TheVariants.{Trailing, BadField, NotCanonical}
use Rattle.rt_image.specs.declared.object.Object.{Object}
use Rattle.rt_words.specs.Limits.{image_limit, symbol_limit}
use Rattle.rt_words.proofs.Chains.{bind_ok, bind_when, when_ok, bind_is, when_is}
use Rattle.rt_token.specs.Word.{is_word}
use Rattle.rt_image.specs.ObjectFile.{object_value, is_name_size, is_before, is_placed}
use Rattle.rt_image.specs.ObjectReading.{label_at, Header, header_at}
use Rattle.rt_image.proofs.Fields.{IsBytes, ok_is, Takes, Takes-then, wide2, wide4, number_takes, number_again, bytes_takes, bytes_again, magic_takes}
use Rattle.rt_image.proofs.LabelTests.{label_facts, label_is}

-- ---- a symbol

label_takes : (n : ℕ) (before bytes : List ℕ) (x : Label × List ℕ) → IsBytes bytes → label_at n before bytes ≡ Ok x → Takes bytes (label_spelling x.0) x.1 × (is_label n before x.0 ≡ true)
unfolding label_at
label_takes n before bytes x fits e =
    let len = bind_ok (number_at 2 bytes) _ x e in
    let sized = bind_when (is_name_size len.0.0) BadField len.0.1 _ x len.2 in
    let name = bind_ok (bytes_at len.0.0 len.0.1) _ x sized.1 in
    let word = bind_when (is_word name.0.0) BadField name.0.1 _ x name.2 in
    let rising = bind_when (is_before before name.0.0) NotCanonical name.0.1 _ x word.1 in
    let address = bind_ok (number_at 4 name.0.1) _ x rising.1 in
    let placed = bind_when (is_placed n address.0.0) BadField address.0.1 _ x address.2 in
    let t0 = number_takes 2 (2 ^ 16) wide2 bytes len.0 fits len.1 in
    let t1 = bytes_takes len.0.0 len.0.1 name.0 t0.0.rest_fits name.1 in
    let t2 = number_takes 4 (2 ^ 32) wide4 name.0.1 address.0 t1.0.rest_fits address.1 in
    let front = Takes-then bytes (little_bytes 2 len.0.0) len.0.1 name.0.0 name.0.1 t0.0 t1.0 in
    let parts = Takes-then bytes (little_bytes 2 len.0.0 ++ name.0.0) name.0.1 (little_bytes 4 address.0.0) address.0.1 front t2.0 in
    let whole : Takes bytes (little_bytes 2 (length name.0.0) ++ name.0.0 ++ little_bytes 4 address.0.0) address.0.1 =
    subst (λ (k : ℕ). Takes bytes (little_bytes 2 k ++ name.0.0 ++ little_bytes 4 address.0.0) address.0.1) (sym t1.1) parts in
    let named : is_name_size (length name.0.0) ≡ true = ap is_name_size t1.1 ∙ sized.0 in
    let made : Label × List ℕ = (record { name = name.0.0; address = address.0.0 }, address.0.1) in
    subst (λ (y : Label × List ℕ). Takes bytes (label_spelling y.0) y.1 × (is_label n before y.0 ≡ true)) (ok_is made x placed.1)
    (whole, label_is n before made.0 named word.0 rising.0 placed.0)

label_again : (n : ℕ) (before : List ℕ) (l : Label) (rest : List ℕ) → n ≤ image_limit → is_label n before l ≡ true → label_at n before (label_spelling l ++ rest) ≡ Ok (l, rest)
unfolding label_at
label_again n before l rest small passes =
    let fits = label_facts n before l passes in
    let after = little_bytes 4 l.address ++ rest in
    let regrouped : label_spelling l ++ rest ≡ little_bytes 2 (length l.name) ++ (l.name ++ after) =
    append_assoc (little_bytes 2 (length l.name) ++ l.name) (little_bytes 4 l.address) rest ∙ append_assoc (little_bytes 2 (length l.name)) l.name after in
    let len : number_at 2 (label_spelling l ++ rest) ≡ Ok (length l.name, l.name ++ after) = ap (number_at 2) regrouped ∙ number_again 2 (2 ^ 16) wide2 (length l.name) (l.name ++ after) (omega (arith, fits.short)) in
    bind_is (number_at 2 (label_spelling l ++ rest)) _ (length l.name, l.name ++ after) len
    ∙ when_is (is_name_size (length l.name)) BadField (l.name ++ after) _ fits.sized
    ∙ bind_is (bytes_at (length l.name) (l.name ++ after)) _ (l.name, after) (bytes_again (length l.name) l.name after refl)
    ∙ when_is (is_word l.name) BadField after _ fits.word
    ∙ when_is (is_before before l.name) NotCanonical after _ fits.rising
    ∙ bind_is (number_at 4 after) _ (l.address, rest) (number_again 4 (2 ^ 32) wide4 l.address rest (omega (arith, fits.high)))
    ∙ when_is (is_placed n l.address) BadField rest _ fits.placed

-- ---- symbols

labels_take : (count n : ℕ) (before bytes : List ℕ) (x : List Label × List ℕ) → IsBytes bytes → labels_at count n before bytes ≡ Ok x → Takes bytes (flat_map label_spelling x.0) x.1 × (length x.0 ≡ count) × (are_labels n before x.0 ≡ true)
unfolding labels_at
labels_take zero n before bytes x fits e =
    subst (λ (y : List Label × List ℕ). Takes bytes (flat_map label_spelling y.0) y.1 × (length y.0 ≡ 0) × (are_labels n before y.0 ≡ true)) (ok_is ([], bytes) x e) (record { parts = refl; rest_fits = fits }, refl, refl)
labels_take (suc count) n before bytes x fits e =
    let a = bind_ok (label_at n before bytes) _ x e in
    let b = bind_ok (labels_at count n a.0.0.name a.0.1) _ x a.2 in
    let first = label_takes n before bytes a.0 fits a.1 in
    let second = labels_take count n a.0.0.name a.0.1 b.0 first.0.rest_fits b.1 in
    let parts = Takes-then bytes (label_spelling a.0.0) a.0.1 (flat_map label_spelling b.0.0) b.0.1 first.0 second.0 in
    let made : List Label × List ℕ = (a.0.0 ∷ b.0.0, b.0.1) in
    subst (λ (y : List Label × List ℕ). Takes bytes (flat_map label_spelling y.0) y.1 × (length y.0 ≡ suc count) × (are_labels n before y.0 ≡ true)) (ok_is made x b.2)
    (rw flat_map-cons parts, ap suc second.1, both_true first.1 second.2)

labels_again : (n : ℕ) (before : List ℕ) (ls : List Label) (rest : List ℕ) → n ≤ image_limit → are_labels n before ls ≡ true → labels_at (length ls) n before (flat_map label_spelling ls ++ rest) ≡ Ok (ls, rest)
unfolding labels_at
labels_again n before [] rest small fits = refl
labels_again n before (l ∷ ls) rest small passes =
    let fits = and_parts (is_label n before l) (are_labels n l.name ls) passes in
    let regrouped : flat_map label_spelling (l ∷ ls) ++ rest ≡ label_spelling l ++ (flat_map label_spelling ls ++ rest) =
    ap (λ (x : List ℕ). x ++ rest) (flat_map-cons label_spelling l ls) ∙ append_assoc (label_spelling l) (flat_map label_spelling ls) rest in
    ap (labels_at (suc (length ls)) n before) regrouped
    ∙ bind_is (label_at n before (label_spelling l ++ (flat_map label_spelling ls ++ rest))) _ (l, flat_map label_spelling ls ++ rest) (label_again n before l (flat_map label_spelling ls ++ rest) small fits.0)
    ∙ bind_is (labels_at (length ls) n l.name (flat_map label_spelling ls ++ rest)) _ (ls, rest) (labels_again n l.name ls rest small fits.1)

-- ---- what stands before the image

abbrev header_spelling : Header → List ℕ
header_spelling h = codes "RTI1" ++ little_bytes 4 h.entry ++ little_bytes 4 h.size ++ little_bytes 4 h.count

record IsHeader (h : Header) : Type 0 where
  entry_fits : h.entry < 2 ^ 32
  size_fits : h.size ≤ image_limit
  count_fits : h.count ≤ symbol_limit

header_takes : (bytes : List ℕ) (x : Header × List ℕ) → IsBytes bytes → header_at bytes ≡ Ok x → Takes bytes (header_spelling x.0) x.1 × IsHeader x.0
unfolding header_at
header_takes bytes x fits e =
    let magic = bind_ok (magic_at (codes "RTI1") bytes) _ x e in
    let entry = bind_ok (number_at 4 magic.0) _ x magic.2 in
    let size = bind_ok (number_at 4 entry.0.1) _ x entry.2 in
    let small = bind_when (leb size.0.0 image_limit) BadField size.0.1 _ x size.2 in
    let count = bind_ok (number_at 4 size.0.1) _ x small.1 in
    let few = bind_when (leb count.0.0 symbol_limit) BadField count.0.1 _ x count.2 in
    let t0 = magic_takes (codes "RTI1") bytes magic.0 fits magic.1 in
    let t1 = number_takes 4 (2 ^ 32) wide4 magic.0 entry.0 t0.rest_fits entry.1 in
    let t2 = number_takes 4 (2 ^ 32) wide4 entry.0.1 size.0 t1.0.rest_fits size.1 in
    let t3 = number_takes 4 (2 ^ 32) wide4 size.0.1 count.0 t2.0.rest_fits count.1 in
    let one = Takes-then bytes (codes "RTI1") magic.0 (little_bytes 4 entry.0.0) entry.0.1 t0 t1.0 in
    let two = Takes-then bytes (codes "RTI1" ++ little_bytes 4 entry.0.0) entry.0.1 (little_bytes 4 size.0.0) size.0.1 one t2.0 in
    let three = Takes-then bytes (codes "RTI1" ++ little_bytes 4 entry.0.0 ++ little_bytes 4 size.0.0) size.0.1 (little_bytes 4 count.0.0) count.0.1 two t3.0 in
    let made : Header × List ℕ = (record { entry = entry.0.0; size = size.0.0; count = count.0.0 }, count.0.1) in
    subst (λ (y : Header × List ℕ). Takes bytes (header_spelling y.0) y.1 × IsHeader y.0) (ok_is made x few.1)
    (three, record { entry_fits = t1.1; size_fits = leb-true size.0.0 image_limit small.0; count_fits = leb-true count.0.0 symbol_limit few.0 })

header_again : (h : Header) (rest : List ℕ) → IsHeader h → header_at (header_spelling h ++ rest) ≡ Ok (h, rest)
unfolding header_at
header_again h rest fits =
    let after_size = little_bytes 4 h.count ++ rest in
    let after_entry = little_bytes 4 h.size ++ after_size in
    let after_magic = little_bytes 4 h.entry ++ after_entry in
    bind_is (number_at 4 after_magic) _ (h.entry, after_entry) (number_again 4 (2 ^ 32) wide4 h.entry after_entry fits.entry_fits)
    ∙ bind_is (number_at 4 after_entry) _ (h.size, after_size) (number_again 4 (2 ^ 32) wide4 h.size after_size (omega (arith, fits.size_fits)))
    ∙ when_is (leb h.size image_limit) BadField after_size _ (le-leb h.size image_limit fits.size_fits)
    ∙ bind_is (number_at 4 after_size) _ (h.count, rest) (number_again 4 (2 ^ 32) wide4 h.count rest (omega (arith, fits.count_fits)))
    ∙ when_is (leb h.count symbol_limit) BadField rest _ (le-leb h.count symbol_limit fits.count_fits)

-- ---- the whole file

pub image_takes : (file : List ℕ) (o : ObjectValue) → IsBytes file → spelled_object file ≡ Ok o → IsObject o × (file ≡ spelling o)
unfolding spelled_object
image_takes file o fits e =
    let header = bind_ok (header_at file) _ o e in
    let bytes = bind_ok (bytes_at header.0.0.size header.0.1) _ o header.2 in
    let labels = bind_ok (labels_at header.0.0.count header.0.0.size [] bytes.0.1) _ o bytes.2 in
    let ended = when_ok (eqb (length labels.0.1) 0) Trailing (record { entry = header.0.0.entry; bytes = bytes.0.0; labels = labels.0.0 }) o labels.2 in
    let t0 = header_takes file header.0 fits header.1 in
    let t1 = bytes_takes header.0.0.size header.0.1 bytes.0 t0.0.rest_fits bytes.1 in
    let t2 = labels_take header.0.0.count header.0.0.size [] bytes.0.1 labels.0 t1.0.rest_fits labels.1 in
    let nothing : labels.0.1 ≡ [] = nil_from_length labels.0.1 (eqb-true _ _ ended.0) in
    let made : ObjectValue = record { entry = header.0.0.entry; bytes = bytes.0.0; labels = labels.0.0 } in
    let one = Takes-then file (header_spelling header.0.0) header.0.1 bytes.0.0 bytes.0.1 t0.0 t1.0 in
    let two = (Takes-then file (header_spelling header.0.0 ++ bytes.0.0) bytes.0.1 (flat_map label_spelling labels.0.0) labels.0.1 one t2.0).parts in
    let all : List ℕ = header_spelling header.0.0 ++ bytes.0.0 ++ flat_map label_spelling labels.0.0 in
    let parts : file ≡ spelling made = two ∙ ap (λ (r : List ℕ). all ++ r) nothing ∙ append-nil all
    ∙ ap (λ (n : ℕ). header_spelling (record { entry = header.0.0.entry; size = n; count = header.0.0.count }) ++ bytes.0.0 ++ flat_map label_spelling labels.0.0) (sym t1.1)
    ∙ ap (λ (n : ℕ). header_spelling (record { entry = header.0.0.entry; size = length bytes.0.0; count = n }) ++ bytes.0.0 ++ flat_map label_spelling labels.0.0) (sym t2.1) in
    subst (λ (y : ObjectValue). IsObject y × (file ≡ spelling y)) ended.1 (
      record {
        entry_fits = t0.1.entry_fits;
        bytes_fit = All-from_get_or (λ b. b < 256) bytes.0.0 0 (λ i _. t1.2 i);
        size = omega (arith, t1.1, t0.1.size_fits);
        count = omega (arith, t2.1, t0.1.count_fits);
        labels_fit = subst (λ (n : ℕ). are_labels n [] labels.0.0 ≡ true) (sym t1.1) t2.2;
      },
      parts,
    )

pub image_again : (o : ObjectValue) → IsObject o → spelled_object (spelling o) ≡ Ok o
unfolding spelled_object
image_again o fits =
    let header : Header = record { entry = o.entry; size = length o.bytes; count = length o.labels } in
    let text : List ℕ = flat_map label_spelling o.labels in
    let labels : labels_at (length o.labels) (length o.bytes) [] text ≡ Ok (o.labels, []) =
    ap (labels_at (length o.labels) (length o.bytes) []) (sym (append-nil text)) ∙ labels_again (length o.bytes) [] o.labels [] fits.size fits.labels_fit in
    bind_is (header_at (spelling o)) _ (header, o.bytes ++ text) (header_again header (o.bytes ++ text) (record { entry_fits = fits.entry_fits; size_fits = fits.size; count_fits = fits.count }))
    ∙ bind_is (bytes_at (length o.bytes) (o.bytes ++ text)) _ (o.bytes, text) (bytes_again (length o.bytes) o.bytes text refl)
    ∙ bind_is (labels_at (length o.labels) (length o.bytes) [] text) _ (o.labels, []) labels

pub one_image : (o p : ObjectValue) → IsObject o → IsObject p → spelling o ≡ spelling p → o ≡ p
one_image o p first second e = ok_is o p (sym (image_again o first) ∙ ap spelled_object e ∙ image_again p second)

pub is_found : (file : List ℕ) (r : Result Object ReadFault) → IsBytes file → Gives object_value r (spelled_object file) → IfOk r (λ o. IsObject (object_value o) × (file ≡ spelling (object_value o)))
is_found file (Ok o) fits given = image_takes file (object_value o) fits given
is_found file (Err e) fits given = tt
