-- The labels that a map holds.
use Rattle.rt_asm.proofs.Common.{◌≡◌, ℕ, Bool, true, false, List, [], ◌∷◌, ◌++◌, Option, Some, None, Ok, Err, refl, sym, ap, ◌∙◌, true≢false, if◌then◌else◌, is_some, bytes_eq, Label, address_in, DuplicateLabel}
use Rattle.std.proofs.Common.{nat_eq}
use Rattle.std.specs.Cmp.Lexicographic.{pointwise}
use Rattle.std.specs.Map.{lookup}
use Rattle.std.proofs.lemmas.List.{map-append}
use Rattle.indexmap.specs.IndexMap.{IndexMap, insert_entry}
use Rattle.indexmap.proofs.CallerLemmas.{insert_entry-new}
use Rattle.rt_asm.specs.Working.LabelMap.{entry_label, entry_labels}
use Rattle.rt_asm.specs.declared.labels.Name.{Name}
use Rattle.rt_asm.specs.Layout.{with_label}

-- a look-up among the entries is one among the labels
pub address_in_entries : (name : List ℕ) (es : List (Name × ℕ)) → lookup (λ k. pointwise nat_eq name k.text.now) es ≡ address_in (entry_labels es) name
address_in_entries name [] = refl
address_in_entries name (e ∷ es) = ap (λ (r : Option ℕ). if bytes_eq name e.0.text.now then Some e.1 else r) (address_in_entries name es)

-- with_label, by what the look-up found
with_label_by : (place : ℕ) (ls : List Label) (es : List (Name × ℕ)) (name : List ℕ) (old : Option ℕ) → entry_labels es ≡ ls
    → old ≡ lookup (λ k. pointwise nat_eq name k.text.now) es
    → with_label place ls name ≡ (if is_some old then Err DuplicateLabel else Ok (ls ++ record { name = name; address = place } ∷ []))
with_label_by place ls es name old v o =
    ap (λ (r : Option ℕ). if is_some r then Err DuplicateLabel else Ok (ls ++ record { name = name; address = place } ∷ []))
    (ap (λ (x : List Label). address_in x name) (sym v) ∙ sym (address_in_entries name es) ∙ sym o)

-- a name that is there
pub duplicate : (place : ℕ) (ls : List Label) (es : List (Name × ℕ)) (name : List ℕ) (old : Option ℕ) → entry_labels es ≡ ls
    → old ≡ lookup (λ k. pointwise nat_eq name k.text.now) es → is_some old ≡ true → with_label place ls name ≡ Err DuplicateLabel
duplicate place ls es name old v o h =
    with_label_by place ls es name old v o ∙ ap (λ (b : Bool). if b then Err DuplicateLabel else Ok (ls ++ record { name = name; address = place } ∷ [])) h

none_of : (old : Option ℕ) → is_some old ≡ false → old ≡ None
none_of None h = refl
none_of (Some x) h = absurd (true≢false h)

-- a name that is new
pub added : {S : Type 0} (place : ℕ) (ls : List Label) (m : IndexMap Name ℕ S) (name : Name) (old : Option ℕ) (new : List (Name × ℕ))
    → entry_labels m.entries ≡ ls → old ≡ lookup (λ k. pointwise nat_eq name.text.now k.text.now) m.entries
    → new ≡ insert_entry (λ a b. pointwise nat_eq a.text.now b.text.now) m.entries name place → is_some old ≡ false
    → with_label place ls name.text.now ≡ Ok (entry_labels new)
added place ls m name old new v o n h =
    with_label_by place ls m.entries name.text.now old v o
    ∙ ap (λ (b : Bool). if b then Err DuplicateLabel else Ok (ls ++ record { name = name.text.now; address = place } ∷ [])) h
    ∙ ap Ok (ap (λ (x : List Label). x ++ record { name = name.text.now; address = place } ∷ []) (sym v)
    ∙ sym (map-append entry_label m.entries ((name, place) ∷ []))
    ∙ ap entry_labels (sym (n ∙ insert_entry-new (λ a b. pointwise nat_eq a.text.now b.text.now) m name place (sym o ∙ none_of old h))))
