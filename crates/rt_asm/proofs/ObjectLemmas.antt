-- The labels of a source, put in order, are the symbols of an object.
use Rattle.rt_asm.proofs.Common.{◌≡◌, ℕ, suc, ◌+◌, ◌≤◌, Bool, true, false, List, [], ◌∷◌, length, get_or, Ok, refl, sym, ap, subst, ◌∙◌, add-one, arith, true≢false, length-append, ◌≢◌, All, codes, if◌then◌else◌, bytes_eq, bytes_eq-Decides, Label, labels, AreLabelNames, SourceLine, Slice, address_in, labels_at, Layout, layout, base, ArePlaced, AreApart, Program}
use Rattle.std.specs.Prelude.{IsPermutation, Some}
use Rattle.std.specs.Cmp.Derive.{both_true}
use Rattle.std.specs.Cmp.Lexicographic.{slice_cmp}
use Rattle.std.specs.List.{IsDistinct, AllByRecursion}
use Rattle.std.specs.List.Sorted.{IsSortedByKey}
use Rattle.std.specs.Ordering.{nat_cmp, is_lt, ordering_reverse}
use Rattle.std.specs.declared.cmp.Ordering.{Ordering}
use Rattle.std.specs.declared.cmp.Ordering.TheVariants.{Less, Equal, Greater}
use Rattle.std.specs.FinMap.{nat_cmp-IsAntisymmetric, slice_cmp-IsAntisymmetric}
use Rattle.std.proofs.lemmas.Bool.{le-leb, leb-true, and_parts}
use Rattle.std.proofs.lemmas.Cmp.{nat_list_cmp_total}
use Rattle.std.proofs.lemmas.List.Elements.{All-nil, All-cons, All-head, All-tail, All-append}
use Rattle.std.proofs.lemmas.List.Sorted.{IsPermutation-map, All-permutation, length_permutation}
use Rattle.std.proofs.lemmas.Map.Keys.{IsDistinct-IsPermutation, IsDistinct-head, IsDistinct-tail}
use Rattle.rt_image.specs.ObjectFile.{is_name_size, is_before, is_placed, are_labels, label}
use Rattle.rt_image.proofs.LabelTests.{label_is}
use Rattle.rt_image.specs.declared.object.Symbol.{Symbol}
use Rattle.rt_token.specs.Word.{is_word}
use Rattle.rt_asm.specs.Working.Objects.{IsListed, IsComplete, IsWhole}
use Rattle.rt_asm.proofs.LayoutLemmas.{Kept, kept}

-- the names of a line, at their place
names_listed : (n place : ℕ) (names : List Slice) → AreLabelNames names → 0x80000000 ≤ place → place ≤ 0x80000000 + n → All (IsListed n) (labels_at place names)
names_listed n place [] h low high = All-nil (IsListed n)
names_listed n place (s ∷ ss) h low high =
    All-cons (IsListed n) (record { name = s.text; address = place }) (labels_at place ss)
    (record { word = h.0.word; short = h.0.short; placed = both_true (le-leb 0x80000000 place low) (le-leb place (0x80000000 + n) high) })
    (names_listed n place ss h.1 low high)

-- the labels of lines that are placed
pub listed : (known : List Label) (n place : ℕ) (lines : List SourceLine) (ls : List Label) (bytes : List ℕ) → ArePlaced known place lines ls bytes
    → All (λ line. AreLabelNames line.labels) lines → 0x80000000 ≤ place → place + length bytes ≤ 0x80000000 + n → All (IsListed n) ls
listed known n place [] ls bytes p h low high = subst (All (IsListed n)) (sym p.0) (All-nil (IsListed n))
listed known n place (l ∷ lines) ls bytes p h low high =
    let size : length bytes ≡ length p.1 + length p.3 = ap length p.7 ∙ length-append p.1 p.3 in
    subst (All (IsListed n)) (sym p.6)
    (All-append (IsListed n) (labels_at place l.labels) p.2
    (names_listed n place l.labels (All-head (λ line. AreLabelNames line.labels) l lines h) low (omega arith))
    (listed known n (place + length p.1) lines p.2 p.3 p.8 (All-tail (λ line. AreLabelNames line.labels) l lines h) (omega arith) (omega arith)))

-- Names that are apart, put in order.
abbrev same_name : Label → Label → Bool
same_name l m = bytes_eq l.name m.name

differ : (a b : List ℕ) → a ≢ b → bytes_eq a b ≡ false
differ a b h = by (bytes_eq a b) refl
  where
    by : (t : Bool) → bytes_eq a b ≡ t → t ≡ false
    by true e = absurd (h ((bytes_eq-Decides a b).0 e))
    by false e = refl

flips : (l m : Label) → same_name l m ≡ same_name m l
flips l m = by (bytes_eq l.name m.name) (bytes_eq m.name l.name) refl refl
  where
    by : (s t : Bool) → bytes_eq l.name m.name ≡ s → bytes_eq m.name l.name ≡ t → s ≡ t
    by true true e f = refl
    by true false e f = absurd (true≢false (sym ((bytes_eq-Decides m.name l.name).1 (sym ((bytes_eq-Decides l.name m.name).0 e))) ∙ f))
    by false true e f = absurd (true≢false (sym ((bytes_eq-Decides l.name m.name).1 (sym ((bytes_eq-Decides m.name l.name).0 f))) ∙ e))
    by false false e f = refl

unlike_all : (l : Label) (ls : List Label) → All (λ m. l.name ≢ m.name) ls → AllByRecursion (λ m. same_name l m ≡ false) ls
unlike_all l [] h = tt
unlike_all l (m ∷ ms) h = (differ l.name m.name (All-head (λ n. l.name ≢ n.name) m ms h), unlike_all l ms (All-tail (λ n. l.name ≢ n.name) m ms h))

distinct : (ls : List Label) → AreApart ls → IsDistinct same_name ls
unfolding IsDistinct
distinct [] h = tt
distinct (l ∷ ls) h = (unlike_all l ls h.0, distinct ls h.1)

-- a name that is not the other's, and not behind it, stands before it
less : (a b : List ℕ) → bytes_eq a b ≡ false → is_before b a ≡ false → is_before a b ≡ true
less a b differs behind = by (slice_cmp nat_cmp a b) refl
  where
    by : (o : Ordering) → slice_cmp nat_cmp a b ≡ o → is_lt o ≡ true
    by Less e = refl
    by Equal e = absurd (true≢false (sym ((bytes_eq-Decides a b).1 (slice_cmp-IsAntisymmetric nat_cmp-IsAntisymmetric a b e)) ∙ differs))
    by Greater e = absurd (true≢false (sym (ap is_lt (nat_list_cmp_total.antisymm b a ∙ ap ordering_reverse e)) ∙ behind))

-- no name stands before the one in front of it
abbrev Ascends : List Label → Type 0
Ascends [] = Unit {0}
Ascends (l ∷ []) = Unit {0}
Ascends (l ∷ m ∷ ms) = (is_before m.name l.name ≡ false) × Ascends (m ∷ ms)

abbrev Follows : List ℕ → List Label → Type 0
Follows before [] = Unit {0}
Follows before (l ∷ ls) = is_before before l.name ≡ true

ascends : (ss : List Symbol) → IsSortedByKey (λ s. s.name) (λ a b. slice_cmp nat_cmp a.now b.now) ss → Ascends (labels ss)
ascends [] h = tt
ascends (s ∷ []) h = tt
ascends (s ∷ t ∷ ss) h = (
  h 0 s (omega arith) (omega arith),
  ascends (t ∷ ss) (λ k d low high.
      let g : is_lt (slice_cmp nat_cmp (get_or (t ∷ ss) (suc k) d).name.now (get_or (t ∷ ss) k d).name.now) ≡ false =
      subst (λ (j : ℕ). is_lt (slice_cmp nat_cmp (get_or (s ∷ t ∷ ss) j d).name.now (get_or (t ∷ ss) k d).name.now) ≡ false) (add-one (suc k)) (h (suc k) d (omega arith) (omega arith)) in
      subst (λ (j : ℕ). is_lt (slice_cmp nat_cmp (get_or (t ∷ ss) j d).name.now (get_or (t ∷ ss) k d).name.now) ≡ false) (sym (add-one k)) g),
)

follows : (l : Label) (ls : List Label) → IsDistinct same_name (l ∷ ls) → Ascends (l ∷ ls) → Follows l.name ls
follows l [] d a = tt
follows l (m ∷ ms) d a = less l.name m.name (IsDistinct-head same_name l (m ∷ ms) d).0 a.0

later : (l : Label) (ls : List Label) → Ascends (l ∷ ls) → Ascends ls
later l [] a = tt
later l (m ∷ ms) a = a.1

not_empty : (name : List ℕ) → is_word name ≡ true → 1 ≤ length name
not_empty [] h = absurd (true≢false (sym h))
not_empty (b ∷ bs) h = omega arith

first : (n : ℕ) (ls : List Label) → All (IsListed n) ls → Follows [] ls
first n [] h = tt
first n (l ∷ ls) h = by l.name (All-head (IsListed n) l ls h).word
  where
    by : (name : List ℕ) → is_word name ≡ true → is_before [] name ≡ true
    by [] e = absurd (true≢false (sym e))
    by (b ∷ bs) e = refl

ordered : (n : ℕ) (before : List ℕ) (ls : List Label) → All (IsListed n) ls → IsDistinct same_name ls → Ascends ls → Follows before ls → are_labels n before ls ≡ true
ordered n before [] all d a f = refl
ordered n before (l ∷ ls) all d a f =
    let one : IsListed n l = All-head (IsListed n) l ls all in
    let sized : is_name_size (length l.name) ≡ true = both_true (le-leb 1 (length l.name) (not_empty l.name one.word)) (le-leb (length l.name) 512 one.short) in
    both_true (label_is n before l sized one.word f one.placed)
    (ordered n l.name ls (All-tail (IsListed n) l ls all) (IsDistinct-tail same_name l ls d) (later l ls a) (follows l ls d a))

-- an image with its labels in order
pub record IsOrdered (p : Program) (ss : List Symbol) : Type 0 where
  pub fit : are_labels (length p.bytes) [] (labels ss) ≡ true
  pub count : length (labels ss) ≤ 65536
  pub same : IsPermutation p.labels (labels ss)

pub in_order : (p : Program) (old ss : List Symbol) → IsComplete p → labels old ≡ p.labels → IsPermutation old ss
    → IsSortedByKey (λ s. s.name) (λ a b. slice_cmp nat_cmp a.now b.now) ss → IsOrdered p ss
in_order p old ss c e moved sorted =
    let same : IsPermutation p.labels (labels ss) = subst (λ (ls : List Label). IsPermutation ls (labels ss)) e (IsPermutation-map label old ss moved) in
    let all : All (IsListed (length p.bytes)) (labels ss) = All-permutation (IsListed (length p.bytes)) p.labels (labels ss) same c.listed in
    record {
      fit = ordered (length p.bytes) [] (labels ss) all (IsDistinct-IsPermutation same_name flips p.labels (labels ss) same (distinct p.labels c.apart)) (ascends ss sorted) (first (length p.bytes) (labels ss) all);
      count = omega (arith, length_permutation p.labels (labels ss) same, c.count);
      same = same;
    }

-- what a source gives can be put into an object file
pub complete : (lines : List SourceLine) (plan : Layout) (ls : List Label) (out : List ℕ) (entry : ℕ) → layout lines ≡ Ok plan → All (λ line. AreLabelNames line.labels) lines
    → ArePlaced plan.labels base lines plan.labels out → length out ≤ 1048576 → ls ≡ plan.labels → address_in plan.labels (codes "_start") ≡ Some entry → IsComplete (record { entry = entry; bytes = out; labels = ls })
complete lines plan ls out entry laid named placed low e start =
    let k : Kept (record { place = base; labels = [] }) plan = kept 1 (record { place = base; labels = [] }) lines plan laid in
    subst (λ (x : List Label). IsComplete (record { entry = entry; bytes = out; labels = x })) (sym e)
    (record { size = low; count = k.few (omega arith); listed = listed plan.labels (length out) base lines plan.labels out placed named (omega arith) (omega arith); apart = k.apart tt; start = start })

-- what is placed so is complete wherever it begins at `_start`
pub whole : (lines : List SourceLine) (plan : Layout) (ls : List Label) (out : List ℕ) → layout lines ≡ Ok plan → All (λ line. AreLabelNames line.labels) lines
    → ArePlaced plan.labels base lines plan.labels out → length out ≤ 1048576 → ls ≡ plan.labels → IsWhole ls out
whole lines plan ls out laid named placed low e = λ entry start.
    complete lines plan ls out entry laid named placed low e (subst (λ (x : List Label). address_in x (codes "_start") ≡ Some entry) e start)

-- an address of a label is within the image, or just behind it
address_placed : (n : ℕ) (ls : List Label) (name : List ℕ) (address : ℕ) → All (IsListed n) ls → address_in ls name ≡ Some address → is_placed n address ≡ true
address_placed n [] name address h is = absurd cc
address_placed n (l ∷ ls) name address h is =
    by (bytes_eq name l.name) (λ e. address_placed n ls name address (All-tail (IsListed n) l ls h) e) is
  where
    by : (same : Bool) → (address_in ls name ≡ Some address → is_placed n address ≡ true) → (if same then Some l.address else address_in ls name) ≡ Some address → is_placed n address ≡ true
    by true later e = let here : l.address ≡ address = cc in subst (λ a. is_placed n a ≡ true) here (All-head (IsListed n) l ls h).placed
    by false later e = later e

-- and so is the entry
pub entry_placed : (p : Program) → IsComplete p → (0x80000000 ≤ p.entry) × (p.entry ≤ 0x80000000 + length p.bytes)
entry_placed p c =
    let parts = and_parts _ _ (address_placed (length p.bytes) p.labels (codes "_start") p.entry c.listed c.start) in
    (leb-true 0x80000000 p.entry parts.0, leb-true p.entry (0x80000000 + length p.bytes) parts.1)
