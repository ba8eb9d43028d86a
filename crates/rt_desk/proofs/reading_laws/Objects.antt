-- What follows enough bytes of an object file changes nothing.
use Rattle.rt_desk.proofs.Common.{◌≡◌, ℕ, zero, suc, ◌+◌, ◌*◌, ◌<◌, ◌≤◌, ◌==◌, true, false, nat_eq, nat_lt, nat_le, List, [], ◌∷◌, ◌++◌, length, drop, Option, Some, Ok, refl, sym, ap, subst, ◌∙◌, arith, eqb-true, ne_eqb, length-drop, length-append, little_number, number_at, bytes_at, magic_at, spelled_object}
use Rattle.std.proofs.Common.{codes, eq-eqb}
use Rattle.std.proofs.lemmas.Bool.{ltb-true, le-leb}
use Rattle.std.specs.List.{starts_with}
use Rattle.rt_words.specs.Chain.{when}
use Rattle.rt_words.specs.Limits.{image_limit, symbol_limit}
use Rattle.rt_words.proofs.Chains.{bind_ok, bind_when, guard_ok}
use Rattle.rt_image.specs.declared.fault.ImageFault.TheVariants.{BadMagic, BadField, Trailing, Truncated}
use Rattle.rt_image.proofs.Fields.{ok_is}
use Rattle.rt_image.specs.ObjectReading.{Header, labels_at, header_at}
use Rattle.rt_desk.specs.reading.Extent.{most_of_object, exceeds}
use Rattle.rt_desk.proofs.reading_laws.Local.{Local, then_pair, then_rest, then_when, number_local, bytes_local, magic_local, labels_local}

header_local : (bytes more : List ℕ) → 16 ≤ length bytes → Local 0 more (header_at bytes) (header_at (bytes ++ more))
unfolding header_at
header_local bytes more big =
    then_rest (Local 0 more) (λ e. refl) 12 more (magic_at (codes "RTI1") bytes) (magic_at (codes "RTI1") (bytes ++ more)) _ (magic_local (codes "RTI1") 12 bytes more big)
    (λ rest _ left.
    then_pair (Local 0 more) (λ e. refl) 8 more (number_at 4 rest) (number_at 4 (rest ++ more)) _ (number_local 4 8 rest more left) (λ entry _ left.
    then_pair (Local 0 more) (λ e. refl) 4 more (number_at 4 entry.1) (number_at 4 (entry.1 ++ more)) _ (number_local 4 4 entry.1 more left) (λ size _ left.
    then_when (Local 0 more) (λ e. refl) (nat_le size.0 image_limit) BadField size.1 (size.1 ++ more) _ (λ _.
    then_pair (Local 0 more) (λ e. refl) 0 more (number_at 4 size.1) (number_at 4 (size.1 ++ more)) _ (number_local 4 0 size.1 more left) (λ count _ left.
    then_when (Local 0 more) (λ e. refl) (nat_le count.0 symbol_limit) BadField count.1 (count.1 ++ more) _ (λ _. (refl, left)))))))

-- a number is that of the first bytes, and the others follow
pub number_is : (k : ℕ) (bytes : List ℕ) (x : ℕ × List ℕ) → number_at k bytes ≡ Ok x → (little_number k bytes, drop k bytes) ≡ x
number_is k bytes x e = (guard_ok (nat_lt (length bytes) k) Truncated (little_number k bytes, drop k bytes) x e).1

drop_nil : (n : ℕ) → drop {A = ℕ} n [] ≡ []
drop_nil zero = refl
drop_nil (suc n) = refl

pub drop_drop : (m n k : ℕ) (bytes : List ℕ) → k ≡ n + m → drop m (drop n bytes) ≡ drop k bytes
drop_drop m zero k bytes is = let same : m ≡ k = omega (arith, is) in ap (λ (j : ℕ). drop j bytes) same
drop_drop m (suc n) k [] is = drop_nil m ∙ sym (drop_nil k)
drop_drop m (suc n) zero (b ∷ bs) is = absurd (omega (arith, is))
drop_drop m (suc n) (suc k) (b ∷ bs) is = drop_drop m n k bs (omega (arith, is))

-- the magic is what the file begins with, and is passed
pub magic_is : (letters bytes rest : List ℕ) → magic_at letters bytes ≡ Ok rest → (starts_with nat_eq bytes letters ≡ true) × (drop (length letters) bytes ≡ rest)
magic_is [] bytes rest e = (refl, cc)
magic_is (letter ∷ letters) [] rest e = absurd cc
magic_is (letter ∷ letters) (b ∷ bs) rest e =
    let step = bind_when (b == letter) BadMagic bs (magic_at letters) rest e in
    let others = magic_is letters bs rest step.1 in
    let same : nat_eq letter b ≡ true = eq-eqb letter b (sym (eqb-true b letter step.0)) in (rw (same, others.0) refl, others.1)

most_is : (bytes : List ℕ) (size count : ℕ) → nat_le 12 (length bytes) ≡ true → nat_le 16 (length bytes) ≡ true
    → little_number 4 (drop 8 bytes) ≡ size → little_number 4 (drop 12 bytes) ≡ count → starts_with nat_eq bytes (codes "RTI1") ≡ true
    → nat_le size image_limit ≡ true → nat_le count symbol_limit ≡ true → most_of_object bytes ≡ Some (16 + size + count * 518)
most_is bytes size count l m s c b sized counted = rw (l, m, s, c, b, sized, counted) refl

-- what the header says is what the file begins with
header_is : (bytes : List ℕ) (x : Header × List ℕ) → 16 ≤ length bytes → header_at bytes ≡ Ok x
    → (most_of_object bytes ≡ Some (16 + x.0.size + x.0.count * 518)) × (length bytes ≡ 16 + length x.1)
unfolding header_at
header_is bytes x big e =
    let magic = bind_ok (magic_at (codes "RTI1") bytes) _ x e in
    let entry = bind_ok (number_at 4 magic.0) _ x magic.2 in
    let size = bind_ok (number_at 4 entry.0.1) _ x entry.2 in
    let sized = bind_when (nat_le size.0.0 image_limit) BadField size.0.1 _ x size.2 in
    let count = bind_ok (number_at 4 size.0.1) _ x sized.1 in
    let counted = bind_when (nat_le count.0.0 symbol_limit) BadField count.0.1 _ x count.2 in
    let begins = magic_is (codes "RTI1") bytes magic.0 magic.1 in
    let entry_is = number_is 4 magic.0 entry.0 entry.1 in
    let size_is = number_is 4 entry.0.1 size.0 size.1 in
    let count_is = number_is 4 size.0.1 count.0 count.1 in
    let at_8 : drop 8 bytes ≡ entry.0.1 = sym (drop_drop 4 4 8 bytes refl) ∙ ap (drop 4) begins.1 ∙ ap (λ (p : ℕ × List ℕ). p.1) entry_is in
    let at_12 : drop 12 bytes ≡ size.0.1 = sym (drop_drop 4 8 12 bytes refl) ∙ ap (drop 4) at_8 ∙ ap (λ (p : ℕ × List ℕ). p.1) size_is in
    let at_16 : drop 16 bytes ≡ count.0.1 = sym (drop_drop 4 12 16 bytes refl) ∙ ap (drop 4) at_12 ∙ ap (λ (p : ℕ × List ℕ). p.1) count_is in
    let size_number : little_number 4 (drop 8 bytes) ≡ size.0.0 = ap (little_number 4) at_8 ∙ ap (λ (p : ℕ × List ℕ). p.0) size_is in
    let count_number : little_number 4 (drop 12 bytes) ≡ count.0.0 = ap (little_number 4) at_12 ∙ ap (λ (p : ℕ × List ℕ). p.0) count_is in
    let long_12 : nat_le 12 (length bytes) ≡ true = le-leb 12 (length bytes) (omega (arith, big)) in
    let long_16 : nat_le 16 (length bytes) ≡ true = le-leb 16 (length bytes) big in
    let whole : (record { entry = entry.0.0; size = size.0.0; count = count.0.0 }, count.0.1) ≡ x = ok_is _ x counted.1 in (
      most_is bytes size.0.0 count.0.0 long_12 long_16 size_number count_number begins.0 sized.0 counted.0
          ∙ ap (λ (y : Header × List ℕ). Some (16 + y.0.size + y.0.count * 518)) whole,
      omega (arith, big, length-drop 16 bytes, ap length at_16, ap (λ (y : Header × List ℕ). length y.1) whole),
    )

-- bytes behind the last symbol are told, however many
is_some_left : (n : ℕ) → 1 ≤ n → (n == 0) ≡ false
is_some_left n some = ne_eqb n 0 (λ none. omega (arith, some, none))

pub trailing : {X : Type 0} (n m : ℕ) (x y : X) → 1 ≤ n → 1 ≤ m → when (n == 0) Trailing x ≡ when (m == 0) Trailing y
trailing n m x y some more = rw (is_some_left n some, is_some_left m more) refl

pub object_law : (bytes more : List ℕ) → 16 ≤ length bytes → exceeds (most_of_object bytes) bytes ≡ true → spelled_object (bytes ++ more) ≡ spelled_object bytes
unfolding spelled_object
object_law bytes more big enough =
    then_pair (λ u v. v ≡ u) (λ e. refl) 0 more (header_at bytes) (header_at (bytes ++ more)) _ (header_local bytes more big) (λ header is _.
    let most = header_is bytes header big is in
    let over : 16 + header.0.size + header.0.count * 518 < length bytes = ltb-true _ _ (subst (λ (m : Option ℕ). exceeds m bytes ≡ true) most.0 enough) in
    then_pair (λ u v. v ≡ u) (λ e. refl) (header.0.count * 518 + 1) more (bytes_at header.0.size header.1) (bytes_at header.0.size (header.1 ++ more)) _
    (bytes_local header.0.size (header.0.count * 518 + 1) header.1 more (omega (arith, over, most.1)))
    (λ image _ left.
    then_pair (λ u v. v ≡ u) (λ e. refl) 1 more (labels_at header.0.count header.0.size [] image.1) (labels_at header.0.count header.0.size [] (image.1 ++ more)) _
    (labels_local header.0.count header.0.size [] 1 image.1 more left)
    (λ labels _ left. trailing (length (labels.1 ++ more)) (length labels.1) _ _ (omega (arith, left, length-append labels.1 more)) left)))
