-- Readers that look at no more than so many bytes: with more behind them they answer the same, and leave the more.
use Rattle.rt_desk.proofs.Common.{◌≡◌, ℕ, zero, suc, ◌+◌, ◌*◌, ◌≤◌, ◌==◌, Bool, true, false, nat_lt, nat_le, List, [], ◌∷◌, ◌++◌, length, Result, Ok, Err, refl, sym, ap, subst, ◌∙◌, arith, length-drop, length-append, little_number, number_at, bytes_at, magic_at}
use Rattle.std.proofs.lemmas.Bool.{le-ltb, leb-true, and_parts}
use Rattle.std.proofs.lemmas.List.{drop-append-le, take-append-le}
use Rattle.byteorder.specs.Endian.{little_from}
use Rattle.byteorder.specs.Numbers.{little_from-take}
use Rattle.rt_words.specs.Chain.{◌>>=◌, when}
use Rattle.rt_words.specs.Limits.{line_limit}
use Rattle.rt_token.specs.Word.{is_word}
use Rattle.rt_image.specs.declared.fault.ImageFault.{ImageFault}
use Rattle.rt_image.specs.declared.fault.ImageFault.TheVariants.{BadMagic, BadField, NotCanonical}
use Rattle.rt_image.specs.ObjectFile.{is_name_size, is_before, is_placed}
use Rattle.rt_image.specs.ObjectReading.{label_at, labels_at}

-- a value and the bytes behind it, of which so many are left at least, and the same with more behind them
abbrev pub Local : {A : Type 0} → ℕ → List ℕ → Result (A × List ℕ) ImageFault → Result (A × List ℕ) ImageFault → Type 0
Local n more (Ok x) with_more = (with_more ≡ Ok (x.0, x.1 ++ more)) × (n ≤ length x.1)
Local n more (Err e) with_more = with_more ≡ Err e

-- the same of bytes alone
abbrev pub Leaves : ℕ → List ℕ → Result (List ℕ) ImageFault → Result (List ℕ) ImageFault → Type 0
Leaves n more (Ok rest) with_more = (with_more ≡ Ok (rest ++ more)) × (n ≤ length rest)
Leaves n more (Err e) with_more = with_more ≡ Err e

-- steps of two readings that agree in Q
module _ {B : Type 0} (Q : Result B ImageFault → Result B ImageFault → Type 0) (same : (e : ImageFault) → Q (Err e) (Err e)) where
  pub then_pair : {A : Type 0} (n : ℕ) (more : List ℕ) (u v : Result (A × List ℕ) ImageFault) (f : A × List ℕ → Result B ImageFault) → Local n more u v
      → ((x : A × List ℕ) → u ≡ Ok x → n ≤ length x.1 → Q (f x) (f (x.0, x.1 ++ more))) → Q (u >>= f) (v >>= f)
  then_pair {A = A} n more (Ok x) v f (is, big) step = subst (λ (r : Result (A × List ℕ) ImageFault). Q (f x) (r >>= f)) (sym is) (step x refl big)
  then_pair {A = A} n more (Err e) v f is step = subst (λ (r : Result (A × List ℕ) ImageFault). Q (Err e) (r >>= f)) (sym is) (same e)

  pub then_rest : (n : ℕ) (more : List ℕ) (u v : Result (List ℕ) ImageFault) (f : List ℕ → Result B ImageFault) → Leaves n more u v
      → ((rest : List ℕ) → u ≡ Ok rest → n ≤ length rest → Q (f rest) (f (rest ++ more))) → Q (u >>= f) (v >>= f)
  then_rest n more (Ok rest) v f (is, big) step = subst (λ (r : Result (List ℕ) ImageFault). Q (f rest) (r >>= f)) (sym is) (step rest refl big)
  then_rest n more (Err e) v f is step = subst (λ (r : Result (List ℕ) ImageFault). Q (Err e) (r >>= f)) (sym is) (same e)

  pub then_when : {X : Type 0} (holds : Bool) (e : ImageFault) (x y : X) (f : X → Result B ImageFault) → (holds ≡ true → Q (f x) (f y))
      → Q (when holds e x >>= f) (when holds e y >>= f)
  then_when true e x y f step = step refl
  then_when false e x y f step = same e

  pub then_same : {X : Type 0} (u : Result X ImageFault) (f g : X → Result B ImageFault) → ((x : X) → Q (f x) (g x)) → Q (u >>= f) (u >>= g)
  then_same (Ok x) f g step = step x
  then_same (Err e) f g step = same e

  pub ends_when : (holds : Bool) (e : ImageFault) (x y : B) → Q (Ok x) (Ok y) → Q (when holds e x) (when holds e y)
  ends_when true e x y q = q
  ends_when false e x y q = same e

-- ---- fields

pub number_more : (k : ℕ) (bytes more : List ℕ) → k ≤ length bytes → little_number k (bytes ++ more) ≡ little_number k bytes
number_more k bytes more big =
    sym (little_from-take 0 k k (bytes ++ more) (omega arith)) ∙ ap (little_from 0 k) (take-append-le k bytes more big) ∙ little_from-take 0 k k bytes (omega arith)

pub number_local : (k n : ℕ) (bytes more : List ℕ) → k + n ≤ length bytes → Local n more (number_at k bytes) (number_at k (bytes ++ more))
number_local k n bytes more big =
    let fits : k ≤ length bytes = omega (arith, big) in
    let whole : nat_lt (length bytes) k ≡ false = le-ltb (length bytes) k fits in
    let longer : nat_lt (length (bytes ++ more)) k ≡ false = le-ltb (length (bytes ++ more)) k (omega (arith, fits, length-append bytes more)) in
    rw (whole, longer, number_more k bytes more fits, drop-append-le k bytes more fits) (refl, omega (arith, big, length-drop k bytes))

pub bytes_local : (k n : ℕ) (bytes more : List ℕ) → k + n ≤ length bytes → Local n more (bytes_at k bytes) (bytes_at k (bytes ++ more))
bytes_local k n bytes more big =
    let fits : k ≤ length bytes = omega (arith, big) in
    let whole : nat_lt (length bytes) k ≡ false = le-ltb (length bytes) k fits in
    let longer : nat_lt (length (bytes ++ more)) k ≡ false = le-ltb (length (bytes ++ more)) k (omega (arith, fits, length-append bytes more)) in
    rw (whole, longer, take-append-le k bytes more fits, drop-append-le k bytes more fits) (refl, omega (arith, big, length-drop k bytes))

pub magic_local : (letters : List ℕ) (n : ℕ) (bytes more : List ℕ) → length letters + n ≤ length bytes → Leaves n more (magic_at letters bytes) (magic_at letters (bytes ++ more))
magic_local [] n bytes more big = (refl, omega (arith, big))
magic_local (letter ∷ letters) n [] more big = absurd (omega (arith, big))
magic_local (letter ∷ letters) n (b ∷ bs) more big =
    then_when (Leaves n more) (λ e. refl) (b == letter) BadMagic bs (bs ++ more) (magic_at letters) (λ is. magic_local letters n bs more (omega (arith, big)))

-- ---- symbols

name_bound : (n : ℕ) → is_name_size n ≡ true → n ≤ line_limit
name_bound n is = leb-true n line_limit (and_parts (nat_le 1 n) (nat_le n line_limit) is).1

pub label_local : (size : ℕ) (before : List ℕ) (n : ℕ) (bytes more : List ℕ) → 518 + n ≤ length bytes → Local n more (label_at size before bytes) (label_at size before (bytes ++ more))
unfolding label_at
label_local size before n bytes more big =
    then_pair (Local n more) (λ e. refl) (516 + n) more (number_at 2 bytes) (number_at 2 (bytes ++ more)) _ (number_local 2 (516 + n) bytes more (omega (arith, big)))
    (λ len _ left.
    then_when (Local n more) (λ e. refl) (is_name_size len.0) BadField len.1 (len.1 ++ more) _ (λ sized.
    then_pair (Local n more) (λ e. refl) (4 + n) more (bytes_at len.0 len.1) (bytes_at len.0 (len.1 ++ more)) _ (bytes_local len.0 (4 + n) len.1 more (omega (arith, left, name_bound len.0 sized)))
    (λ name _ left.
    then_when (Local n more) (λ e. refl) (is_word name.0) BadField name.1 (name.1 ++ more) _ (λ word.
    then_when (Local n more) (λ e. refl) (is_before before name.0) NotCanonical name.1 (name.1 ++ more) _ (λ rises.
    then_pair (Local n more) (λ e. refl) n more (number_at 4 name.1) (number_at 4 (name.1 ++ more)) _ (number_local 4 n name.1 more left)
    (λ address _ left. then_when (Local n more) (λ e. refl) (is_placed size address.0) BadField address.1 (address.1 ++ more) _ (λ placed. (refl, left))))))))

pub labels_local : (count size : ℕ) (before : List ℕ) (n : ℕ) (bytes more : List ℕ) → count * 518 + n ≤ length bytes
    → Local n more (labels_at count size before bytes) (labels_at count size before (bytes ++ more))
unfolding labels_at
labels_local zero size before n bytes more big = (refl, omega (arith, big))
labels_local (suc count) size before n bytes more big =
    then_pair (Local n more) (λ e. refl) (count * 518 + n) more (label_at size before bytes) (label_at size before (bytes ++ more)) _
    (label_local size before (count * 518 + n) bytes more (omega (arith, big)))
    (λ first _ left.
    then_pair (Local n more) (λ e. refl) n more (labels_at count size first.0.name first.1) (labels_at count size first.0.name (first.1 ++ more)) _
    (labels_local count size first.0.name n first.1 more left) (λ others _ left. (refl, left)))
