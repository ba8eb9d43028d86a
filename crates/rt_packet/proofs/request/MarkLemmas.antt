-- Texts that lack a mark, and what a mark cuts.
use Rattle.rt_packet.proofs.Common.{◌≡◌, ◌≢◌, ℕ, ◌+◌, ◌<◌, Bool, true, false, eqb, ltb, List, [], ◌∷◌, ◌++◌, length, take, drop, Some, None, refl, sym, ap, ◌∙◌, arith, lt-ltb, eq-eqb, ne_eqb, append_assoc, length-append, is_digit, AllByRecursion, list_all, position_or_len, and_parts, both_ways, is_mark, cut_at}
use Rattle.std.proofs.Common.{le-ltb, drop_at}
use Rattle.std.specs.Prelude.{All, not}
use Rattle.std.specs.List.{before_first, after_first, slice_split, join_with_byte}
use Rattle.std.proofs.lemmas.Bool.{not-true}
use Rattle.std.proofs.lemmas.List.{take_at}
use Rattle.std.proofs.lemmas.List.Elements.{All-from_recursion}
use Rattle.std.proofs.lemmas.List.Splits.{slice_split_none, slice_split_at}
use Rattle.rt_packet.specs.request.SpelledParts.{Lacks}

-- a byte that passes a test is no mark that does not
pub other_byte : (test : ℕ → Bool) (b mark : ℕ) → test mark ≡ false → test b ≡ true → b ≢ mark
other_byte test b mark fails passes = λ same. let no = rw (same, fails) at passes in cc

pub lacks_digits : (mark : ℕ) (ds : List ℕ) → is_digit mark 16 ≡ false → list_all (λ d. is_digit d 16) ds ≡ true → Lacks mark ds
lacks_digits mark [] out all = tt
lacks_digits mark (d ∷ ds) out all =
    let h = and_parts (is_digit d 16) (list_all (λ d. is_digit d 16) ds) all in
    (other_byte (λ d. is_digit d 16) d mark out h.0, lacks_digits mark ds out h.1)

pub lacks_join : (mark b : ℕ) (text rest : List ℕ) → b ≢ mark → Lacks mark text → Lacks mark rest → Lacks mark (text ++ b ∷ rest)
lacks_join mark b [] rest other h more = (other, more)
lacks_join mark b (c ∷ text) rest other h more = (h.0, lacks_join mark b text rest other h.1 more)

pub lacks_by_test : (mark : ℕ) (text : List ℕ) → list_all (λ b. not (eqb b mark)) text ≡ true → Lacks mark text
lacks_by_test mark [] all = tt
lacks_by_test mark (b ∷ bs) all =
    let h = and_parts (not (eqb b mark)) (list_all (λ b. not (eqb b mark)) bs) all in
    ((λ same. both_ways (eqb b mark) (not-true _ h.0) (eq-eqb b mark same)), lacks_by_test mark bs h.1)

-- ---- cuts

place : (mark : ℕ) (text rest : List ℕ) → Lacks mark text → position_or_len (is_mark mark) (text ++ mark ∷ rest) ≡ length text
place mark [] rest h = rw (eq-eqb mark mark refl) refl
place mark (b ∷ bs) rest h = rw (ne_eqb b mark h.0) (omega (arith, place mark bs rest h.1))

pub cut_again : (mark : ℕ) (text rest : List ℕ) → Lacks mark text → cut_at mark (text ++ mark ∷ rest) ≡ Some (text, rest)
cut_again mark text rest h =
    let line : List ℕ = text ++ mark ∷ rest in
    let at : position_or_len (is_mark mark) line ≡ length text = place mark text rest h in
    let inside : position_or_len (is_mark mark) line < length line = omega (arith, length-append text (mark ∷ rest)) in
    let front : before_first (is_mark mark) line ≡ text = ap (λ n. take n line) at ∙ take_at text (mark ∷ rest) (length text) refl in
    let next : length (text ++ mark ∷ []) ≡ length text + 1 = length-append text (mark ∷ []) in
    let regroup : line ≡ (text ++ mark ∷ []) ++ rest = sym (append_assoc text (mark ∷ []) rest) in
    let back : after_first (is_mark mark) line ≡ rest =
    (λ i. drop (at i + 1) (regroup i)) ∙ drop_at (text ++ mark ∷ []) rest (length text + 1) next in
    rw (lt-ltb _ _ inside) (λ i. Some (front i, back i))

no_place : (mark : ℕ) (text : List ℕ) → Lacks mark text → position_or_len (is_mark mark) text ≡ length text
no_place mark [] h = refl
no_place mark (b ∷ bs) h = rw (ne_eqb b mark h.0) (omega (arith, no_place mark bs h.1))

pub cut_none : (mark : ℕ) (text : List ℕ) → Lacks mark text → cut_at mark text ≡ None
cut_none mark text h =
    let beyond : ltb (position_or_len (is_mark mark) text) (length text) ≡ false =
    le-ltb _ _ (omega (arith, no_place mark text h)) in
    rw beyond refl

-- ---- parts

fails : (mark : ℕ) (text : List ℕ) → Lacks mark text → AllByRecursion (λ b. is_mark mark b ≡ false) text
fails mark [] h = tt
fails mark (b ∷ bs) h = (ne_eqb b mark h.0, fails mark bs h.1)

all_fail : (mark : ℕ) (text : List ℕ) → Lacks mark text → All (λ b. is_mark mark b ≡ false) text
all_fail mark text h = All-from_recursion (λ b. is_mark mark b ≡ false) text (fails mark text h)

pub one_part : (mark : ℕ) (text : List ℕ) → Lacks mark text → slice_split (is_mark mark) text ≡ text ∷ []
one_part mark text h = slice_split_none (is_mark mark) text (all_fail mark text h)

pub first_part : (mark : ℕ) (text rest : List ℕ) → Lacks mark text
    → slice_split (is_mark mark) (text ++ mark ∷ rest) ≡ text ∷ slice_split (is_mark mark) rest
first_part mark text rest h = slice_split_at (is_mark mark) text mark rest (all_fail mark text h) (eq-eqb mark mark refl)

-- the parts of joined parts
pub parts_again : (mark : ℕ) (text : List ℕ) (others : List (List ℕ)) → AllByRecursion (Lacks mark) (text ∷ others)
    → slice_split (is_mark mark) (join_with_byte mark (text ∷ others)) ≡ text ∷ others
parts_again mark text [] h = one_part mark text h.0
parts_again mark text (other ∷ others) h =
    first_part mark text (join_with_byte mark (other ∷ others)) h.0 ∙ ap (λ (ts : List (List ℕ)). text ∷ ts) (parts_again mark other others h.1)
