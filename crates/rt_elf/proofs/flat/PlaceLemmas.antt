-- Where the names of a list lie, line by line.
use Rattle.rt_elf.proofs.Common.{◌≡◌, ℕ, ◌&&◌, ◌||◌, not, Bool, true, false, List, [], ◌∷◌, length, Some, None, Ok, refl, ap, sym, subst, ◌∙◌, arith, inl, inr, and_parts, is_word, Label, is_name_size, is_placed, address_in, Named, name_lines, is_misplaced, entry_labels}
use Rattle.std.proofs.Common.{Contains, Bor}
use Rattle.std.specs.Map.{lookup}
use Rattle.std.specs.Ordering.{is_eq}
use Rattle.rt_elf.specs.flat.FlatNames.{names_of}
use Rattle.rt_elf.specs.flat.Kept.{Says}
use Rattle.rt_elf.specs.flat.Misplaced.{is_inside, is_so, some_lie}
use Rattle.rt_elf.proofs.flat.KeptLemmas.{are_those, first_or_later}
use Rattle.rt_elf.proofs.flat.NameLemmas.{by_bytes, eq_bytes}

-- behind a line whose symbol lies outside
outside : (found x y : Bool) → ((found || (true || x)) && not (false || y)) ≡ not y
outside true x y = refl
outside false x y = refl

pub outside_line : (value : Bool) (n : ℕ) (found : Bool) (text line after : List ℕ) → name_lines text ≡ line ∷ name_lines after → is_inside n line ≡ Some false
    → value ≡ ((found || some_lie n false (name_lines text)) && not (some_lie n true (name_lines text))) → value ≡ not (some_lie n true (name_lines after))
outside_line value n found text line after first is before =
    let seen : value ≡ ((found || some_lie n false (line ∷ name_lines after)) && not (some_lie n true (line ∷ name_lines after))) =
    subst (λ (lines : List (List ℕ)). value ≡ ((found || some_lie n false lines) && not (some_lie n true lines))) first before in
    seen ∙ rw is (outside found (some_lie n false (name_lines after)) (some_lie n true (name_lines after)))

-- and behind one that says nothing of it
pub silent_line : (value : Bool) (n : ℕ) (found : Bool) (text line after : List ℕ) → name_lines text ≡ line ∷ name_lines after → is_inside n line ≡ None
    → value ≡ ((found || some_lie n false (name_lines text)) && not (some_lie n true (name_lines text)))
    → value ≡ ((found || some_lie n false (name_lines after)) && not (some_lie n true (name_lines after)))
silent_line value n found text line after first is before =
    let seen : value ≡ ((found || some_lie n false (line ∷ name_lines after)) && not (some_lie n true (line ∷ name_lines after))) =
    subst (λ (lines : List (List ℕ)). value ≡ ((found || some_lie n false lines) && not (some_lie n true lines))) first before in
    seen ∙ rw is refl

-- ---- a list of which a symbol is kept

or_true : (b : Bool) → (b || true) ≡ true
or_true true = refl
or_true false = refl

and_false : (b : Bool) → (b && false) ≡ false
and_false true = refl
and_false false = refl

some_inside : (n : ℕ) (lines : List (List ℕ)) (line : List ℕ) → Contains lines line → is_inside n line ≡ Some true → some_lie n true lines ≡ true
some_inside n [] line c is = absurd (omega (arith, c.1))
some_inside n (x ∷ xs) line c is =
    elim (first_or_later x xs line c) [
      | inl same ↦ rw (same, is) refl
      | inr later ↦ rw (some_inside n xs line later is) (or_true (is_so true (is_inside n x)))
    ]

says_inside : (n : ℕ) (line : List ℕ) (l : Label) → Says n line l → is_inside n line ≡ Some true
says_inside n line l says =
    let placed = and_parts (is_name_size (length l.name) && is_word l.name) (is_placed n l.address) says.stands in
    rw (says.said, says.shown, placed.1) refl

pub not_misplaced : (n : ℕ) (text : List ℕ) (named : Named) → ¬ (length named.symbols ≡ 0) → names_of n text ≡ Ok named → is_misplaced n text ≡ false
not_misplaced n text named some read = by named.symbols refl
  where
    by : (symbols : List Label) → named.symbols ≡ symbols → is_misplaced n text ≡ false
    by [] is = absurd (some (ap length is))
    by (l ∷ ls) is =
        let those = are_those n text named read in
        let line = those.only l (subst (λ (symbols : List Label). Contains symbols l) (sym is) (0, omega arith, refl)) in
        rw (some_inside n (name_lines text) line.0 line.1 (says_inside n line.0 l line.2)) (and_false (some_lie n false (name_lines text)))

-- ---- a symbol by its name

pub found : (name : List ℕ) (es : List (Bor (List ℕ) × ℕ)) → lookup (λ k. is_eq (by_bytes name k.now)) es ≡ address_in (entry_labels es) name
found name [] = refl
found name (e ∷ es) = rw (eq_bytes name e.0.now, found name es) refl
