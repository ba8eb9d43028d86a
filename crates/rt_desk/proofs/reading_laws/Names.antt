-- A list of names whose first byte that ends no line is no hexadecimal digit is refused for the line that it stands in.
use Rattle.rt_desk.proofs.Common.{◌≡◌, ℕ, ◌==◌, nat_lt, Bool, true, false, List, [], ◌∷◌, ◌++◌, length, take, drop, Option, Some, None, Result, Err, refl, sym, ap, subst, ◌∙◌, arith, inl, inr, cases_Bool, lt-ltb, ne_eqb, append_assoc, take-append-drop, slice_split, position_or_len, is_line_feed, lines_of_parts, is_space, block_size, first_said}
use Rattle.std.proofs.Common.{not}
use Rattle.std.proofs.lemmas.Bool.Decides.{nat_tests}
use Rattle.std.specs.Char.{is_digit}
use Rattle.rt_elf.specs.flat.FlatNames.{Named, address_of, symbol_of, after_line, or_faulty, names_of}
use Rattle.rt_desk.specs.reading.Extent.{may_begin_names}
use Rattle.rt_desk.proofs.reading_laws.BadStart.{word_first, begins_badly}
use Rattle.rt_desk.proofs.reading_laws.Lines.{over}
use Rattle.rt_desk.proofs.reading_laws.Sets.{run_mapped}

abbrev is_no_start : ℕ → Bool
is_no_start b = not (may_begin_names (Some b))

no_digit : (c : ℕ) → is_no_start c ≡ true → is_digit c 16 ≡ false
no_digit c bad = grind (arith, nat_tests)

no_address : (c : ℕ) (z : List ℕ) → is_digit c 16 ≡ false → address_of (c ∷ z) ≡ None
no_address c z other =
    let some : nat_lt 0 (length (c ∷ z)) ≡ true = lt-ltb 0 (length (c ∷ z)) (omega arith) in
    elim (cases_Bool (length (c ∷ z) == 8)) [
      | inl eight ↦ rw (eight, some, other) refl
      | inr other_size ↦ rw other_size refl
    ]

no_symbol : (c : ℕ) (y : List ℕ) → is_no_start c ≡ true → symbol_of (c ∷ y) ≡ None
unfolding symbol_of
no_symbol c y bad =
    elim (cases_Bool (nat_lt (position_or_len is_space (c ∷ y)) (length (c ∷ y)))) [
      | inl ends ↦
          elim (word_first c y) [
            | inl empty ↦ rw (ends, empty) refl
            | inr first ↦ rw (ends, first.1, no_address c first.0 (no_digit c bad)) refl
          ]
      | inr goes_on ↦ rw goes_on refl
    ]

abbrev names_step : ℕ → Named → ℕ × List ℕ → Result Named (Unit {0})
names_step n before line = or_faulty (after_line n before line.1)

abbrev none_named : Named
none_named = record { symbols = []; left_out = 0 }

bad_line : (n q c : ℕ) (y : List ℕ) → is_no_start c ≡ true → names_step n none_named (q, c ∷ y) ≡ Err tt
bad_line n q c y bad = let some : (length (c ∷ y) == 0) ≡ false = ne_eqb (length (c ∷ y)) 0 (λ none. omega (arith, none)) in rw (some, no_symbol c y bad) refl

names_by_parts : (n : ℕ) (text : List ℕ) → names_of n text ≡ over (λ line _. line) (names_step n) 1 none_named 0 (slice_split is_line_feed text)
names_by_parts n text = run_mapped (λ line _. line) (λ before line. or_faulty (after_line n before line)) (λ (l : ℕ × List ℕ). l.1) 1 none_named (lines_of_parts 0 (slice_split is_line_feed text))

start_law : (n : ℕ) (bytes more : List ℕ) (b : ℕ) → first_said bytes ≡ Some b → is_no_start b ≡ true → names_of n (bytes ++ more) ≡ names_of n bytes
start_law n bytes more b said bad =
    let read = begins_badly (names_step n) none_named is_no_start (λ q. refl) (bad_line n) refl bytes b more 1 0 said bad in
    names_by_parts n (bytes ++ more) ∙ read.1 ∙ sym (names_by_parts n bytes ∙ read.2)

start_is : (bytes : List ℕ) → may_begin_names (first_said bytes) ≡ false → (b : ℕ) × (first_said bytes ≡ Some b) × (is_no_start b ≡ true)
start_is bytes bad = of_first (first_said bytes) refl bad
  where
    of_first : (first : Option ℕ) → first_said bytes ≡ first → may_begin_names first ≡ false → (b : ℕ) × (first_said bytes ≡ Some b) × (is_no_start b ≡ true)
    of_first None is bad = absurd cc
    of_first (Some b) is bad = (b, is, ap not bad)

begins_law : (n : ℕ) (block others more : List ℕ) → may_begin_names (first_said block) ≡ false → names_of n ((block ++ others) ++ more) ≡ names_of n (block ++ others)
begins_law n block others more bad =
    let first = start_is block bad in
    ap (names_of n) (append_assoc block others more) ∙ start_law n block (others ++ more) first.0 first.1 first.2 ∙ sym (start_law n block others first.0 first.1 first.2)

pub names_law : (bytes more : List ℕ) (n : ℕ) → may_begin_names (first_said (take block_size bytes)) ≡ false → names_of n (bytes ++ more) ≡ names_of n bytes
names_law bytes more n bad =
    subst (λ (l : List ℕ). names_of n (l ++ more) ≡ names_of n l) (take-append-drop block_size bytes) (begins_law n (take block_size bytes) (drop block_size bytes) more bad)
