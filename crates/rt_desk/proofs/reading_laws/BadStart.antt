-- A text whose first byte that ends no line begins no good line: the line that it stands in is faulty, whatever follows.
use Rattle.rt_desk.proofs.Common.{◌≡◌, ◌⊎◌, ℕ, suc, ◌+◌, ◌<◌, ◌==◌, Bool, true, false, List, [], ◌∷◌, ◌++◌, length, take, Some, None, Result, Ok, Err, refl, sym, ap, subst, ◌∙◌, arith, inl, inr, cases_Bool, eqb-true, ne_eqb, length-slice_split, slice_split, position_or_len, strip_carriage_return, is_line_feed, first_said, is_space}
use Rattle.std.proofs.Common.{◌-◌, slice_index}
use Rattle.std.proofs.lemmas.List.Splits.{slice_split-cons_yes, slice_split-cons_no}
use Rattle.std.specs.List.{onto_first, before_first}
use Rattle.rt_desk.proofs.reading_laws.Lines.{over, over_ended}

-- a word has the first byte of its line, or none
pub word_first : (c : ℕ) (y : List ℕ) → (before_first is_space (c ∷ y) ≡ []) ⊎ ((z : List ℕ) × (before_first is_space (c ∷ y) ≡ c ∷ z))
word_first c y =
    elim (cases_Bool (is_space c)) [
      | inl space ↦ inl (rw space refl)
      | inr letter ↦ inr (take (position_or_len is_space y) y, (let more : 1 + position_or_len is_space y ≡ suc (position_or_len is_space y) = omega arith in rw (letter, more) refl))
    ]

-- a byte before the first part of others
onto_some : (c : ℕ) (ps : List (List ℕ)) → (y : List ℕ) × (ws : List (List ℕ)) × (onto_first c ps ≡ (c ∷ y) ∷ ws)
onto_some c [] = ([], [], refl)
onto_some c (p ∷ ps) = (p, ps, refl)

-- a line keeps its first byte, unless that is a carriage return before its end
strip_first : (c : ℕ) (y : List ℕ) → ((c == 13) ≡ false) ⊎ (0 < length y) → (z : List ℕ) × (strip_carriage_return (c ∷ y) ≡ c ∷ z)
strip_first c [] (inl other) = ([], rw other refl)
strip_first c [] (inr some) = absurd (omega (arith, some))
strip_first c (d ∷ y) either =
    elim (cases_Bool (slice_index (c ∷ d ∷ y) (length (c ∷ d ∷ y) - 1) == 13)) [
      | inl cut ↦ let size : length (c ∷ d ∷ y) - 1 ≡ suc (length y) = omega arith in (take (length y) (d ∷ y), rw (cut, size) refl)
      | inr whole ↦ (d ∷ y, rw whole refl)
    ]

module _ {S : Type 0} (step : S → ℕ × List ℕ → Result S (Unit {0})) (s : S) (is_bad : ℕ → Bool)
    (says_nothing : (q : ℕ) → step s (q, []) ≡ Ok s) (is_faulty : (q c : ℕ) (y : List ℕ) → is_bad c ≡ true → step s (q, c ∷ y) ≡ Err tt) (return_is_bad : is_bad 13 ≡ true) where
  abbrev read : ℕ → ℕ → List (List ℕ) → Result S ℕ
  read n place ps = over (λ line _. line) step n s place ps

  -- a line that begins badly
  bad_line : (n place c : ℕ) (y : List ℕ) (ws : List (List ℕ)) → is_bad c ≡ true → ((c == 13) ≡ false) ⊎ (0 < length y) → read n place ((c ∷ y) ∷ ws) ≡ Err n
  bad_line n place c y [] bad either = let some : (length (c ∷ y) == 0) ≡ false = ne_eqb (length (c ∷ y)) 0 (λ none. omega (arith, none)) in rw (some, is_faulty place c y bad) refl
  bad_line n place c y (w ∷ ws) bad either =
      let kept = strip_first c y either in
      rw (kept.1, is_faulty place c kept.0 bad) refl

  -- a line that says nothing
  empty_line : (n place : ℕ) (x : List ℕ) (ps : List (List ℕ)) → 0 < length ps → strip_carriage_return x ≡ [] → read n place (x ∷ ps) ≡ read (n + 1) (place + length x + 1) ps
  empty_line n place x ps some is = over_ended (λ line _. line) step n s place x ps some ∙ rw (is, says_nothing place) refl

  bad_parts : (n place c : ℕ) (t : List ℕ) → (c == 10) ≡ false → (c == 13) ≡ false → is_bad c ≡ true → read n place (slice_split is_line_feed (c ∷ t)) ≡ Err n
  bad_parts n place c t goes_on other bad =
      let part = onto_some c (slice_split is_line_feed t) in
      ap (read n place) (slice_split-cons_no is_line_feed c t goes_on ∙ part.2) ∙ bad_line n place c part.0 part.1 bad (inl other)

  bad_two : (n place c d : ℕ) (t : List ℕ) → (c == 10) ≡ false → (d == 10) ≡ false → is_bad c ≡ true → read n place (slice_split is_line_feed (c ∷ d ∷ t)) ≡ Err n
  bad_two n place c d t goes_on too bad =
      let part = onto_some d (slice_split is_line_feed t) in
      ap (read n place) (slice_split-cons_no is_line_feed c (d ∷ t) goes_on ∙ ap (onto_first c) (slice_split-cons_no is_line_feed d t too ∙ part.2))
      ∙ bad_line n place c (d ∷ part.0) part.1 bad (inr (omega arith))

  -- a line feed behind no more than a carriage return
  past_empty : (n place c : ℕ) (t : List ℕ) → (c == 10) ≡ true → read n place (slice_split is_line_feed (c ∷ t)) ≡ read (n + 1) (place + 1) (slice_split is_line_feed t)
  past_empty n place c t ends =
      ap (read n place) (slice_split-cons_yes is_line_feed c t ends) ∙ empty_line n place [] (slice_split is_line_feed t) (omega (arith, length-slice_split is_line_feed t)) refl
      ∙ (let next_place : place + 0 + 1 ≡ place + 1 = omega arith in ap (λ (p : ℕ). read (n + 1) p (slice_split is_line_feed t)) next_place)

  return_ended : (c : ℕ) → (c == 13) ≡ true → strip_carriage_return (c ∷ []) ≡ []
  return_ended c is = rw is refl

  past_return : (n place c d : ℕ) (t : List ℕ) → (c == 10) ≡ false → (c == 13) ≡ true → (d == 10) ≡ true
      → read n place (slice_split is_line_feed (c ∷ d ∷ t)) ≡ read (n + 1) (place + 2) (slice_split is_line_feed t)
  past_return n place c d t goes_on return ends =
      ap (read n place) (slice_split-cons_no is_line_feed c (d ∷ t) goes_on ∙ ap (onto_first c) (slice_split-cons_yes is_line_feed d t ends))
      ∙ empty_line n place (c ∷ []) (slice_split is_line_feed t) (omega (arith, length-slice_split is_line_feed t)) (return_ended c return)
      ∙ (let next_place : place + length (c ∷ []) + 1 ≡ place + 2 = omega arith in ap (λ (p : ℕ). read (n + 1) p (slice_split is_line_feed t)) next_place)

  is_bad_return : (c : ℕ) → (c == 13) ≡ true → is_bad c ≡ true
  is_bad_return c is = subst (λ (b : ℕ). is_bad b ≡ true) (sym (eqb-true c 13 is)) return_is_bad

  pub begins_badly : (text : List ℕ) (b : ℕ) (more : List ℕ) (n place : ℕ) → first_said text ≡ Some b → is_bad b ≡ true
      → (k : ℕ) × (read n place (slice_split is_line_feed (text ++ more)) ≡ Err k) × (read n place (slice_split is_line_feed text) ≡ Err k)
  begins_badly [] b more n place said bad = absurd cc
  begins_badly (c ∷ []) b more n place said bad =
      elim (cases_Bool (c == 10)) [
        | inl ends ↦ let none : None ≡ Some b = rw ends at said in absurd cc
        | inr goes_on ↦
            elim (cases_Bool (c == 13)) [
              | inl return ↦ let none : None ≡ Some b = rw (goes_on, return) at said in absurd cc
              | inr other ↦
                  let first : Some c ≡ Some b = rw (goes_on, other) at said in
                  let same : b ≡ c = cc in
                  let badly : is_bad c ≡ true = subst (λ (x : ℕ). is_bad x ≡ true) same bad in
                  (n, bad_parts n place c more goes_on other badly, bad_parts n place c [] goes_on other badly)
            ]
      ]
  begins_badly (c ∷ d ∷ t) b more n place said bad =
      elim (cases_Bool (c == 10)) [
        | inl ends ↦
            let later : first_said (d ∷ t) ≡ Some b = rw ends at said in
            let rest = begins_badly (d ∷ t) b more (n + 1) (place + 1) later bad in
            (rest.0, past_empty n place c (d ∷ t ++ more) ends ∙ rest.1, past_empty n place c (d ∷ t) ends ∙ rest.2)
        | inr goes_on ↦
            elim (cases_Bool (c == 13)) [
              | inl return ↦
                  elim (cases_Bool (d == 10)) [
                    | inl ends ↦
                        let later : first_said t ≡ Some b = rw (goes_on, return, ends) at said in
                        let rest = begins_badly t b more (n + 1) (place + 2) later bad in
                        (rest.0, past_return n place c d (t ++ more) goes_on return ends ∙ rest.1, past_return n place c d t goes_on return ends ∙ rest.2)
                    | inr too ↦
                        let badly = is_bad_return c return in
                        (n, bad_two n place c d (t ++ more) goes_on too badly, bad_two n place c d t goes_on too badly)
                  ]
              | inr other ↦
                  let first : Some c ≡ Some b = rw (goes_on, other) at said in
                  let same : b ≡ c = cc in
                  let badly : is_bad c ≡ true = subst (λ (x : ℕ). is_bad x ≡ true) same bad in
                  (n, bad_parts n place c (d ∷ t ++ more) goes_on other badly, bad_parts n place c (d ∷ t) goes_on other badly)
            ]
      ]
