-- Readers of the lines of a text one after the other: lines that have ended stay what they are, whatever follows.
use Rattle.rt_desk.proofs.Common.{◌≡◌, ℕ, ◌+◌, ◌<◌, ◌≤◌, ◌==◌, Bool, List, [], ◌∷◌, ◌++◌, length, Result, Ok, Err, refl, sym, ap, ◌∙◌, arith, inl, inr, length-slice_split, cases_Bool, slice_split, strip_carriage_return, run, lines_of_parts}
use Rattle.std.specs.List.{onto_first}
use Rattle.rt_words.specs.Run.{next}

-- the parts of a text, of which the last goes on in the first of others
abbrev pub joined : List (List ℕ) → List (List ℕ) → List (List ℕ)
joined [] us = us
joined (x ∷ []) [] = x ∷ []
joined (x ∷ []) (u ∷ us) = (x ++ u) ∷ us
joined (x ∷ y ∷ zs) us = x ∷ joined (y ∷ zs) us

pub some_joined : (y : List ℕ) (zs us : List (List ℕ)) → 0 < length (joined (y ∷ zs) us)
some_joined y [] [] = omega arith
some_joined y [] (u ∷ us) = omega arith
some_joined y (z ∷ zs) us = omega arith

onto_joined : (b : ℕ) (ps us : List (List ℕ)) → 0 < length ps → onto_first b (joined ps us) ≡ joined (onto_first b ps) us
onto_joined b [] us some = absurd (omega (arith, some))
onto_joined b (x ∷ []) [] some = refl
onto_joined b (x ∷ []) (u ∷ us) some = refl
onto_joined b (x ∷ y ∷ zs) us some = refl

before_joined : (ps us : List (List ℕ)) → 0 < length ps → [] ∷ joined ps us ≡ joined ([] ∷ ps) us
before_joined [] us some = absurd (omega (arith, some))
before_joined (x ∷ xs) us some = refl

-- the parts of two texts in one
pub split_append : (p : ℕ → Bool) (first second : List ℕ) → slice_split p (first ++ second) ≡ joined (slice_split p first) (slice_split p second)
split_append p [] second = none_joined (slice_split p second) (omega (arith, length-slice_split p second))
  where
    none_joined : (us : List (List ℕ)) → 0 < length us → us ≡ joined ([] ∷ []) us
    none_joined [] some = absurd (omega (arith, some))
    none_joined (u ∷ us) some = refl
split_append p (b ∷ bs) second =
    let some : 0 < length (slice_split p bs) = omega (arith, length-slice_split p bs) in
    elim (cases_Bool (p b)) [
      | inl ends ↦ rw (ends, split_append p bs second) (before_joined (slice_split p bs) (slice_split p second) some)
      | inr goes_on ↦ rw (goes_on, split_append p bs second) (onto_joined b (slice_split p bs) (slice_split p second) some)
    ]

pub ended : (place : ℕ) (x : List ℕ) (ps : List (List ℕ)) → 0 < length ps
    → lines_of_parts place (x ∷ ps) ≡ (place, strip_carriage_return x) ∷ lines_of_parts (place + length x + 1) ps
ended place x [] some = absurd (omega (arith, some))
ended place x (y ∷ ys) some = refl

module _ {S K F : Type 0} (at : ℕ → K → F) (step : S → ℕ × List ℕ → Result S K) where
  abbrev pub over : ℕ → S → ℕ → List (List ℕ) → Result S F
  over n s place ps = run at step n s (lines_of_parts place ps)

  pub over_ended : (n : ℕ) (s : S) (place : ℕ) (x : List ℕ) (ps : List (List ℕ)) → 0 < length ps
      → over n s place (x ∷ ps) ≡ next at n (step s (place, strip_carriage_return x)) (λ t. over (n + 1) t (place + length x + 1) ps)
  over_ended n s place x ps some = ap (run at step n s) (ended place x ps some)

  pub after_next : (n : ℕ) (r : Result S K) (f g : S → Result S F) → ((t : S) → f t ≡ g t) → next at n r f ≡ next at n r g
  after_next n (Ok t) f g same = same t
  after_next n (Err k) f g same = refl

  -- two texts that begin alike, where the reader answers the same of what follows
  pub same_front : (us vs : List (List ℕ)) → ((m : ℕ) (t : S) (q : ℕ) (x : List ℕ) → over m t q (joined (x ∷ []) us) ≡ over m t q (joined (x ∷ []) vs))
      → (x : List ℕ) (xs : List (List ℕ)) (n : ℕ) (s : S) (place : ℕ) → over n s place (joined (x ∷ xs) us) ≡ over n s place (joined (x ∷ xs) vs)
  same_front us vs last x [] n s place = last n s place x
  same_front us vs last x (y ∷ zs) n s place =
      over_ended n s place x (joined (y ∷ zs) us) (some_joined y zs us)
      ∙ after_next n (step s (place, strip_carriage_return x)) _ _ (λ t. same_front us vs last y zs (n + 1) t (place + length x + 1))
      ∙ sym (over_ended n s place x (joined (y ∷ zs) vs) (some_joined y zs vs))

-- a fault of a line that has ended stays, where faults name their lines
module _ {S K F : Type 0} (at : ℕ → K → F) (step : S → ℕ × List ℕ → Result S K) (line_of : F → ℕ) (is_of : (n : ℕ) (k : K) → line_of (at n k) ≡ n) where
  at_next : (n : ℕ) (e : F) (r : Result S K) (f g : S → Result S F) → ((t : S) → f t ≡ Err e → g t ≡ Err e) → next at n r f ≡ Err e → next at n r g ≡ Err e
  at_next n e (Ok t) f g same is = same t is
  at_next n e (Err x) f g same is = is

  one_line : (n : ℕ) (e : F) (r : Result S K) → next at n r (λ t. Ok t) ≡ Err e → n ≤ line_of e
  one_line n e (Ok t) is = absurd cc
  one_line n e (Err x) is = let same : at n x ≡ e = cc in omega (arith, is_of n x, ap line_of same)

  pub last_part : (n : ℕ) (e : F) (s : S) (place : ℕ) (x : List ℕ) → over at step n s place (x ∷ []) ≡ Err e → n ≤ line_of e
  last_part n e s place x is =
      elim (cases_Bool (length x == 0)) [
        | inl none ↦ let bad : Ok s ≡ Err e = rw none at is in absurd cc
        | inr some ↦ one_line n e (step s (place, x)) (rw some at is)
      ]

  ended_part : (us : List (List ℕ)) (x : List ℕ) (xs : List (List ℕ)) (n : ℕ) (e : F) (s : S) (place : ℕ) → line_of e < n + length xs
      → over at step n s place (x ∷ xs) ≡ Err e → over at step n s place (joined (x ∷ xs) us) ≡ Err e
  ended_part us x [] n e s place before is = let late = last_part n e s place x is in absurd (omega (arith, late, before))
  ended_part us x (y ∷ zs) n e s place before is =
      over_ended at step n s place x (joined (y ∷ zs) us) (some_joined y zs us)
      ∙ at_next n e (step s (place, strip_carriage_return x)) _ _ (λ t rest. ended_part us y zs (n + 1) e t (place + length x + 1) (omega (arith, before)) rest)
      (sym (over_ended at step n s place x (y ∷ zs) (omega arith)) ∙ is)

  -- from the first line on
  pub ended_fault : (ps us : List (List ℕ)) (e : F) (s : S) → line_of e + 1 ≤ length ps → over at step 1 s 0 ps ≡ Err e → over at step 1 s 0 (joined ps us) ≡ Err e
  ended_fault [] us e s some is = absurd (omega (arith, some))
  ended_fault (x ∷ xs) us e s some is = ended_part us x xs 1 e s 0 (omega (arith, some)) is
