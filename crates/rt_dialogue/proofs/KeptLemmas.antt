-- The first bytes of a line, kept in parts; and its end.
use Rattle.rt_dialogue.proofs.Common.{◌≡◌, ℕ, zero, suc, ◌+◌, ◌-◌, ◌<◌, ◌≤◌, Bool, true, false, eqb, ltb, List, [], ◌∷◌, ◌++◌, length, take, append-nil, append_assoc, refl, sym, ap, ◌∙◌, arith, inl, inr, subst, min, IsNext}
use Rattle.std.proofs.Common.{lt-ltb, ne_eqb, length-take-le, take_all}
use Rattle.std.specs.Prelude.{not}
use Rattle.std.proofs.lemmas.Bool.{cases_Bool, cases_lt, eq-eqb}
use Rattle.std.proofs.lemmas.List.{length-take}
use Rattle.std.proofs.BufReadLemmas.{take_through-nil}
use Rattle.std.specs.Io.BufRead.{take_through, drop_through, first_line, strip_last, ends_with_byte}
use Rattle.rt_dialogue.specs.Working.LineEnd.{without_end}

-- what is kept of one part, and then of another
pub kept_on : (n : ℕ) (xs ys : List ℕ) → take n xs ++ take (n - length (take n xs)) ys ≡ take n (xs ++ ys)
kept_on zero xs ys = let none : zero - 0 ≡ 0 = omega arith in ap (λ k. take k ys) none
kept_on (suc n) [] ys = let all : suc n - 0 ≡ suc n = omega arith in ap (λ k. take k ys) all
kept_on (suc n) (x ∷ xs) ys =
    let less : suc n - length (x ∷ take n xs) ≡ n - length (take n xs) = omega arith in
    ap (λ l. x ∷ l) (ap (λ k. take n xs ++ take k ys) less ∙ kept_on n xs ys)

-- so much of these bytes was read of a line that hasn't ended, and its first bytes are kept
pub record InLine (bytes left kept : List ℕ) : Type 0 where
  pub done : List ℕ
  pub is : kept ≡ take 515 done
  pub through : take_through 10 bytes ≡ done ++ take_through 10 left
  pub behind : drop_through 10 bytes ≡ drop_through 10 left

pub none_read : (bytes kept : List ℕ) → kept ≡ [] → InLine bytes bytes kept
none_read bytes kept is = record { done = []; is = is; through = refl; behind = refl }

one_more : (kept done new : List ℕ) (b : ℕ) → kept ≡ take 515 done → new ≡ kept ++ take (515 - length kept) (b ∷ []) → new ≡ take 515 (done ++ b ∷ [])
one_more kept done new b is more = more ∙ ap (λ l. l ++ take (515 - length l) (b ∷ [])) is ∙ kept_on 515 done (b ∷ [])

module _ (bytes kept : List ℕ) where
  -- the input has ended
  pub ends_with_input : (left : List ℕ) → left ≡ [] → InLine bytes left kept → (kept ≡ take 515 (take_through 10 bytes)) × (drop_through 10 bytes ≡ [])
  ends_with_input left none i = (
    i.is ∙ ap (take 515) (sym (i.through ∙ ap (λ l. i.done ++ take_through 10 l) none ∙ append-nil i.done)),
    i.behind ∙ ap (drop_through 10) none,
  )

  module _ (left rest new : List ℕ) (b : ℕ) (next : left ≡ b ∷ rest) (more : new ≡ kept ++ take (515 - length kept) (b ∷ [])) where
    -- the line goes on
    pub goes_on : (b ≡ 10 → ⊥) → InLine bytes left kept → InLine bytes rest new
    goes_on other i =
        let not_end : eqb b 10 ≡ false = ne_eqb b 10 other in
        record {
          done = i.done ++ b ∷ [];
          is = one_more kept i.done new b i.is more;
          through = i.through ∙ ap (λ l. i.done ++ take_through 10 l) next ∙ rw not_end refl ∙ sym (append_assoc i.done (b ∷ []) (take_through 10 rest));
          behind = i.behind ∙ ap (drop_through 10) next ∙ rw not_end refl;
        }

    -- or ends
    pub ends_here : b ≡ 10 → InLine bytes left kept → (new ≡ take 515 (take_through 10 bytes)) × (drop_through 10 bytes ≡ rest)
    ends_here end i =
        let at : eqb b 10 ≡ true = eq-eqb b 10 end in (
          one_more kept i.done new b i.is more ∙ ap (take 515) (sym (i.through ∙ ap (λ l. i.done ++ take_through 10 l) next ∙ rw at refl)),
          i.behind ∙ ap (drop_through 10) next ∙ rw at refl,
        )

-- ---- the end of a line

strip_less : (byte : ℕ) (xs : List ℕ) → length xs ≤ length (strip_last byte xs) + 1
strip_less byte xs = elim (cases_Bool (ends_with_byte byte xs)) [
  | inl ends ↦ rw ends (let len : length (take (length xs - 1) xs) ≡ length xs - 1 = length-take-le (length xs - 1) xs (omega arith) in omega (arith, len))
  | inr other ↦ rw other (omega arith)
]

-- an end has two bytes at most
end_is_short : (xs : List ℕ) → length xs ≤ length (without_end xs) + 2
end_is_short xs = elim (cases_Bool (ends_with_byte 10 xs)) [
  | inl ends ↦
      let is : without_end xs ≡ strip_last 13 (strip_last 10 xs) = rw ends refl in
      let same : length (without_end xs) ≡ length (strip_last 13 (strip_last 10 xs)) = ap length is in
      let first : length xs ≤ length (strip_last 10 xs) + 1 = strip_less 10 xs in
      let second : length (strip_last 10 xs) ≤ length (strip_last 13 (strip_last 10 xs)) + 1 = strip_less 13 (strip_last 10 xs) in
      less (length xs) _ _ _ first second same
  | inr other ↦ rw other (omega arith)
]
  where
    less : (a b c d : ℕ) → a ≤ b + 1 → b ≤ c + 1 → d ≡ c → a ≤ d + 2
    less a b c d first second same = omega arith

first_is : (bytes : List ℕ) → first_line bytes ≡ without_end (take_through 10 bytes)
first_is bytes = elim (cases_Bool (ends_with_byte 10 (take_through 10 bytes))) [
  | inl ends ↦ rw ends refl
  | inr other ↦ rw other refl
]

some_kept : (bytes kept : List ℕ) → kept ≡ take 515 (take_through 10 bytes) → not (eqb (length kept) 0) ≡ ltb 0 (length bytes)
some_kept [] kept is = ap (λ l. not (eqb (length l) 0)) is
some_kept (x ∷ xs) [] is =
    let raw : List ℕ = take_through 10 (x ∷ xs) in
    let cut : 0 ≡ min 515 (length raw) = ap length is ∙ length-take 515 raw in
    let none : x ∷ xs ≡ [] = take_through-nil 10 (x ∷ xs) (omega (arith, cut)) in
    absurd (let no : suc (length xs) ≡ 0 = ap length none in omega (arith, no))
some_kept (x ∷ xs) (k ∷ ks) is =
    let there : ltb 0 (length (x ∷ xs)) ≡ true = lt-ltb 0 (length (x ∷ xs)) (omega arith) in
    let some : eqb (length (k ∷ ks)) 0 ≡ false = ne_eqb (length (k ∷ ks)) 0 (λ none. omega (arith, none)) in
    ap not some ∙ sym there

-- what is kept of a line that is too long
long_kept : (raw kept : List ℕ) → kept ≡ take 515 raw → 512 < length (without_end raw) → 512 < length (without_end kept)
long_kept raw kept is over = elim (cases_lt 515 (length raw)) [
  | inl beyond ↦
      let size : length kept ≡ 515 = ap length is ∙ length-take-le 515 raw (omega (arith, beyond)) in
      let rest : length kept ≤ length (without_end kept) + 2 = end_is_short kept in
      more (length kept) (length (without_end kept)) size rest
  | inr within ↦ subst (λ (l : List ℕ). 512 < length (without_end l)) (sym (is ∙ take_all 515 raw within)) over
]
  where
    more : (a b : ℕ) → a ≡ 515 → a ≤ b + 2 → 512 < b
    more a b size rest = omega arith

-- what is kept of the line is the next line
pub next_line : (bytes kept line : List ℕ) (is_there : Bool) → kept ≡ take 515 (take_through 10 bytes) → line ≡ without_end kept → is_there ≡ not (eqb (length kept) 0) → IsNext bytes line is_there
next_line bytes kept line is_there kept_is line_is there_is =
    let raw : List ℕ = take_through 10 bytes in
    let first : first_line bytes ≡ without_end raw = first_is bytes in
    record {
      there = there_is ∙ some_kept bytes kept kept_is;
      whole = λ within.
          let short : length raw ≤ length (without_end raw) + 2 = end_is_short raw in
          let small : length (without_end raw) ≤ 512 = subst (λ (l : List ℕ). length l ≤ 512) first within in
          line_is ∙ ap without_end (kept_is ∙ take_all 515 raw (all (length raw) _ short small)) ∙ sym first;
      long = λ over. subst (λ (l : List ℕ). 512 < length l) (sym line_is) (long_kept raw kept kept_is (subst (λ (l : List ℕ). 512 < length l) first over));
    }
  where
    all : (a b : ℕ) → a ≤ b + 2 → b ≤ 512 → a ≤ 515
    all a b short small = omega arith
