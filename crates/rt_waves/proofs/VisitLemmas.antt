-- Visits of tasks, one after the other, and of those alone whose signals may change.
use Rattle.rt_waves.proofs.Common.{◌≡◌, ◌≢◌, ℕ, zero, suc, ◌+◌, ◌<◌, ◌≤◌, List, [], ◌∷◌, ◌++◌, length, map, append_assoc, slice_get, slice_set, Option, Some, None, refl, sym, ap, ◌∙◌, arith, flat_map, enumerate_from, option_map_or, Record, Telling, outcome_of, task_values, TaskStanding, seen, visited, lines_of}
use Rattle.std.proofs.Common.{add-zero}
use Rattle.std.proofs.lemmas.List.{append-nil}
use Rattle.rt_waves.specs.declared.block.Telling.TheVariants.{All}
use Rattle.rt_waves.proofs.BlockLemmas.{told-same}

module _ (t : Telling) (u : ℕ) (r : Record) where
  -- tasks of which the first is task i
  abbrev pub visited_from : ℕ → List TaskStanding → List TaskStanding
  visited_from i xs = map (λ n. visited u (outcome_of n.0 r) n.1) (enumerate_from i xs)

  abbrev pub lines_from : ℕ → List TaskStanding → List ℕ
  lines_from i xs = flat_map (λ n. lines_of t n.0 n.1.told (seen u (outcome_of n.0 r) n.1)) (enumerate_from i xs)

  -- a visit of the task at place k of them, whose number is n
  abbrev pub place_visited : ℕ → ℕ → List TaskStanding → List TaskStanding
  place_visited k n xs = option_map_or (λ x. slice_set xs k (visited u (outcome_of n r) x)) (slice_get xs k) xs

  abbrev pub place_lines : ℕ → ℕ → List TaskStanding → List ℕ
  place_lines k n xs = option_map_or (λ x. lines_of t n x.told (seen u (outcome_of n r) x)) (slice_get xs k) []

  behind : (x : TaskStanding) (xs : List TaskStanding) (k n : ℕ) (found : Option TaskStanding)
      → option_map_or (λ y. slice_set (x ∷ xs) (suc k) (visited u (outcome_of n r) y)) found (x ∷ xs) ≡ x ∷ option_map_or (λ y. slice_set xs k (visited u (outcome_of n r) y)) found xs
  behind x xs k n None = refl
  behind x xs k n (Some y) = refl

  place-behind : (x : TaskStanding) (xs : List TaskStanding) (k n : ℕ) → place_visited (suc k) n (x ∷ xs) ≡ x ∷ place_visited k n xs
  place-behind x xs k n = behind x xs k n (slice_get xs k)

  lines-cons : (i : ℕ) (x : TaskStanding) (xs : List TaskStanding) → lines_from i (x ∷ xs) ≡ lines_of t i x.told (seen u (outcome_of i r) x) ++ lines_from (i + 1) xs
  lines-cons i x xs = refl

  -- ---- the first k of them

  abbrev pub visited_first : ℕ → ℕ → List TaskStanding → List TaskStanding
  visited_first i zero xs = xs
  visited_first i (suc k) [] = []
  visited_first i (suc k) (x ∷ xs) = visited u (outcome_of i r) x ∷ visited_first (i + 1) k xs

  abbrev pub lines_first : ℕ → ℕ → List TaskStanding → List ℕ
  lines_first i zero xs = []
  lines_first i (suc k) [] = []
  lines_first i (suc k) (x ∷ xs) = lines_of t i x.told (seen u (outcome_of i r) x) ++ lines_first (i + 1) k xs

  pub length-first : (i k : ℕ) (xs : List TaskStanding) → length (visited_first i k xs) ≡ length xs
  length-first i zero xs = refl
  length-first i (suc k) [] = refl
  length-first i (suc k) (x ∷ xs) = ap suc (length-first (i + 1) k xs)

  first-more : (i k : ℕ) (xs : List TaskStanding) → k < length xs → visited_first i (suc k) xs ≡ place_visited k (i + k) (visited_first i k xs)
  first-more i k [] below = absurd (omega arith)
  first-more i zero (x ∷ xs) below = rw add-zero refl
  first-more i (suc k) (x ∷ xs) below =
      let at : (i + 1) + k ≡ i + suc k = omega arith in
      let v = visited u (outcome_of i r) x in
      ap (λ (ys : List TaskStanding). v ∷ ys) (first-more (i + 1) k xs (omega arith) ∙ ap (λ (n : ℕ). place_visited k n (visited_first (i + 1) k xs)) at)
      ∙ sym (place-behind v (visited_first (i + 1) k xs) k (i + suc k))

  lines-more : (i k : ℕ) (xs : List TaskStanding) → k < length xs → lines_first i (suc k) xs ≡ lines_first i k xs ++ place_lines k (i + k) (visited_first i k xs)
  lines-more i k [] below = absurd (omega arith)
  lines-more i zero (x ∷ xs) below = rw add-zero (append-nil (lines_of t i x.told (seen u (outcome_of i r) x)))
  lines-more i (suc k) (x ∷ xs) below =
      let at : (i + 1) + k ≡ i + suc k = omega arith in
      let here : List ℕ = lines_of t i x.told (seen u (outcome_of i r) x) in
      ap (λ (zs : List ℕ). here ++ zs) (lines-more (i + 1) k xs (omega arith) ∙ ap (λ (n : ℕ). lines_first (i + 1) k xs ++ place_lines k n (visited_first (i + 1) k xs)) at)
      ∙ sym (append_assoc here (lines_first (i + 1) k xs) (place_lines k (i + suc k) (visited_first (i + 1) k xs)))

  first-all : (i k : ℕ) (xs : List TaskStanding) → length xs ≤ k → visited_first i k xs ≡ visited_from i xs
  first-all i zero [] all = refl
  first-all i (suc k) [] all = refl
  first-all i zero (x ∷ xs) all = absurd (omega arith)
  first-all i (suc k) (x ∷ xs) all = ap (λ (ys : List TaskStanding). visited u (outcome_of i r) x ∷ ys) (first-all (i + 1) k xs (omega arith))

  lines-all : (i k : ℕ) (xs : List TaskStanding) → length xs ≤ k → lines_first i k xs ≡ lines_from i xs
  lines-all i zero [] all = refl
  lines-all i (suc k) [] all = refl
  lines-all i zero (x ∷ xs) all = absurd (omega arith)
  lines-all i (suc k) (x ∷ xs) all = ap (λ (zs : List ℕ). lines_of t i x.told (seen u (outcome_of i r) x) ++ zs) (lines-all (i + 1) k xs (omega arith))

  -- from task 0 on
  pub first-next : (k : ℕ) (xs : List TaskStanding) → k < length xs → visited_first 0 (k + 1) xs ≡ place_visited k k (visited_first 0 k xs)
  first-next k xs below =
      let next : k + 1 ≡ suc k = omega arith in
      let at : 0 + k ≡ k = omega arith in
      ap (λ (n : ℕ). visited_first 0 n xs) next ∙ first-more 0 k xs below ∙ ap (λ (n : ℕ). place_visited k n (visited_first 0 k xs)) at

  pub lines-next : (k : ℕ) (xs : List TaskStanding) → k < length xs → lines_first 0 (k + 1) xs ≡ lines_first 0 k xs ++ place_lines k k (visited_first 0 k xs)
  lines-next k xs below =
      let next : k + 1 ≡ suc k = omega arith in
      let at : 0 + k ≡ k = omega arith in
      ap (λ (n : ℕ). lines_first 0 n xs) next ∙ lines-more 0 k xs below ∙ ap (λ (n : ℕ). lines_first 0 k xs ++ place_lines k n (visited_first 0 k xs)) at

  pub first-whole : (k : ℕ) (xs : List TaskStanding) → length xs ≤ k → visited_first 0 k xs ≡ visited_from 0 xs
  first-whole k xs all = first-all 0 k xs all

  pub lines-whole : (k : ℕ) (xs : List TaskStanding) → length xs ≤ k → lines_first 0 k xs ≡ lines_from 0 xs
  lines-whole k xs all = lines-all 0 k xs all

  -- ---- tasks that a visit leaves as they are

  pub record IsQuiet (n : ℕ) (x : TaskStanding) : Type 0 where
    pub stays : visited u (outcome_of n r) x ≡ x
    pub silent : lines_of t n x.told (seen u (outcome_of n r) x) ≡ []

  pub quiet-of : (n : ℕ) (x : TaskStanding) → t ≢ All → visited u (outcome_of n r) x ≡ x → IsQuiet n x
  quiet-of n x part same = record {
    stays = same;
    silent = ap (lines_of t n x.told) (ap (λ (y : TaskStanding). y.told) same) ∙ told-same t (task_values n x.told) part;
  }

  abbrev Skips : ℕ → List TaskStanding → (ℕ → Type 0) → Type 0
  Skips i xs Visited = (j : ℕ) (x : TaskStanding) → slice_get xs j ≡ Some x → (Visited j → ⊥) → IsQuiet (i + j) x

  skip-head : (i : ℕ) (x : TaskStanding) (xs : List TaskStanding) (V : ℕ → Type 0) → Skips i (x ∷ xs) V → (V 0 → ⊥) → IsQuiet i x
  skip-head i x xs V quiet none = let q = quiet 0 x refl none in let at : i + 0 ≡ i = omega arith in rw at at q

  skip-tail : (i : ℕ) (x : TaskStanding) (xs : List TaskStanding) (V W : ℕ → Type 0) → Skips i (x ∷ xs) V → ((j : ℕ) → V (suc j) → W j) → Skips (i + 1) xs W
  skip-tail i x xs V W quiet shift = λ j y there none.
      let q = quiet (suc j) y there (λ v. none (shift j v)) in
      let at : i + suc j ≡ (i + 1) + j = omega arith in
      rw at at q

  abbrev Never : ℕ → Type 0
  Never j = ⊥

  skip-all : (i : ℕ) (xs : List TaskStanding) → Skips i xs Never → (visited_from i xs ≡ xs) × (lines_from i xs ≡ [])
  skip-all i [] quiet = (refl, refl)
  skip-all i (x ∷ xs) quiet =
      let q = skip-head i x xs Never quiet (λ v. v) in
      let rest = skip-all (i + 1) xs (skip-tail i x xs Never Never quiet (λ j v. v)) in (
        ap (λ (y : TaskStanding). y ∷ visited_from (i + 1) xs) q.stays ∙ ap (λ (ys : List TaskStanding). x ∷ ys) rest.0,
        ap (λ (zs : List ℕ). zs ++ lines_from (i + 1) xs) q.silent ∙ rest.1,
      )

  abbrev Is : ℕ → ℕ → Type 0
  Is k j = j ≡ k

  skip-but : (i k : ℕ) (xs : List TaskStanding) → Skips i xs (Is k) → (visited_from i xs ≡ place_visited k (i + k) xs) × (lines_from i xs ≡ place_lines k (i + k) xs)
  skip-but i k [] quiet = (refl, refl)
  skip-but i zero (x ∷ xs) quiet =
      let rest = skip-all (i + 1) xs (skip-tail i x xs (Is zero) Never quiet (λ j v. omega arith)) in
      let at : i + zero ≡ i = omega arith in (
        ap (λ (ys : List TaskStanding). visited u (outcome_of i r) x ∷ ys) rest.0 ∙ ap (λ (n : ℕ). visited u (outcome_of n r) x ∷ xs) (sym at),
        ap (λ (zs : List ℕ). lines_of t i x.told (seen u (outcome_of i r) x) ++ zs) rest.1 ∙ append-nil (lines_of t i x.told (seen u (outcome_of i r) x))
            ∙ ap (λ (n : ℕ). lines_of t n x.told (seen u (outcome_of n r) x)) (sym at),
      )
  skip-but i (suc k) (x ∷ xs) quiet =
      let q = skip-head i x xs (Is (suc k)) quiet (λ v. omega arith) in
      let rest = skip-but (i + 1) k xs (skip-tail i x xs (Is (suc k)) (Is k) quiet (λ j v. omega arith)) in
      let at : (i + 1) + k ≡ i + suc k = omega arith in (
        ap (λ (y : TaskStanding). y ∷ visited_from (i + 1) xs) q.stays ∙ ap (λ (ys : List TaskStanding). x ∷ ys) (rest.0 ∙ ap (λ (n : ℕ). place_visited k n xs) at)
            ∙ sym (place-behind x xs k (i + suc k)),
        ap (λ (zs : List ℕ). zs ++ lines_from (i + 1) xs) q.silent ∙ rest.1 ∙ ap (λ (n : ℕ). place_lines k n xs) at,
      )

  skip-both : (i a b : ℕ) (xs : List TaskStanding) → a < b → ((j : ℕ) (x : TaskStanding) → slice_get xs j ≡ Some x → (j ≡ a → ⊥) → (j ≡ b → ⊥) → IsQuiet (i + j) x)
      → (visited_from i xs ≡ place_visited b (i + b) (place_visited a (i + a) xs)) × (lines_from i xs ≡ place_lines a (i + a) xs ++ place_lines b (i + b) (place_visited a (i + a) xs))
  skip-both i a b [] less quiet = (refl, refl)
  skip-both i a zero (x ∷ xs) less quiet = absurd (omega arith)
  skip-both i zero (suc b) (x ∷ xs) less quiet =
      let rest = skip-but (i + 1) b xs (λ j y there none. let q = quiet (suc j) y there (λ v. omega arith) (λ v. none (omega arith)) in let at : i + suc j ≡ (i + 1) + j = omega arith in rw at at q) in
      let at : (i + 1) + b ≡ i + suc b = omega arith in
      let zero_at : i + zero ≡ i = omega arith in
      let v = visited u (outcome_of (i + zero) r) x in
      let here : visited u (outcome_of i r) x ≡ v = ap (λ (n : ℕ). visited u (outcome_of n r) x) (sym zero_at) in (
        ap (λ (y : TaskStanding). y ∷ visited_from (i + 1) xs) here
            ∙ ap (λ (ys : List TaskStanding). v ∷ ys) (rest.0 ∙ ap (λ (n : ℕ). place_visited b n xs) at)
            ∙ sym (place-behind v xs b (i + suc b)),
        ap (λ (n : ℕ). lines_of t n x.told (seen u (outcome_of n r) x) ++ lines_from (i + 1) xs) (sym zero_at)
            ∙ ap (λ (zs : List ℕ). lines_of t (i + zero) x.told (seen u (outcome_of (i + zero) r) x) ++ zs) (rest.1 ∙ ap (λ (n : ℕ). place_lines b n xs) at),
      )
  skip-both i (suc a) (suc b) (x ∷ xs) less quiet =
      let q0 = quiet 0 x refl (λ v. omega arith) (λ v. omega arith) in
      let at0 : i + 0 ≡ i = omega arith in
      let q : IsQuiet i x = rw at0 at q0 in
      let rest = skip-both (i + 1) a b xs (omega arith)
      (λ j y there no_a no_b. let p = quiet (suc j) y there (λ v. no_a (omega arith)) (λ v. no_b (omega arith)) in let at : i + suc j ≡ (i + 1) + j = omega arith in rw at at p) in
      let at_a : (i + 1) + a ≡ i + suc a = omega arith in
      let at_b : (i + 1) + b ≡ i + suc b = omega arith in
      let inner : List TaskStanding = place_visited a (i + suc a) xs in
      let moved : place_visited (suc a) (i + suc a) (x ∷ xs) ≡ x ∷ inner = place-behind x xs a (i + suc a) in (
        ap (λ (y : TaskStanding). y ∷ visited_from (i + 1) xs) q.stays
            ∙ ap (λ (ys : List TaskStanding). x ∷ ys) (rest.0 ∙ ap (λ (n : ℕ). place_visited b n (place_visited a ((i + 1) + a) xs)) at_b ∙ ap (λ (n : ℕ). place_visited b (i + suc b) (place_visited a n xs)) at_a)
            ∙ sym (place-behind x inner b (i + suc b)) ∙ ap (place_visited (suc b) (i + suc b)) (sym moved),
        ap (λ (zs : List ℕ). zs ++ lines_from (i + 1) xs) q.silent ∙ rest.1
            ∙ ap (λ (n : ℕ). place_lines a n xs ++ place_lines b ((i + 1) + b) (place_visited a ((i + 1) + a) xs)) at_a
            ∙ ap (λ (n : ℕ). place_lines a (i + suc a) xs ++ place_lines b n (place_visited a ((i + 1) + a) xs)) at_b
            ∙ ap (λ (n : ℕ). place_lines a (i + suc a) xs ++ place_lines b (i + suc b) (place_visited a n xs)) at_a
            ∙ ap (λ (ys : List TaskStanding). place_lines a (i + suc a) xs ++ place_lines (suc b) (i + suc b) ys) (sym moved),
      )

  -- no visit of a task but these changes or tells anything
  pub visited_none : (xs : List TaskStanding) → ((j : ℕ) (x : TaskStanding) → slice_get xs j ≡ Some x → IsQuiet j x) → (visited_from 0 xs ≡ xs) × (lines_from 0 xs ≡ [])
  visited_none xs quiet = skip-all 0 xs (λ j x there none. let at : 0 + j ≡ j = omega arith in rw at (quiet j x there))

  pub visited_one : (k : ℕ) (xs : List TaskStanding) → ((j : ℕ) (x : TaskStanding) → slice_get xs j ≡ Some x → (j ≡ k → ⊥) → IsQuiet j x)
      → (visited_from 0 xs ≡ place_visited k k xs) × (lines_from 0 xs ≡ place_lines k k xs)
  visited_one k xs quiet =
      let at : 0 + k ≡ k = omega arith in
      let both = skip-but 0 k xs (λ j x there none. let here : 0 + j ≡ j = omega arith in rw here (quiet j x there none)) in
      (both.0 ∙ ap (λ (n : ℕ). place_visited k n xs) at, both.1 ∙ ap (λ (n : ℕ). place_lines k n xs) at)

  pub visited_two : (a b : ℕ) (xs : List TaskStanding) → a < b → ((j : ℕ) (x : TaskStanding) → slice_get xs j ≡ Some x → (j ≡ a → ⊥) → (j ≡ b → ⊥) → IsQuiet j x)
      → (visited_from 0 xs ≡ place_visited b b (place_visited a a xs)) × (lines_from 0 xs ≡ place_lines a a xs ++ place_lines b b (place_visited a a xs))
  visited_two a b xs less quiet =
      let at_a : 0 + a ≡ a = omega arith in
      let at_b : 0 + b ≡ b = omega arith in
      let both = skip-both 0 a b xs less (λ j x there no_a no_b. let here : 0 + j ≡ j = omega arith in rw here (quiet j x there no_a no_b)) in (
        both.0 ∙ ap (λ (n : ℕ). place_visited b n (place_visited a (0 + a) xs)) at_b ∙ ap (λ (n : ℕ). place_visited b b (place_visited a n xs)) at_a,
        both.1 ∙ ap (λ (n : ℕ). place_lines a n xs ++ place_lines b (0 + b) (place_visited a (0 + a) xs)) at_a
            ∙ ap (λ (n : ℕ). place_lines a a xs ++ place_lines b n (place_visited a (0 + a) xs)) at_b
            ∙ ap (λ (n : ℕ). place_lines a a xs ++ place_lines b b (place_visited a n xs)) at_a,
      )
