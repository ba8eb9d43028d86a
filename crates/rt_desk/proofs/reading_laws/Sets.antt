-- A faulty line of a set file that has ended is told, whatever follows.
use Rattle.rt_desk.proofs.Common.{◌≡◌, ◌⊎◌, ℕ, ◌+◌, ◌<◌, ◌≤◌, ◌==◌, true, false, nat_lt, Bool, List, [], ◌∷◌, ◌++◌, length, take, drop, Option, Some, None, Result, Ok, Err, refl, sym, ap, subst, ◌∙◌, arith, inl, inr, cases_Bool, append_assoc, take-append-drop, length-slice_split, slice_split, count_by, position_or_len, strip_carriage_return, run, is_line_feed, lines_of_parts, block_size, first_said, is_space}
use Rattle.std.proofs.Common.{not, ◌||◌, map}
use Rattle.std.proofs.lemmas.List.{length-map}
use Rattle.rt_words.specs.Run.{next}
use Rattle.rt_set.specs.SetLines.{Draft, hyper_of, after_line, or_faulty, set_of, whole, finished}
use Rattle.rt_desk.specs.reading.Extent.{may_begin_set, HasFaultyLine}
use Rattle.rt_desk.proofs.reading_laws.BadStart.{word_first, begins_badly}
use Rattle.rt_desk.proofs.reading_laws.Lines.{joined, split_append, over, after_next, ended_fault}

abbrev number : ℕ → Unit {0} → ℕ
number line _ = line

abbrev pub set_step : Draft → ℕ × List ℕ → Result Draft (Unit {0})
set_step before line = or_faulty (after_line before line.1)

-- lines with their places are read as those without
pub run_mapped : {S M K F : Type 0} (at : ℕ → K → F) (step : S → M → Result S K) (g : ℕ × List ℕ → M) (n : ℕ) (s : S) (ls : List (ℕ × List ℕ))
    → run at step n s (map g ls) ≡ run at (λ t l. step t (g l)) n s ls
run_mapped at step g n s [] = refl
run_mapped at step g n s (l ∷ ls) = after_next at (λ t m. step t (g m)) n (step s (g l)) _ _ (λ t. run_mapped at step g (n + 1) t ls)

abbrev pub none_read : Draft
none_read = record { hyper = None; tasks = [] }

lines_count : (place : ℕ) (ps : List (List ℕ)) → length ps ≤ length (lines_of_parts place ps) + 1
lines_count place [] = omega arith
lines_count place (x ∷ []) = omega arith
lines_count place (x ∷ y ∷ zs) = let more = lines_count (place + length x + 1) (y ∷ zs) in omega (arith, more)

-- the fault of a whole text is that of a line, if it isn't of the one behind the last
pub is_of_a_line : (after number : ℕ) (r : Result Draft ℕ) → number < after → finished after r ≡ Err number → r ≡ Err number
is_of_a_line after k (Ok draft) before e = missing draft.hyper e
  where
    missing : (hyper : Option ℕ) → whole after hyper draft.tasks ≡ Err k → Ok draft ≡ Err k
    missing None e = let same : after ≡ k = cc in absurd (omega (arith, same, before))
    missing (Some n) e = absurd cc
is_of_a_line after k (Err line) before e = let same : line ≡ k = cc in ap Err same

-- what a text says, by its parts
pub set_by_parts : (text : List ℕ) → (after : ℕ) × (set_of text ≡ finished after (over number set_step 1 none_read 0 (slice_split is_line_feed text)))
    × (length (slice_split is_line_feed text) ≤ after)
set_by_parts text =
    let lines = lines_of_parts 0 (slice_split is_line_feed text) in (
      1 + length (map (λ (l : ℕ × List ℕ). l.1) lines),
      ap (finished (1 + length (map (λ (l : ℕ × List ℕ). l.1) lines))) (run_mapped number (λ before line. or_faulty (after_line before line)) (λ (l : ℕ × List ℕ). l.1) 1 none_read lines),
      omega (arith, lines_count 0 (slice_split is_line_feed text), length-map lines (λ (l : ℕ × List ℕ). l.1)),
    )

ended_set : (lines rest : List ℕ) (k : ℕ) → k ≤ count_by (λ b. b == 10) lines → set_of lines ≡ Err k → set_of (lines ++ rest) ≡ Err k
ended_set lines rest k within refused =
    let first = set_by_parts lines in
    let whole = set_by_parts (lines ++ rest) in
    let count = length-slice_split is_line_feed lines in
    let fault = is_of_a_line first.0 k _ (omega (arith, within, count, first.2)) (sym first.1 ∙ refused) in
    whole.1 ∙ ap (λ (ps : List (List ℕ)). finished whole.0 (over number set_step 1 none_read 0 ps)) (split_append is_line_feed lines rest)
    ∙ ap (finished whole.0) (ended_fault number set_step (λ n. n) (λ n _. refl) (slice_split is_line_feed lines) (slice_split is_line_feed rest) k none_read (omega (arith, within, count)) fault)

pub faulty_law : (bytes more : List ℕ) → HasFaultyLine bytes → set_of (bytes ++ more) ≡ set_of bytes
faulty_law bytes more f =
    ap (λ (l : List ℕ). set_of (l ++ more)) f.parts ∙ ap set_of (append_assoc f.ended f.rest more) ∙ ended_set f.ended (f.rest ++ more) f.number f.within f.refused
    ∙ sym (ap set_of f.parts ∙ ended_set f.ended f.rest f.number f.within f.refused)

-- ---- the first byte that ends no line

pub not_or : (x y : Bool) → not (x || y) ≡ true → (x ≡ false) × (y ≡ false)
not_or true y e = absurd cc
not_or false true e = absurd cc
not_or false false e = (refl, refl)

abbrev pub is_no_start : ℕ → Bool
is_no_start b = not (b == 35 || b == 104)

no_hyper : (c : ℕ) (y : List ℕ) → (c == 104) ≡ false → hyper_of (c ∷ y) ≡ None
unfolding hyper_of
no_hyper c y other =
    elim (cases_Bool (nat_lt (position_or_len is_space (c ∷ y)) (length (c ∷ y)))) [
      | inl ends ↦
          elim (word_first c y) [
            | inl empty ↦ rw (ends, empty) refl
            | inr first ↦ rw (ends, first.1, other) refl
          ]
      | inr goes_on ↦ rw goes_on refl
    ]

bad_line : (q c : ℕ) (y : List ℕ) → is_no_start c ≡ true → set_step none_read (q, c ∷ y) ≡ Err tt
bad_line q c y bad = let neither = not_or (c == 35) (c == 104) bad in rw (neither.0, no_hyper c y neither.1) refl

-- how the first bytes of a text say what comes first in it
start_law : (bytes more : List ℕ) (b : ℕ) → first_said bytes ≡ Some b → is_no_start b ≡ true → set_of (bytes ++ more) ≡ set_of bytes
start_law bytes more b said bad =
    let read = begins_badly set_step none_read is_no_start (λ q. refl) bad_line refl bytes b more 1 0 said bad in
    let longer = set_by_parts (bytes ++ more) in
    let short = set_by_parts bytes in
    longer.1 ∙ ap (finished longer.0) read.1 ∙ sym (short.1 ∙ ap (finished short.0) read.2)

pub start_is : (bytes : List ℕ) → may_begin_set (first_said bytes) ≡ false → (b : ℕ) × (first_said bytes ≡ Some b) × (is_no_start b ≡ true)
start_is bytes bad = of_first (first_said bytes) refl bad
  where
    of_first : (first : Option ℕ) → first_said bytes ≡ first → may_begin_set first ≡ false → (b : ℕ) × (first_said bytes ≡ Some b) × (is_no_start b ≡ true)
    of_first None is bad = absurd cc
    of_first (Some b) is bad = (b, is, ap not bad)

-- by the first block, behind which the others stand as well as what follows
begins_law : (block others more : List ℕ) → may_begin_set (first_said block) ≡ false → set_of ((block ++ others) ++ more) ≡ set_of (block ++ others)
begins_law block others more bad =
    let first = start_is block bad in
    ap set_of (append_assoc block others more) ∙ start_law block (others ++ more) first.0 first.1 first.2 ∙ sym (start_law block others first.0 first.1 first.2)

pub set_law : (bytes more : List ℕ) → (may_begin_set (first_said (take block_size bytes)) ≡ false) ⊎ HasFaultyLine bytes → set_of (bytes ++ more) ≡ set_of bytes
set_law bytes more (inr faulty) = faulty_law bytes more faulty
set_law bytes more (inl bad) =
    subst (λ (l : List ℕ). set_of (l ++ more) ≡ set_of l) (take-append-drop block_size bytes) (begins_law (take block_size bytes) (drop block_size bytes) more bad)
