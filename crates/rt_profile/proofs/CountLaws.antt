-- What a profile keeps of a task is what its records tell.
use Rattle.rt_profile.proofs.Common.{◌≡◌, ◌≢◌, ℕ, zero, suc, ◌+◌, ◌*◌, ◌<◌, ◌==◌, Bool, true, false, cond, List, [], ◌∷◌, length, slice_index, slice_set, Option, Some, None, refl, sym, ap, subst, ◌∙◌, arith, add-zero, get_or-set_other, get_or-set_same, length-set, eqb-true, nat_tests, base, Attempt, AttemptOutcome, ends_job, placed, placed_all, ticks_at, TaskCounts, word_at, with_place, with_pc, finished, with_outcome, counted, counted_all, executed_from, with_outside, executed, kept_at}
use Rattle.rt_profile.specs.Working.Told.{outside_at, at_place}
use Rattle.rt_profile.proofs.PartLemmas.{count-cons}
use Rattle.rt_profile.proofs.WalkLemmas.{executed-some, placed-before, placed-at, placed-behind, word_at-is}
use Rattle.rt_profile.proofs.ShapeLaws.{IsShaped}

-- ---- addresses

placed-least : (a b : ℕ) (ns : List ℕ) → a < b → placed a (executed_from b ns) ≡ a ∷ executed_from b ns
placed-least a b [] less = refl
placed-least a b (n ∷ ns) less =
    elim (n == 0) as (λ c. placed a (cond c (executed_from (b + 4) ns) (b ∷ executed_from (b + 4) ns)) ≡ a ∷ cond c (executed_from (b + 4) ns) (b ∷ executed_from (b + 4) ns)) [
      | true ↦ placed-least a (b + 4) ns (omega arith)
      | false ↦ placed-before a b (executed_from (b + 4) ns) less
    ]

-- a tick more at a word
set-executed : (a : ℕ) (ns : List ℕ) (w : ℕ) → w < length ns → executed_from a (slice_set ns w (slice_index ns w + 1)) ≡ placed (a + 4 * w) (executed_from a ns)
set-executed a [] w below = absurd (omega arith)
set-executed a (n ∷ ns) zero below =
    let at : a ≡ a + 4 * 0 = omega arith in
    executed-some a (n + 1) ns (λ is. absurd (omega (arith, is)))
    ∙ (elim (n == 0) as (λ c. a ∷ executed_from (a + 4) ns ≡ placed a (cond c (executed_from (a + 4) ns) (a ∷ executed_from (a + 4) ns))) [
      | true ↦ sym (placed-least a (a + 4) ns (omega arith))
      | false ↦ sym (placed-at a a (executed_from (a + 4) ns) refl)
    ])
    ∙ ap (λ (b : ℕ). placed b (executed_from a (n ∷ ns))) at
set-executed a (n ∷ ns) (suc w) below =
    let at : a + 4 + 4 * w ≡ a + 4 * suc w = omega arith in
    let less : a < a + 4 * suc w = omega arith in
    let rest : executed_from (a + 4) (slice_set ns w (slice_index ns w + 1)) ≡ placed (a + 4 * suc w) (executed_from (a + 4) ns) =
    set-executed (a + 4) ns w (omega arith) ∙ ap (λ (b : ℕ). placed b (executed_from (a + 4) ns)) at in
    let later = executed_from (a + 4) (slice_set ns w (slice_index ns w + 1)) in
    elim (n == 0) as (λ c. cond c later (a ∷ later) ≡ placed (a + 4 * suc w) (cond c (executed_from (a + 4) ns) (a ∷ executed_from (a + 4) ns))) [
      | true ↦ rest
      | false ↦ ap (λ (bs : List ℕ). a ∷ bs) rest ∙ sym (placed-behind (a + 4 * suc w) a (executed_from (a + 4) ns) less)
    ]

-- whether a record ends a job changes no counts by address
outcome-executed : (o : AttemptOutcome) (x : TaskCounts) → executed (with_outcome o x) ≡ executed x
outcome-executed o x = elim (ends_job o) as (λ b. executed (cond b (finished x) x) ≡ executed x) [ true ↦ refl | false ↦ refl ]

outcome-kept : (o : AttemptOutcome) (x : TaskCounts) (a : ℕ) → kept_at (with_outcome o x) a ≡ kept_at x a
outcome-kept o x a = elim (ends_job o) as (λ b. kept_at (cond b (finished x) x) a ≡ kept_at x a) [ true ↦ refl | false ↦ refl ]

outcome-words : (o : AttemptOutcome) (x : TaskCounts) → (with_outcome o x).words ≡ x.words
outcome-words o x = elim (ends_job o) as (λ b. (cond b (finished x) x).words ≡ x.words) [ true ↦ refl | false ↦ refl ]

outcome-outside : (o : AttemptOutcome) (x : TaskCounts) → (with_outcome o x).outside ≡ x.outside
outcome-outside o x = elim (ends_job o) as (λ b. (cond b (finished x) x).outside ≡ x.outside) [ true ↦ refl | false ↦ refl ]

pub outcome-labels : (o : AttemptOutcome) (x : TaskCounts) → (with_outcome o x).labels ≡ x.labels
outcome-labels o x = elim (ends_job o) as (λ b. (cond b (finished x) x).labels ≡ x.labels) [ true ↦ refl | false ↦ refl ]

place-labels : (pc : ℕ) (place : Option ℕ) (x : TaskCounts) → (with_place pc place x).labels ≡ x.labels
place-labels pc None x = refl
place-labels pc (Some w) x = refl

pub labels-kept : (r : Attempt) (x : TaskCounts) → (counted r x).labels ≡ x.labels
labels-kept r x = outcome-labels r.outcome (with_pc r.pc x) ∙ place-labels r.pc (word_at (length x.words) r.pc) x

pub all-labels : (x : TaskCounts) (rs : List Attempt) → (counted_all x rs).labels ≡ x.labels
all-labels x [] = refl
all-labels x (r ∷ rs) = all-labels (counted r x) rs ∙ labels-kept r x

place-size : (pc : ℕ) (place : Option ℕ) (x : TaskCounts) → length (with_place pc place x).words ≡ length x.words
place-size pc None x = refl
place-size pc (Some w) x = length-set x.words w (slice_index x.words w + 1)

words-kept : (r : Attempt) (x : TaskCounts) → length (counted r x).words ≡ length x.words
words-kept r x = ap (λ (ns : List ℕ). length ns) (outcome-words r.outcome (with_pc r.pc x)) ∙ place-size r.pc (word_at (length x.words) r.pc) x

-- a record at a word notes no other address
inside-kept : (r : Attempt) (x : TaskCounts) (w : ℕ) → word_at (length x.words) r.pc ≡ Some w → x.outside ≡ None → (counted r x).outside ≡ None
inside-kept r x w is none = outcome-outside r.outcome (with_pc r.pc x) ∙ ap (λ (place : Option ℕ). (with_place r.pc place x).outside) is ∙ none

executed-place : (pc : ℕ) (place : Option ℕ) (x : TaskCounts) → word_at (length x.words) pc ≡ place → x.outside ≡ None
    → with_outside (with_place pc place x).outside (executed_from base (with_place pc place x).words) ≡ placed pc (with_outside x.outside (executed_from base x.words))
executed-place pc None x is none = ap (λ (o : Option ℕ). placed pc (with_outside o (executed_from base x.words))) (sym none)
executed-place pc (Some w) x is none =
    let at = word_at-is (length x.words) pc w is in
    ap (λ (o : Option ℕ). with_outside o (executed_from base (slice_set x.words w (slice_index x.words w + 1)))) none
    ∙ set-executed base x.words w at.0 ∙ ap (λ (a : ℕ). placed a (executed_from base x.words)) (sym at.1)
    ∙ ap (λ (o : Option ℕ). placed pc (with_outside o (executed_from base x.words))) (sym none)

executed-one : (r : Attempt) (x : TaskCounts) → x.outside ≡ None → executed (counted r x) ≡ placed r.pc (executed x)
executed-one r x none = outcome-executed r.outcome (with_pc r.pc x) ∙ executed-place r.pc (word_at (length x.words) r.pc) x refl none

pub executed-all : (x : TaskCounts) (rs : List Attempt) → x.outside ≡ None → IsShaped (length x.words) rs → executed (counted_all x rs) ≡ placed_all (executed x) rs
executed-all x [] none shape = refl
executed-all x (r ∷ rs) none shape =
    by_place (word_at (length x.words) r.pc) refl
    (λ w is. executed-all (counted r x) rs (inside-kept r x w is none) (subst (λ (n : ℕ). IsShaped n rs) (sym (words-kept r x)) shape.1))
  where
    by_place : (place : Option ℕ) → word_at (length x.words) r.pc ≡ place
        → ((w : ℕ) → word_at (length x.words) r.pc ≡ Some w → executed (counted_all (counted r x) rs) ≡ placed_all (executed (counted r x)) rs)
        → executed (counted_all (counted r x) rs) ≡ placed_all (placed r.pc (executed x)) rs
    by_place None is rest =
        let last : rs ≡ [] = shape.0 is in
        subst (λ (qs : List Attempt). executed (counted_all (counted r x) qs) ≡ placed_all (placed r.pc (executed x)) qs) (sym last) (executed-one r x none)
    by_place (Some w) is rest = rest w is ∙ ap (λ (bs : List ℕ). placed_all bs rs) (executed-one r x none)

-- ---- ticks by address

differs : (n a b w : ℕ) → word_at n a ≡ None → word_at n b ≡ Some w → (a == b) ≡ false
differs n a b w none some =
    let apart : a ≢ b = λ same. let found : word_at n a ≡ Some w = ap (word_at n) same ∙ some in absurd cc in
    grind (arith, nat_tests)

differs-too : (n a b w : ℕ) → word_at n a ≡ Some w → word_at n b ≡ None → (a == b) ≡ false
differs-too n a b w some none =
    let apart : a ≢ b = λ same. let found : word_at n b ≡ Some w = ap (word_at n) (sym same) ∙ some in absurd cc in
    grind (arith, nat_tests)

set-index : (ns : List ℕ) (w v : ℕ) → w < length ns → v < length ns → slice_index (slice_set ns w (slice_index ns w + 1)) v ≡ slice_index ns v + cond (base + 4 * w == base + 4 * v) 1 0
set-index ns w v first second =
    elim (w == v) as (λ b. (w == v) ≡ b → slice_index (slice_set ns w (slice_index ns w + 1)) v ≡ slice_index ns v + cond (base + 4 * w == base + 4 * v) 1 0) [
      | true ↦ λ hit.
          let same : w ≡ v = eqb-true w v hit in
          let e : (base + 4 * w == base + 4 * v) ≡ true = grind (arith, nat_tests) in
          ap (λ (k : ℕ). slice_index (slice_set ns w (slice_index ns w + 1)) k) (sym same) ∙ get_or-set_same ns w (slice_index ns w + 1) 0 first
          ∙ ap (λ (k : ℕ). slice_index ns k + 1) same ∙ ap (λ (b : Bool). slice_index ns v + cond b 1 0) (sym e)
      | false ↦ λ miss.
          let apart : v ≢ w = grind (arith, nat_tests) in
          let e : (base + 4 * w == base + 4 * v) ≡ false = grind (arith, nat_tests) in
          get_or-set_other ns w v (slice_index ns w + 1) 0 apart ∙ sym (add-zero (slice_index ns v)) ∙ ap (λ (b : Bool). slice_index ns v + cond b 1 0) (sym e)
    ] refl

-- one record, by the places of its pc and of the address
kept-place : (pc a : ℕ) (x : TaskCounts) (p q : Option ℕ) → word_at (length x.words) pc ≡ p → word_at (length x.words) a ≡ q → x.outside ≡ None
    → at_place (with_place pc p x).words (with_place pc p x).outside q a ≡ at_place x.words x.outside q a + cond (pc == a) 1 0
kept-place pc a x None None one two none =
    let zero_before : outside_at x.outside a ≡ 0 = ap (λ (o : Option ℕ). outside_at o a) none in
    omega (arith, zero_before)
kept-place pc a x None (Some v) one two none =
    let e = differs (length x.words) pc a v one two in
    sym (add-zero (slice_index x.words v)) ∙ ap (λ (b : Bool). slice_index x.words v + cond b 1 0) (sym e)
kept-place pc a x (Some w) None one two none =
    let e = differs-too (length x.words) pc a w one two in
    sym (add-zero (outside_at x.outside a)) ∙ ap (λ (b : Bool). outside_at x.outside a + cond b 1 0) (sym e)
kept-place pc a x (Some w) (Some v) one two none =
    let at = word_at-is (length x.words) pc w one in
    let to = word_at-is (length x.words) a v two in
    set-index x.words w v at.0 to.0 ∙ ap (λ (b : ℕ). slice_index x.words v + cond (b == base + 4 * v) 1 0) (sym at.1) ∙ ap (λ (b : ℕ). slice_index x.words v + cond (pc == b) 1 0) (sym to.1)

kept-one : (r : Attempt) (x : TaskCounts) (a : ℕ) → x.outside ≡ None → kept_at (counted r x) a ≡ kept_at x a + cond (r.pc == a) 1 0
kept-one r x a none =
    let p = word_at (length x.words) r.pc in
    let y = with_place r.pc p x in
    outcome-kept r.outcome (with_pc r.pc x) a ∙ ap (λ (n : ℕ). at_place y.words y.outside (word_at n a) a) (place-size r.pc p x)
    ∙ kept-place r.pc a x p (word_at (length x.words) a) refl refl none

pub kept-all : (x : TaskCounts) (rs : List Attempt) (a : ℕ) → x.outside ≡ None → IsShaped (length x.words) rs → kept_at (counted_all x rs) a ≡ kept_at x a + ticks_at rs a
kept-all x [] a none shape = sym (add-zero (kept_at x a))
kept-all x (r ∷ rs) a none shape =
    by_place (word_at (length x.words) r.pc) refl
    (λ w is. kept-all (counted r x) rs a (inside-kept r x w is none) (subst (λ (n : ℕ). IsShaped n rs) (sym (words-kept r x)) shape.1))
  where
    cons : ticks_at (r ∷ rs) a ≡ cond (r.pc == a) 1 0 + ticks_at rs a
    cons = count-cons (λ q. q.pc == a) r rs

    by_place : (place : Option ℕ) → word_at (length x.words) r.pc ≡ place
        → ((w : ℕ) → word_at (length x.words) r.pc ≡ Some w → kept_at (counted_all (counted r x) rs) a ≡ kept_at (counted r x) a + ticks_at rs a)
        → kept_at (counted_all (counted r x) rs) a ≡ kept_at x a + ticks_at (r ∷ rs) a
    by_place None is rest =
        let last : rs ≡ [] = shape.0 is in
        let none_left : ticks_at rs a ≡ 0 = ap (λ (qs : List Attempt). ticks_at qs a) last in
        ap (λ (qs : List Attempt). kept_at (counted_all (counted r x) qs) a) last ∙ kept-one r x a none ∙ omega (arith, cons, none_left)
    by_place (Some w) is rest = omega (arith, rest w is, kept-one r x a none, cons)
