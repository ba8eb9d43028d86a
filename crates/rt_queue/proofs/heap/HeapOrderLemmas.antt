-- Lemmas on the order of a heap, over any entries by place.
use Rattle.rt_queue.proofs.Common.{◌≡◌, ◌≢◌, ℕ, zero, suc, ◌+◌, ◌<◌, ◌≤◌, sym, subst, inl, inr, arith, cases_eq, NotAfter, above, IsRising, IsSinking, IsLeastBelow}
use Rattle.rt_queue.specs.heap.HeapOrder.{IsOrdered}
use Rattle.rt_queue.proofs.OrderLemmas.{NotAfter-refl, NotAfter-same, NotAfter-trans}

-- two entries change places
pub record AreExchanged (entry next : ℕ → ℕ × ℕ) (one other : ℕ) : Type 0 where
  pub at_one : next one ≡ entry other
  pub at_other : next other ≡ entry one
  pub elsewhere : (place : ℕ) → place ≢ one → place ≢ other → next place ≡ entry place

-- an entry that moves up one place, past the entry above it
pub rising-step : (entry next : ℕ → ℕ × ℕ) (len moving : ℕ) → IsRising entry len moving → 0 < moving →
    NotAfter (entry moving) (entry (above moving)) → AreExchanged entry next moving (above moving) →
    IsRising next len (above moving)
rising-step entry next len moving rising positive before exchanged = record {
  within = omega (arith, rising.within);
  others = others;
  past = past;
}
  where
    others : (place : ℕ) → 0 < place → place < len → place ≢ above moving → NotAfter (next (above place)) (next place)
    others place low high apart =
        elim (cases_eq place moving) [
          | inl same ↦ subst (λ p. NotAfter (next (above p)) (next p)) (sym same)
              (NotAfter-same (entry moving) (next (above moving)) (entry (above moving)) (next moving) exchanged.at_other exchanged.at_one before)
          | inr other ↦
              elim (cases_eq (above place) moving) [
                | inl under ↦
                    NotAfter-same (entry (above moving)) (next (above place)) (entry place) (next place)
                    (subst (λ p. next p ≡ entry (above moving)) (sym under) exchanged.at_one)
                    (exchanged.elsewhere place other apart)
                    (rising.past place low high under positive)
                | inr not_under ↦
                    elim (cases_eq (above place) (above moving)) [
                      | inl beside ↦
                          NotAfter-same (entry moving) (next (above place)) (entry place) (next place)
                          (subst (λ p. next p ≡ entry moving) (sym beside) exchanged.at_other)
                          (exchanged.elsewhere place other apart)
                          (NotAfter-trans (entry moving) (entry (above moving)) (entry place) before
                          (subst (λ p. NotAfter (entry p) (entry place)) beside (rising.others place low high other)))
                      | inr not_beside ↦
                          NotAfter-same (entry (above place)) (next (above place)) (entry place) (next place)
                          (exchanged.elsewhere (above place) not_under not_beside)
                          (exchanged.elsewhere place other apart)
                          (rising.others place low high other)
                    ]
              ]
        ]

    past : (place : ℕ) → 0 < place → place < len → above place ≡ above moving → 0 < above moving →
        NotAfter (next (above (above moving))) (next place)
    past place low high beside deep =
        let kept : next (above (above moving)) ≡ entry (above (above moving)) =
        exchanged.elsewhere (above (above moving)) (λ same. absurd (omega (arith, same))) (λ same. absurd (omega (arith, same))) in
        let over : NotAfter (entry (above (above moving))) (entry (above moving)) =
        rising.others (above moving) deep (omega (arith, rising.within)) (λ same. absurd (omega (arith, same))) in
        elim (cases_eq place moving) [
          | inl same ↦
              NotAfter-same (entry (above (above moving))) (next (above (above moving))) (entry (above moving)) (next place) kept
              (subst (λ p. next p ≡ entry (above moving)) (sym same) exchanged.at_one) over
          | inr other ↦
              NotAfter-same (entry (above (above moving))) (next (above (above moving))) (entry place) (next place) kept
              (exchanged.elsewhere place other (λ same. absurd (omega (arith, same, beside))))
              (NotAfter-trans (entry (above (above moving))) (entry (above moving)) (entry place) over
              (subst (λ p. NotAfter (entry p) (entry place)) beside (rising.others place low high other)))
        ]

-- an entry that need not move up any more
pub rising-end : (entry : ℕ → ℕ × ℕ) (len moving : ℕ) → IsRising entry len moving →
    (0 < moving → NotAfter (entry (above moving)) (entry moving)) → IsOrdered entry len
rising-end entry len moving rising fits place low high =
    elim (cases_eq place moving) [
      | inl same ↦ subst (λ p. NotAfter (entry (above p)) (entry p)) (sym same) (fits (omega (arith, same)))
      | inr other ↦ rising.others place low high other
    ]

-- the place right below another is another one
pub least-apart : (entry : ℕ → ℕ × ℕ) (len place least : ℕ) → IsLeastBelow entry len place least → place ≢ least
least-apart entry len place least below same = absurd (omega (arith, same, below.below, below.positive))

-- an entry that moves down one place, past the first of the entries right below it
pub sinking-step : (entry next : ℕ → ℕ × ℕ) (len moving least : ℕ) → IsSinking entry len moving → IsLeastBelow entry len moving least →
    NotAfter (entry least) (entry moving) → AreExchanged entry next moving least → IsSinking next len least
sinking-step entry next len moving least sinking below before exchanged = record {
  within = below.within;
  others = others;
  past = past;
}
  where
    under : (place : ℕ) → above place ≡ moving → 0 < place → place ≢ moving
    under place is low same = absurd (omega (arith, is, same))

    others : (place : ℕ) → 0 < place → place < len → above place ≢ least → NotAfter (next (above place)) (next place)
    others place low high apart =
        elim (cases_eq (above place) moving) [
          | inl is ↦
              elim (cases_eq place least) [
                | inl same ↦
                    NotAfter-same (entry least) (next (above place)) (entry moving) (next place)
                    (subst (λ p. next p ≡ entry least) (sym is) exchanged.at_one)
                    (subst (λ p. next p ≡ entry moving) (sym same) exchanged.at_other) before
                | inr other ↦
                    NotAfter-same (entry least) (next (above place)) (entry place) (next place)
                    (subst (λ p. next p ≡ entry least) (sym is) exchanged.at_one)
                    (exchanged.elsewhere place (under place is low) other)
                    (below.first place low high is)
              ]
          | inr is_not ↦
              elim (cases_eq place moving) [
                | inl same ↦
                    NotAfter-same (entry (above place)) (next (above place)) (entry least) (next place)
                    (exchanged.elsewhere (above place) is_not apart)
                    (subst (λ p. next p ≡ entry least) (sym same) exchanged.at_one)
                    (subst (λ p. NotAfter (entry (above p)) (entry least)) (sym same) (sinking.past least below.positive below.within below.below (omega (arith, same))))
                | inr other ↦
                    NotAfter-same (entry (above place)) (next (above place)) (entry place) (next place)
                    (exchanged.elsewhere (above place) is_not apart)
                    (exchanged.elsewhere place other (λ same. is_not (subst (λ p. above p ≡ moving) (sym same) below.below)))
                    (sinking.others place low high is_not)
              ]
        ]

    past : (place : ℕ) → 0 < place → place < len → above place ≡ least → 0 < least → NotAfter (next (above least)) (next place)
    past place low high is deep =
        let over : above least ≡ moving = below.below in
        let lower : 0 < least = below.positive in
        NotAfter-same (entry least) (next (above least)) (entry place) (next place)
        (subst (λ p. next p ≡ entry least) (sym over) exchanged.at_one)
        (exchanged.elsewhere place (λ same. absurd (omega (arith, same, is, over, low, lower))) (λ same. absurd (omega (arith, same, is, lower))))
        (subst (λ p. NotAfter (entry p) (entry place)) is
        (sinking.others place low high (λ same. absurd (omega (arith, same, is, over, lower)))))

-- an entry that need not move down any more
pub sinking-end : (entry : ℕ → ℕ × ℕ) (len moving : ℕ) → IsSinking entry len moving →
    ((place : ℕ) → 0 < place → place < len → above place ≡ moving → NotAfter (entry moving) (entry place)) → IsOrdered entry len
sinking-end entry len moving sinking fits place low high =
    elim (cases_eq (above place) moving) [
      | inl is ↦ subst (λ p. NotAfter (entry p) (entry place)) (sym is) (fits place low high is)
      | inr other ↦ sinking.others place low high other
    ]

-- the entry at the top comes first of all
pub top-first : (entry : ℕ → ℕ × ℕ) (len : ℕ) → IsOrdered entry len → (place : ℕ) → place < len → NotAfter (entry 0) (entry place)
top-first entry len ordered place high = go (suc place) place high (omega arith)
  where
    go : (steps : ℕ) → (place : ℕ) → place < len → place < steps → NotAfter (entry 0) (entry place)
    go zero place high few = absurd (omega (arith, few))
    go (suc steps) place high few =
        elim (cases_eq place 0) [
          | inl same ↦ subst (λ p. NotAfter (entry 0) (entry p)) (sym same) (NotAfter-refl (entry 0))
          | inr other ↦
              let low : 0 < place = omega arith in
              NotAfter-trans (entry 0) (entry (above place)) (entry place)
              (go steps (above place) (omega arith) (omega arith)) (ordered place low high)
        ]

-- one more entry behind the last may have to move up
pub added-rising : (entry next : ℕ → ℕ × ℕ) (len : ℕ) → IsOrdered entry len → ((place : ℕ) → place < len → next place ≡ entry place) →
    IsRising next (len + 1) len
added-rising entry next len ordered same = record {
  within = omega arith;
  others = λ place low high apart.
      NotAfter-same (entry (above place)) (next (above place)) (entry place) (next place)
      (same (above place) (omega arith)) (same place (omega arith)) (ordered place low (omega arith));
  past = λ place low high is positive. absurd (omega (arith, is, high, low));
}

-- the last entry was taken away, or put in place of another one
abbrev pub IsReplaced : (ℕ → ℕ × ℕ) → (ℕ → ℕ × ℕ) → ℕ → ℕ → Type 0
IsReplaced entry next last was = (place : ℕ) → place < last → place ≢ was → next place ≡ entry place

-- what is below the replaced entry doesn't come before what was above it
replaced-past : (entry next : ℕ → ℕ × ℕ) (len last was place : ℕ) → IsOrdered entry len → last < len → was < last → IsReplaced entry next last was →
    0 < place → place < last → above place ≡ was → 0 < was → NotAfter (next (above was)) (next place)
replaced-past entry next len last was place ordered shorter within same low high is positive =
    NotAfter-same (entry (above was)) (next (above was)) (entry place) (next place)
    (same (above was) (omega (arith, within)) (λ e. absurd (omega (arith, e, positive))))
    (same place high (λ e. absurd (omega (arith, e, is, low))))
    (NotAfter-trans (entry (above was)) (entry was) (entry place)
    (ordered was positive (omega (arith, within, shorter)))
    (subst (λ p. NotAfter (entry p) (entry place)) is (ordered place low (omega (arith, high, shorter)))))

-- where it comes before the entry above, it may have to move up
pub replaced-rising : (entry next : ℕ → ℕ × ℕ) (len last was : ℕ) → IsOrdered entry len → last < len → was < last → IsReplaced entry next last was →
    0 < was → NotAfter (next was) (next (above was)) → IsRising next last was
replaced-rising entry next len last was ordered shorter within same positive before = record {
  within = within;
  others = λ place low high apart.
      elim (cases_eq (above place) was) [
        | inl is ↦ subst (λ p. NotAfter (next p) (next place)) (sym is)
            (NotAfter-trans (next was) (next (above was)) (next place) before
            (replaced-past entry next len last was place ordered shorter within same low high is positive))
        | inr other ↦
            NotAfter-same (entry (above place)) (next (above place)) (entry place) (next place)
            (same (above place) (omega (arith, high)) other) (same place high apart) (ordered place low (omega (arith, high, shorter)))
      ];
  past = λ place low high is deep. replaced-past entry next len last was place ordered shorter within same low high is deep;
}

-- and else down
pub replaced-sinking : (entry next : ℕ → ℕ × ℕ) (len last was : ℕ) → IsOrdered entry len → last < len → was < last → IsReplaced entry next last was →
    (0 < was → NotAfter (next (above was)) (next was)) → IsSinking next last was
replaced-sinking entry next len last was ordered shorter within same after = record {
  within = within;
  others = λ place low high other.
      elim (cases_eq place was) [
        | inl is ↦ subst (λ p. NotAfter (next (above p)) (next p)) (sym is) (after (omega (arith, is, low)))
        | inr apart ↦
            NotAfter-same (entry (above place)) (next (above place)) (entry place) (next place)
            (same (above place) (omega (arith, high)) other) (same place high apart) (ordered place low (omega (arith, high, shorter)))
      ];
  past = λ place low high is deep. replaced-past entry next len last was place ordered shorter within same low high is deep;
}

-- where it was the last one itself, the rest is a heap
pub replaced-ordered : (entry next : ℕ → ℕ × ℕ) (len last was : ℕ) → IsOrdered entry len → last < len → last ≤ was → IsReplaced entry next last was →
    IsOrdered next last
replaced-ordered entry next len last was ordered shorter within same place low high =
    NotAfter-same (entry (above place)) (next (above place)) (entry place) (next place)
    (same (above place) (omega (arith, high)) (λ e. absurd (omega (arith, e, high, within))))
    (same place high (λ e. absurd (omega (arith, e, high, within))))
    (ordered place low (omega (arith, high, shorter)))
