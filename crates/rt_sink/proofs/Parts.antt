-- A text that is offered in parts, one after the other, is offered as a whole.
use Rattle.std.proofs.Common.{◌≡◌, ℕ, ◌+◌, ◌≤◌, List, [], ◌++◌, length, length-append, take, true, false, inl, inr, refl, sym, ap, subst, ◌∙◌, arith}
use Rattle.std.proofs.lemmas.Bool.{cases_Bool}
use Rattle.std.proofs.lemmas.List.{take-append-le}
use Rattle.std.proofs.Math.Seq.{take-append-add}
use Rattle.std.proofs.KnownBytes.{Appends-nil, Appends-trans}
use Rattle.std.specs.Io.KnownBytes.{Appends}
use Rattle.rt_sink.specs.Seen.{Seen}
use Rattle.rt_sink.specs.Sink.{TookFirst}
use Rattle.rt_sink.specs.Offers.{Offers}

module _ {S : Type 0} (seen : S → Seen) where
  -- no text at all
  pub Offers-nil : (k : ℕ) (a : S) → Offers seen k a [] k a
  Offers-nil k a = record {
    stays = λ _. (refl, refl);
    whole = λ opened. (record { is_open = opened; took = Appends-nil (seen a).contents }, omega arith);
    stopped = λ opened shut. absurd cc;
  }

  -- nothing more is offered to a sink that has failed
  pub Offers-failed : (k : ℕ) (a : S) (xs ys : List ℕ) (m : ℕ) (b : S) → (seen b).failed ≡ true → Offers seen k a xs m b → Offers seen k a (xs ++ ys) m b
  Offers-failed k a xs ys m b shut p = record {
    stays = p.stays;
    whole = λ opened. absurd cc;
    stopped = λ opened _.
        let q = p.stopped opened shut in (
          q.0,
          q.1,
          record {
            part = omega (arith, q.2.part, length-append xs ys);
            is_failed = shut;
            took = subst (Appends (seen a).contents (seen b).contents) (sym (take-append-le q.0 xs ys (omega (arith, q.2.part)))) q.2.took;
          },
        );
  }

  open_before : (k : ℕ) (a : S) (xs : List ℕ) (m : ℕ) (b : S) → (seen b).failed ≡ false → Offers seen k a xs m b → (seen a).failed ≡ false
  open_before k a xs m b opened p =
      elim (cases_Bool (seen a).failed) [
        | inl shut ↦ let same = (p.stays shut).0 in absurd cc
        | inr e ↦ e
      ]

  stopped_then : (k : ℕ) (a : S) (xs : List ℕ) (m : ℕ) (b : S) (ys : List ℕ) (n : ℕ) (c : S) → Offers seen k a xs m b → Offers seen m b ys n c
      → (seen a).failed ≡ false → (seen c).failed ≡ true → (i : ℕ) × (n ≡ k + i) × TookFirst seen a (xs ++ ys) i c
  stopped_then k a xs m b ys n c p q opened shut =
      elim (cases_Bool (seen b).failed) [
        | inl was ↦
            let same = q.stays was in
            let made = (Offers-failed k a xs ys m b was p).stopped opened was in
            (made.0, same.1 ∙ made.1, subst (TookFirst seen a (xs ++ ys) made.0) (sym same.0) made.2)
        | inr is ↦
            let first = p.whole is in
            let second = q.stopped is shut in (
              length xs + second.0,
              omega (arith, first.1, second.1),
              record {
                part = omega (arith, second.2.part, length-append xs ys);
                is_failed = shut;
                took = subst (Appends (seen a).contents (seen c).contents) (sym (take-append-add xs ys second.0)) (Appends-trans _ _ _ xs (take second.0 ys) first.0.took second.2.took);
              },
            )
      ]

  -- two parts
  pub Offers-then : (k : ℕ) (a : S) (xs : List ℕ) (m : ℕ) (b : S) (ys : List ℕ) (n : ℕ) (c : S) → Offers seen k a xs m b → Offers seen m b ys n c
      → Offers seen k a (xs ++ ys) n c
  Offers-then k a xs m b ys n c p q = record {
    stays = λ shut.
        let first = p.stays shut in
        let second = q.stays (ap (λ s. (seen s).failed) first.0 ∙ shut) in
        (second.0 ∙ first.0, second.1 ∙ first.1);
    whole = λ opened.
        let second = q.whole opened in
        let first = p.whole (open_before m b ys n c opened q) in
        (record { is_open = opened; took = Appends-trans _ _ _ xs ys first.0.took second.0.took }, omega (arith, first.1, second.1, length-append xs ys));
    stopped = stopped_then k a xs m b ys n c p q;
  }

  -- no more bytes are counted than were offered
  pub Offers-bound : (k : ℕ) (a : S) (xs : List ℕ) (m : ℕ) (b : S) → Offers seen k a xs m b → m ≤ k + length xs
  Offers-bound k a xs m b p =
      elim (cases_Bool (seen a).failed) [
        | inl shut ↦ omega (arith, (p.stays shut).1)
        | inr opened ↦
            elim (cases_Bool (seen b).failed) [
              | inl shut ↦ let q = p.stopped opened shut in omega (arith, q.1, q.2.part)
              | inr is ↦ omega (arith, (p.whole is).1)
            ]
      ]
