-- A text that is offered in parts, one after the other, is offered as a whole.
use Rattle.std.proofs.Common.{ℕ, ◌+◌, List, [], ◌++◌, refl, ◌∙◌, arith}
use Rattle.rt_sink.specs.Seen.{Seen}
use Rattle.rt_sink.specs.Offers.{Offers}
use Rattle.rt_sink.proofs.Parts.{Offers-nil, Offers-then}
use Rattle.rt_text_out.specs.Offered.{Offered}

module _ {S : Type 0} (seen : S → Seen) where
  -- no text at all
  pub offered-nothing : (l k : ℕ) (a : S) → Offered seen l k a [] l k a
  offered-nothing l k a = record { same = refl; taken = 0; offers = Offers-nil seen 0 a; counts = omega arith }

  -- the same text, counted from k bytes on
  pub offers-from : (k : ℕ) (a : S) (xs : List ℕ) (n : ℕ) (b : S) → Offers seen 0 a xs n b → Offers seen k a xs (k + n) b
  offers-from k a xs n b p = record {
    stays = λ shut. ((p.stays shut).0, omega (arith, (p.stays shut).1));
    whole = λ opened. ((p.whole opened).0, omega (arith, (p.whole opened).1));
    stopped = λ opened shut. let q = p.stopped opened shut in (q.0, omega (arith, q.1), q.2);
  }

  -- two parts
  pub offered-joined : (l k : ℕ) (a : S) (xs : List ℕ) (i m : ℕ) (b : S) (ys : List ℕ) (j n : ℕ) (c : S) → Offered seen l k a xs i m b → Offered seen i m b ys j n c
      → Offered seen l k a (xs ++ ys) j n c
  offered-joined l k a xs i m b ys j n c p q = record {
    same = q.same ∙ p.same;
    taken = p.taken + q.taken;
    offers = Offers-then seen 0 a xs p.taken b ys (p.taken + q.taken) c p.offers (offers-from p.taken b ys q.taken c q.offers);
    counts = omega (arith, p.counts, q.counts);
  }
