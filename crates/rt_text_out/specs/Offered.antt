-- A text that is offered to a sink through a writer, whose count stops at 2^64 - 1.
use Rattle.std.specs.Prelude.{◌≡◌, ℕ, List}
use Rattle.rt_sink.specs.Seen.{Seen}
use Rattle.rt_sink.specs.Buffered.{counted}
use Rattle.rt_sink.specs.Offers.{Offers}

-- From a count of k bytes to one of m, on one loan: as a text is offered from a count of none to one of so many bytes, by which the
-- count grew.
pub record Offered {S : Type 0} (seen : S → Seen) (loan k : ℕ) (old : S) (text : List ℕ) (loan' m : ℕ) (new : S) : Type 0 where
  pub same : loan' ≡ loan
  pub taken : ℕ
  pub offers : Offers seen 0 old text taken new
  pub counts : counted 0 m ≡ counted k taken
