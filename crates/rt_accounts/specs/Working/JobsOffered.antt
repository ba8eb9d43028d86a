-- How a text goes on at a sink.
use Rattle.std.specs.Prelude.{◌≡◌, ℕ, List, ◌++◌}
use Rattle.rt_sink.specs.Seen.{Seen}
use Rattle.rt_sink.specs.Offers.{Offers}

-- the text `from` has grown by this to the text `to`, and so much was offered
pub record OffersMore {S : Type 0} (seen : S → Seen) (from to : List ℕ) (before : ℕ) (old : S) (after : ℕ) (new : S) : Type 0 where
  pub more : List ℕ
  pub grown : to ≡ from ++ more
  pub offered : Offers seen before old more after new
