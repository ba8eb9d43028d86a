-- A text that is offered to a sink through a writer which counts the bytes that were taken.
use Rattle.std.specs.Prelude.{◌≡◌, ℕ, ◌+◌, List, length, true, false}
use Rattle.rt_sink.specs.Seen.{Seen}
use Rattle.rt_sink.specs.Sink.{Took, TookFirst}

-- From a count of `before` bytes to one of `after`: a sink that had failed stays as it is, one that is open at the end took
-- all of the text, and one that failed here took a part of it.
pub record Offers {S : Type 0} (seen : S → Seen) (before : ℕ) (old : S) (text : List ℕ) (after : ℕ) (new : S) : Type 0 where
  pub stays : (seen old).failed ≡ true → (new ≡ old) × (after ≡ before)
  pub whole : (seen new).failed ≡ false → Took seen old text new × (after ≡ before + length text)
  pub stopped : (seen old).failed ≡ false → (seen new).failed ≡ true → (n : ℕ) × (after ≡ before + n) × TookFirst seen old text n new
