-- The digits of a hundred of ticks.
use Rattle.std.specs.Prelude.{◌≡◌, ℕ, ◌/◌, ◌%◌, ◌≤◌, List, take, decimal}
use Rattle.rt_words.specs.Limits.{tick_limit}

-- it begins at a multiple of 100; these are the digits of how many hundreds that is, where there are some
pub record AreDigits (first : ℕ) (digits : List ℕ) (count : ℕ) : Type 0 where
  pub whole : first % 100 ≡ 0
  pub limit : first ≤ tick_limit
  pub few : count ≤ 16
  pub front : 100 ≤ first → take count digits ≡ decimal (first / 100)
