-- A number, and the digits of its hundreds.
use Rattle.std.specs.Prelude.{◌≡◌, ℕ, ◌+◌, ◌-◌, ◌/◌, ◌%◌, ◌^◌, ◌≤◌, ◌<◌, List, length, take, drop, decimal}

-- the number is of the hundred that begins with `first`, and the digits of how many hundreds that is end at the twentieth byte
pub record AreHundreds (number first : ℕ) (bytes : List ℕ) (start : ℕ) : Type 0 where
  pub whole : first % 100 ≡ 0
  pub begun : first ≤ number
  pub within : number < first + 100
  pub small : number < 2 ^ 64
  pub size : length bytes ≡ 52
  pub count : start + length (decimal (first / 100)) ≡ 20
  pub digits : take (20 - start) (drop start bytes) ≡ decimal (first / 100)
