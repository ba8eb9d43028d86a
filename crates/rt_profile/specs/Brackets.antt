-- The brackets by which needs are counted: single numbers below 32, and from there on 1/32 to 1/16 of their numbers long.
use Rattle.std.specs.Prelude.{ℕ, ◌+◌, ◌-◌, ◌%◌, ◌^◌}
use Rattle.std.specs.Int.{w64, leading_zeros}

-- how many binary digits a number below 2^64 has, and how many of them beyond five
abbrev pub binary_digits : ℕ → ℕ
binary_digits v = 64 - leading_zeros w64 v

abbrev pub digits_beyond : ℕ → ℕ
digits_beyond v = binary_digits v - 5

-- the first and the last number of the bracket of v
abbrev pub bracket_from : ℕ → ℕ
bracket_from v = v - v % 2 ^ digits_beyond v

abbrev pub bracket_to : ℕ → ℕ
bracket_to v = bracket_from v + (2 ^ digits_beyond v - 1)
