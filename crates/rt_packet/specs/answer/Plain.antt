-- Bytes that a payload carries without an escape.
use Rattle.std.specs.Prelude.{◌≡◌, ℕ, ◌==◌, ◌&&◌, not, nat_lt, Bool, true, List, All}

-- printable, and none of '#', '$', '*' and '}'
abbrev pub is_carried : ℕ → Bool
is_carried b = nat_lt 31 b && nat_lt b 127 && not (b == 35) && not (b == 36) && not (b == 42) && not (b == 125)

-- a payload of such bytes
abbrev pub IsCarried : List ℕ → Type 0
IsCarried payload = All (λ b. is_carried b ≡ true) payload
