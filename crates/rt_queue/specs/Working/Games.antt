-- The games of a tournament (Knuth 1998, section 5.4.1): who sits at a seat, and what holds of all of them.
use Rattle.std.specs.Prelude.{◌≡◌, ◌≢◌, ℕ, zero, suc, ◌+◌, ◌*◌, ◌^◌, ◌<◌, ◌≤◌, ◌⊎◌, ◌==◌, if◌then◌else◌, List, [], ◌∷◌, slice_index_or, Option, None, Some}
use Rattle.rt_queue.specs.Order.{NotAfter}

-- who sits where there is no entry
abbrev pub nobody : ℕ × ℕ
nobody = (18446744073709551615, 4294967295)

-- who may sit at a number's seat at the bottom
abbrev pub IsEntrant : ℕ → ℕ × ℕ → Type 0
IsEntrant number entry = (entry ≡ nobody) ⊎ ((entry.1 ≡ number) × (entry.0 < 2 ^ 64))

-- the key that the one who sits there stands for
abbrev pub key_in : ℕ × ℕ → Option ℕ
key_in entry = if entry.1 == 4294967295 then None else Some entry.0

-- the keys of so many seats, from a seat on
abbrev pub keys_from : (ℕ → ℕ × ℕ) → ℕ → ℕ → List (Option ℕ)
keys_from entry seat zero = []
keys_from entry seat (suc count) = key_in (entry seat) ∷ keys_from entry (seat + 1) count

-- who sits at a seat once this one is given to a winner
abbrev pub played_at : ℕ → ℕ × ℕ → (ℕ → ℕ × ℕ) → ℕ → ℕ × ℕ
played_at seat winner entry other = if other == seat then winner else entry other

-- who sits at a seat: the one at the top, which is seat 1, is kept apart from the others
abbrev pub seat_at : ℕ × ℕ → List (ℕ × ℕ) → ℕ → ℕ × ℕ
seat_at first seats = played_at 1 first (λ seat. slice_index_or seats seat (0, 0))

-- at a seat sits one of the two below it, and none of them comes before that one
pub record IsWon (entry : ℕ → ℕ × ℕ) (seat : ℕ) : Type 0 where
  pub one : (entry seat ≡ entry (2 * seat)) ⊎ (entry seat ≡ entry (2 * seat + 1))
  pub left : NotAfter (entry seat) (entry (2 * seat))
  pub right : NotAfter (entry seat) (entry (2 * seat + 1))

-- so it is at each seat above the bottom
abbrev pub AreWon : (ℕ → ℕ × ℕ) → ℕ → Type 0
AreWon entry leaves = (seat : ℕ) → 0 < seat → seat < leaves → IsWon entry seat

-- and at each but one, where an entry has changed
abbrev pub AreWonBut : (ℕ → ℕ × ℕ) → ℕ → ℕ → Type 0
AreWonBut entry leaves but = (seat : ℕ) → 0 < seat → seat < leaves → seat ≢ but → IsWon entry seat

-- what holds of each tournament
pub record IsTournament (entry : ℕ → ℕ × ℕ) (seats leaves capacity : ℕ) : Type 0 where
  pub some : 0 < leaves
  pub few : leaves < 2 ^ 32
  pub room : capacity ≤ leaves
  pub double : seats ≡ 2 * leaves
  pub bottom : (number : ℕ) → number < leaves → IsEntrant number (entry (leaves + number))
  pub rest : (number : ℕ) → capacity ≤ number → number < leaves → entry (leaves + number) ≡ nobody
  pub won : AreWon entry leaves
