-- The rows of a table in the code, and the places at which their names are looked for.
use Rattle.std.specs.Prelude.{ℕ, ◌+◌, ◌*◌, ◌/◌, ◌%◌, ◌^◌, List, [], ◌∷◌, Bool, true, ◌&&◌, ◌==◌, get_or}
use Rattle.std.specs.Borrow.{Bor}

-- a row without where its name lies in memory
abbrev pub seen_row : {V : Type 0} → Bor (List ℕ) × V → List ℕ × V
seen_row row = (row.0.now, row.1)

-- a sum over the bytes of a name, which goes on from another
abbrev pub mark_sum : ℕ → List ℕ → ℕ
mark_sum sum [] = sum
mark_sum sum (b ∷ bs) = mark_sum ((sum + b) * 183630065 % 2 ^ 32) bs

-- the mark of a name, one of 256
abbrev pub mark : List ℕ → ℕ
mark name = mark_sum 0 name / 2 ^ 24

-- rows, of which the first has this number, stand where the places of their names' marks say
abbrev pub are_placed : {V : Type 0} → List ℕ → ℕ → List (List ℕ × V) → Bool
are_placed places n [] = true
are_placed places n (row ∷ rows) = get_or places (mark row.0) 0 == n && are_placed places (n + 1) rows
