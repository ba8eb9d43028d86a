-- What is said of names that are left out.
use Rattle.std.specs.Prelude.{◌≡◌, ℕ, zero, suc, List, Option}
use Rattle.rt_perform.specs.FirstLine.{SaysLine}
use Rattle.rt_perform.specs.Performs.{left_out_text}

-- nothing where none are, else a line
abbrev pub IsLeftOut : ℕ → Option (List ℕ) → Option (List ℕ) → Type 0
IsLeftOut zero old new = new ≡ old
IsLeftOut (suc n) old new = SaysLine old (left_out_text (suc n)) new
