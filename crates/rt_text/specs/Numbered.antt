-- The lines of a text by their numbers.
use Rattle.std.specs.Prelude.{ℕ, ◌-◌, ◌==◌, if◌then◌else◌, List, [], ◌∷◌, Option, Some, None}
use Rattle.rt_token.specs.SourceLines.{source_lines}

-- the n-th of lines, counted from 1, without its place
abbrev pub nth_line : ℕ → List (ℕ × List ℕ) → Option (List ℕ)
nth_line n [] = None
nth_line n (l ∷ ls) = if n == 1 then Some l.1 else nth_line (n - 1) ls

-- the line of this number of a text, without its end; none where it has fewer
abbrev pub numbered_line : List ℕ → ℕ → Option (List ℕ)
numbered_line text number = nth_line number (source_lines 0 text)
