-- The line that defines a label first.
use Rattle.std.specs.Prelude.{ℕ, ◌+◌, if◌then◌else◌, List, [], ◌∷◌, Option, Some, None}
use Rattle.std.specs.List.{list_any}
use Rattle.std.specs.Str.{bytes_eq}
use Rattle.rt_text.specs.Line.{SourceLine}

-- the number of the first line that defines a label; the first of the lines is line n
abbrev pub defining_line : ℕ → List SourceLine → List ℕ → Option ℕ
defining_line n [] name = None
defining_line n (l ∷ ls) name = if list_any (λ s. bytes_eq s.text name) l.labels then Some n else defining_line (n + 1) ls name
