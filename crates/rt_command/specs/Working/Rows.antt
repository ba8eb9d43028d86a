-- The rows of the table of verbs, as contracts see them.
use Rattle.std.specs.Prelude.{ℕ, List}
use Rattle.std.specs.Borrow.{Bor}
use Rattle.rt_command.specs.declared.verb.Verb.{Verb}

-- a row without where its name lies in memory
abbrev pub seen_row : Bor (List ℕ) × Verb → List ℕ × Verb
seen_row row = (row.0.now, row.1)
